use Rattle.std.proofs.Common.{◌≡◌, ◌∙◌, ◌++◌, ℕ, List, Ok, Err, ap, subst, sym}
use Rattle.acl_listings.specs.Listing.{Block}
use Rattle.acl_listings.specs.Faults.{IsFaultOf}
use Rattle.acl_listings.specs.declared.fault.BlockFault.{BlockFault}
use Rattle.acl_listings.specs.declared.fault.FileFault.{FileFault}
use Rattle.acl_reports.specs.Listed.{IsFaultLine, IsSaid, Part, reported_of}
use Rattle.acl_listing_queries.specs.WhyMeaning.{part_ending, readings}
use Rattle.acl_listing_queries.specs.WhySteps.{asked_by}
use Rattle.acl_listing_queries.specs.WhyText.{WhyAsking, why_part}
use Rattle.acl_listing_queries.proofs.why.answer.answer_block.Goals as goal

pub returns-in-Ok-clause-made : goal.returns-in-Ok-clause-made
returns-in-Ok-clause-made c = λ path earlier is kept.
    let asking : WhyAsking = asked_by c.args.question.now in
    let block : Block = record { line = c.args.line; text = c.args.text.now } in
    let part : Part = why_part asking (readings asking.names earlier) c.args.text.now in
    let reported : part ≡ Ok c.in-Ok.text.items = c.in-Ok.ensures.reported path (readings asking.names earlier) is kept in
    record {
      text = ap reported_of (sym reported);
      said = subst (λ part. IsSaid c.args.name.now asking.names block part c.new-beside.result.items) (sym reported) c.new-beside.ensures.items;
      ending = ap part_ending (sym reported);
    }

pub returns-in-Err-Block-clause-made : goal.returns-in-Err-Block-clause-made
returns-in-Err-Block-clause-made c = λ path earlier is kept.
    let asking : WhyAsking = asked_by c.args.question.now in
    let block : Block = record { line = c.args.line; text = c.args.text.now } in
    let part : Part = why_part asking (readings asking.names earlier) c.args.text.now in
    let fault : BlockFault = c.in-Err-Block.fault in
    let refused : part ≡ Err fault = subst (λ (failed : FileFault). IsFaultOf part failed) c.in-Err-Block.field-0-is (c.in-Err-Block.ensures.refused path (readings asking.names earlier) is kept) in
    let (said, is_line, all) = c.in_ok-push_fault-in-Err-Block.ensures.said in
    let beside : c.push_fault.new.out.items ≡ said = all ∙ ap (λ (front : List ℕ). front ++ said) c.new-beside.ensures.items in
    record {
      text = c.new.ensures.items ∙ ap reported_of (sym refused);
      said = subst (λ part. IsSaid c.args.name.now asking.names block part c.push_fault.new.out.items) (sym refused)
          (subst (λ (said : List ℕ). IsFaultLine c.args.name.now asking.names block fault said) (sym beside) is_line);
      ending = ap part_ending (sym refused);
    }
