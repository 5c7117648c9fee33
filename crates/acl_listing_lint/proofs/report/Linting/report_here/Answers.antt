use Rattle.std.proofs.Common.{◌≡◌, ◌∙◌, List, ℕ, ap, refl, subst, sym}
use Rattle.acl_reports.specs.Listed.{Item, counted, with_item}
use Rattle.acl_reports.specs.declared.tally.Tally.{Tally}
use Rattle.acl_listing_lint.specs.Findings.{LintAsking}
use Rattle.acl_listing_lint.specs.LintSteps.{IsBlockReported}
use Rattle.acl_listing_lint.proofs.report.Linting.report_here.Goals as goal

pub returns-in-Some-clause-reported : goal.returns-in-Some-clause-reported
returns-in-Some-clause-reported g c =
    let was : Tally = c.args.self.now.tally in
    let asking : LintAsking = record { name = c.args.self.now.name.now; host = c.args.self.now.host.now } in
    let block = c.args.self.now.blocks.block in
    let seen = c.args.self.now.seen in
    let after = c.report_block.new.seen in
    let first = subst (λ (line : ℕ). IsBlockReported asking seen after (record { line = line; text = c.text-text.result.now }) c.in_ok-fault.fault
    c.args.out.now.items c.report_block.new.out.items c.args.beside.now.items c.report_block.new.beside.items) c.line-line.ensures c.in_ok-fault.ensures.reported in
    let here = subst (λ (text : List ℕ). IsBlockReported asking seen after (record { line = block.line; text = text }) c.in_ok-fault.fault
    c.args.out.now.items c.report_block.new.out.items c.args.beside.now.items c.report_block.new.beside.items) c.text-text.ensures first in
    let item : Item = record { block = block; part = here.part } in
    let (text, (said, is_said, beside), fault) = here.is_reported in
    let counted_is : c.add.new.self ≡ with_item was item =
    c.in-Some.ensures ∙ ap (λ text. counted was text c.in_ok-fault.fault) c.text-text.ensures ∙ ap (counted was block.text) (sym fault) in
    record { part = here.part; part_is = here.part_is; seen_is = here.seen_is; done = record { text = text; said = said; is_said = is_said; beside_is = beside; tally_is = counted_is; strangers_is = refl } }
