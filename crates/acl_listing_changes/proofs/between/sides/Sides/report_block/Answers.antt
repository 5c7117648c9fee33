use Rattle.std.proofs.Common.{◌≡◌, ◌∙◌, true, false, ap, is_none, subst, sym}
use Rattle.acl_listings.specs.Listing.{Block}
use Rattle.acl_reports.specs.Paths.{block_for}
use Rattle.acl_listing_changes.specs.ChangeSteps.{Appended, fault_here, is_marked}
use Rattle.acl_listing_changes.specs.Changes.{ReportsNextBy, unless_repeated}
use Rattle.acl_listing_changes.specs.Kept.{place_of}
use Rattle.acl_listing_changes.proofs.SidesLemmas.{some_repeated, reports_said}
use Rattle.acl_listing_changes.proofs.ResultLemmas.{IfOk-both}
use Rattle.acl_listing_changes.proofs.between.sides.Sides.report_block.Goals as goal

pub returns-then-is_met-clause-reported : goal.returns-then-is_met-clause-reported
returns-then-is_met-clause-reported g c = λ at.
    let wording = g.C.ChangeReporter.wording c.args.self.now.reporter.now in
    let before = c.args.self.now.before.now in
    let block : Block = record { line = c.args.line; text = c.args.text.now } in
    let name = c.args.self.now.name.now in
    let met : is_marked c.args.seen.now.met (place_of before block.text) ≡ true = ap (is_marked c.args.seen.now.met) (sym at) ∙ sym c.is_met.ensures ∙ c.if-is_met.true in
    let here : unless_repeated true (wording.fault block.text) ≡ fault_here wording before c.args.seen.now.met block.text = ap (λ b. unless_repeated b (wording.fault block.text)) (sym met) in
    IfOk-both c.say_block.result _ _ _
    (λ found is said.
    let same : found.fault ≡ fault_here wording before c.args.seen.now.met block.text = is ∙ here in
    let some : is_none found.fault ≡ false = ap is_none is ∙ some_repeated (wording.fault block.text) in
    let reports : Appended (ReportsNextBy wording name (block_for before block.text) block found.fault) c.args.out.now.items c.args.out.now.items c.args.beside.now.items c.say_block.new.out.items =
    reports_said wording name (block_for before block.text) block found.fault some c.args.out.now.items c.args.beside.now.items c.say_block.new.out.items said.0 said.1 said.2 in
    subst (λ fault. Appended (ReportsNextBy wording name (block_for before block.text) block fault) c.args.out.now.items c.args.out.now.items c.args.beside.now.items c.say_block.new.out.items)
    same reports)
    c.say_block.ensures.fault c.say_block.ensures.said
