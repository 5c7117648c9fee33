use Rattle.std.proofs.Common.{rules, ◌≡◌, true, false, refl}
use Rattle.acl_cli.proofs.ReportingLemmas.{if_false, if_true}
use Rattle.acl_listings.specs.Cursor.{HandsOut, IsOver}
use Rattle.acl_listing_changes.specs.ChangeSteps.{IsStep, Left}
use Rattle.acl_listing_changes.specs.declared.between.progress.Stage.TheVariants as stage
use Rattle.acl_listing_changes.proofs.ChangeLemmas.{step_closing, step_here}
use Rattle.acl_listing_changes.proofs.between.progress.Progress.go_on.Goals as goal

pub returns-then-branch-clause-step : goal.returns-then-branch-clause-step
returns-then-branch-clause-step g c =
    let wording = g.C.ChangeReporter.wording c.args.sides.now.reporter.now in
    let name = c.args.sides.now.name.now in
    let before = c.args.sides.now.before.now in
    let old : Left = c.args.self.now in
    let mid : Left = c.advance.new.self in
    let some : c.in_ok-advance.field-0 ≡ true = search rules in
    let hands : HandsOut old.coming mid.block mid.coming = if_true _ _ _ some c.in_ok-advance.ensures.block in
    step_here wording name before old mid c.report_here.new.self c.requires hands c.in_ok-advance.ensures.rest c.in_ok-report_here.ensures.seen _ _ _ _ c.in_ok-report_here.ensures.reported

pub returns-clause-step : goal.returns-clause-step
returns-clause-step g c =
    let wording = g.C.ChangeReporter.wording c.args.sides.now.reporter.now in
    let name = c.args.sides.now.name.now in
    let before = c.args.sides.now.before.now in
    let old : Left = c.args.self.now in
    let mid : Left = c.advance.new.self in
    let new : Left = record mid { stage = stage.Gone 0 } in
    let none : c.in_ok-advance.field-0 ≡ false = search rules in
    let over : IsOver old.coming = if_false _ _ _ none c.in_ok-advance.ensures.block in
    let step : IsStep wording name before old new c.args.out.now.items c.args.out.now.items c.args.beside.now.items c.say_closing.new.beside.items =
    step_closing wording name before old mid new c.requires over c.in_ok-advance.ensures.rest refl c.args.out.now.items c.args.beside.now.items c.say_closing.new.beside.items (search rules) in
    search (rules, step)
