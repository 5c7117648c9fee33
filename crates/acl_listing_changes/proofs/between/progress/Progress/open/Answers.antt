use Rattle.std.proofs.Common.{rules, refl}
use Rattle.acl_listing_changes.specs.ChangeSteps.{IsStep, Left}
use Rattle.acl_listing_changes.specs.declared.between.progress.Stage.TheVariants as stage
use Rattle.acl_listing_changes.proofs.ChangeLemmas.{step_opening}
use Rattle.acl_listing_changes.proofs.between.progress.Progress.open.Goals as goal

pub returns : goal.returns
returns g c =
    let wording = g.C.ChangeReporter.wording c.args.sides.now.reporter.now in
    let name = c.args.sides.now.name.now in
    let before = c.args.sides.now.before.now in
    let old : Left = c.args.self.now in
    let new : Left = record old { stage = stage.After } in
    let step : IsStep wording name before old new c.args.out.now.items c.args.out.now.items c.args.beside.now.items c.extend_from_slice.new.self.items =
    step_opening wording name before old new c.requires refl c.args.out.now.items c.args.beside.now.items c.extend_from_slice.new.self.items (search rules) in
    search (rules, step)
