use Rattle.std.proofs.Common.{rules, ◌+◌, ◌<◌, length, refl}
use Rattle.acl_listing_changes.specs.ChangeSteps.{Appended, IsStep, Left, ReportsMissing}
use Rattle.acl_listing_changes.specs.declared.between.progress.Stage.TheVariants as stage
use Rattle.acl_listing_changes.proofs.ChangeLemmas.{step_missing}
use Rattle.acl_listing_changes.proofs.between.progress.Progress.report_gone.Goals as goal

pub returns : goal.returns
returns g c =
    let wording = g.C.ChangeReporter.wording c.args.sides.now.reporter.now in
    let name = c.args.sides.now.name.now in
    let before = c.args.sides.now.before.now in
    let old : Left = c.args.self.now in
    let new : Left = record old { stage = stage.Gone (c.args.place + 1) } in
    let within : c.args.place < length before = search rules in
    let reported : Appended (ReportsMissing wording before old.seen.met c.args.place) c.args.out.now.items c.report_missing.new.out.items c.args.beside.now.items c.report_missing.new.beside.items = search rules in
    let step : IsStep wording name before old new c.args.out.now.items c.report_missing.new.out.items c.args.beside.now.items c.report_missing.new.beside.items =
    step_missing wording name before old new c.args.place c.requires within refl _ _ _ _ reported in
    search (rules, step)
