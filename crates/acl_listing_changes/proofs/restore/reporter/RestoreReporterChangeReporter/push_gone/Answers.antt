use Rattle.std.proofs.Common.{rules, ◌≡◌, true, false, [], append-nil, is_none, is_some, refl, sym}
use Rattle.std.proofs.lemmas.Result.{on_ok_weaker}
use Rattle.acl_listing_changes.specs.Restoring.{restore_fault, restoring}
use Rattle.acl_listing_changes.proofs.ReporterLemmas.{is_nothing, not_none, nothing_if, reported_if}
use Rattle.acl_listing_changes.proofs.restore.reporter.RestoreReporterChangeReporter.push_gone.Goals as goal

pub returns-then-is_some : goal.returns-then-is_some
returns-then-is_some c =
    let some : is_some (restore_fault c.args.old.now) ≡ true = search rules in
    nothing_if (is_none (restore_fault c.args.old.now)) (restoring.IsGone c.args.old.now) (not_none (restore_fault c.args.old.now) some) c.args._out.now.items c.args.beside.now.items

pub returns : goal.returns
returns c =
    let none : is_some (restore_fault c.args.old.now) ≡ false = search rules in
    on_ok_weaker c.push_path_line.result
    (λ reported. reported_if (is_none (restore_fault c.args.old.now)) (restoring.IsGone c.args.old.now) (is_nothing (restore_fault c.args.old.now) none) c.args._out.now.items c.args._out.now.items
    c.args.beside.now.items c.push_path_line.new.beside.items (record { reported = []; said = _; reports = (refl, refl); out_is = sym (append-nil c.args._out.now.items); beside_is = reported }))
    c.push_path_line.ensures
