use Rattle.std.proofs.Common.{rules, ◌≡◌, true, false, [], append-nil, is_none, is_some, refl, sym}
use Rattle.acl_listing_changes.specs.Changes.{ReportsOld}
use Rattle.acl_listing_changes.specs.Restoring.{restore_fault, restoring}
use Rattle.acl_listing_changes.proofs.ReporterLemmas.{is_nothing, not_none, nothing_if, reported_if}
use Rattle.acl_listing_changes.proofs.restore.reporter.RestoreReporterChangeReporter.push_changed.Goals as goal

pub returns-then-is_some-clause-reported : goal.returns-then-is_some-clause-reported
returns-then-is_some-clause-reported c =
    let some : is_some c.fault_of-fault.result ≡ true = search rules in
    nothing_if (is_none c.fault_of-fault.result) (ReportsOld restoring c.args.old.now c.args.text.now) (not_none c.fault_of-fault.result some) c.args.out.now.items c.args._beside.now.items

pub returns-then-is_some-2-clause-reported : goal.returns-then-is_some-2-clause-reported
returns-then-is_some-2-clause-reported c =
    let none : is_some c.fault_of-fault.result ≡ false = search rules in
    let some : is_some (restore_fault c.args.old.now) ≡ true = search rules in
    reported_if (is_none c.fault_of-fault.result) (ReportsOld restoring c.args.old.now c.args.text.now) (is_nothing c.fault_of-fault.result none) c.args.out.now.items c.args.out.now.items
    c.args._beside.now.items c.args._beside.now.items
    (nothing_if (is_none (restore_fault c.args.old.now)) (restoring.IsChanged c.args.old.now c.args.text.now) (not_none (restore_fault c.args.old.now) some) c.args.out.now.items c.args._beside.now.items)

pub returns-clause-reported : goal.returns-clause-reported
returns-clause-reported c =
    let none : is_some c.fault_of-fault.result ≡ false = search rules in
    let whole : is_some (restore_fault c.args.old.now) ≡ false = search rules in
    reported_if (is_none c.fault_of-fault.result) (ReportsOld restoring c.args.old.now c.args.text.now) (is_nothing c.fault_of-fault.result none) c.args.out.now.items c.push_restored.new.out.items
    c.args._beside.now.items c.args._beside.now.items
    (reported_if (is_none (restore_fault c.args.old.now)) (restoring.IsChanged c.args.old.now c.args.text.now) (is_nothing (restore_fault c.args.old.now) whole) c.args.out.now.items
    c.push_restored.new.out.items c.args._beside.now.items c.args._beside.now.items
    (record { reported = _; said = []; reports = (refl, refl); out_is = c.in_ok-push_restored.ensures; beside_is = sym (append-nil c.args._beside.now.items) }))
