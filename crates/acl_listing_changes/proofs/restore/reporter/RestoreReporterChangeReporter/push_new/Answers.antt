use Rattle.std.proofs.Common.{rules, ◌≡◌, true, false, [], append-nil, is_none, is_some, refl, sym}
use Rattle.acl_listing_changes.specs.Restoring.{restoring}
use Rattle.acl_listing_changes.proofs.ReporterLemmas.{is_nothing, not_none, nothing_if, reported_if}
use Rattle.acl_listing_changes.proofs.restore.reporter.RestoreReporterChangeReporter.push_new.Goals as goal

pub returns-then-is_some-clause-reported : goal.returns-then-is_some-clause-reported
returns-then-is_some-clause-reported c =
    let some : is_some c.fault_of-fault.result ≡ true = search rules in
    nothing_if (is_none c.fault_of-fault.result) (restoring.IsNew c.args.text.now) (not_none c.fault_of-fault.result some) c.args._out.now.items c.args.beside.now.items

pub returns-clause-reported : goal.returns-clause-reported
returns-clause-reported c =
    let none : is_some c.fault_of-fault.result ≡ false = search rules in
    reported_if (is_none c.fault_of-fault.result) (restoring.IsNew c.args.text.now) (is_nothing c.fault_of-fault.result none) c.args._out.now.items c.args._out.now.items
    c.args.beside.now.items c.push_path_line.new.beside.items
    (record { reported = []; said = _; reports = (refl, refl); out_is = sym (append-nil c.args._out.now.items); beside_is = c.in_ok-push_path_line.ensures })
