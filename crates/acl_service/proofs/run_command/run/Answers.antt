use Rattle.std.proofs.Common.{Err, Ok, refl}
use Rattle.acl_service.proofs.run_command.run.Goals as goal

pub returns-in-Ok : goal.returns-in-Ok
returns-in-Ok g c = record { result = Ok c.in-Ok.ending; between = c.args.err.now; comes = c.in-Ok.ensures c.args.err.now; reported = (c.status.ensures, refl) }

pub returns-in-Err : goal.returns-in-Err
returns-in-Err g c =
    record { result = Err c.in-Err.failure; between = c.args.err.now; comes = c.in-Err.ensures c.args.err.now; reported = (c.status-in-Err.ensures, c.report.ensures) }
