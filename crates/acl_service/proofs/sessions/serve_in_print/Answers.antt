use Rattle.std.proofs.Common.{map, refl}
use Rattle.acl_service.specs.Cursor.{rest_of}
use Rattle.acl_service.specs.ReportOf.{report_of}
use Rattle.acl_service.specs.declared.served.Served.{Served}
use Rattle.acl_service.proofs.SessionLemmas.{explained}
use Rattle.acl_service.proofs.sessions.serve_in_print.Goals as goal

pub returns : goal.returns
returns g c =
    let served : Served = record { alloc = c.args.alloc; directory = c.args.directory; tree = c.args.tree } in
    explained served c.args.max_errors c.args.texts.now
    (map rest_of c.in_ok-sessions.sessions.items) c.in_ok-run.run'
    (report_of c.in_ok-run.run') c.in_ok-sessions.ensures.requests refl c.in_ok-run.ensures
