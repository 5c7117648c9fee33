use Rattle.std.proofs.Common.{None, map}
use Rattle.acl_service.specs.Cursor.{rest_of}
use Rattle.acl_service.specs.declared.served.Served.{Served}
use Rattle.acl_service.proofs.SessionLemmas.{explained}
use Rattle.acl_service.proofs.sessions.serve_rounds.Goals as goal

pub returns-clause-report : goal.returns-clause-report
returns-clause-report c =
    let served : Served = record { alloc = c.args.alloc; directory = c.args.directory; tree = c.args.tree } in
    explained served None c.args.texts.now (map rest_of c.in_ok-sessions.sessions.items) c.in_ok-run.run'
    c.report_of.result c.in_ok-sessions.ensures.requests c.report_of.ensures c.in_ok-run.ensures.report
