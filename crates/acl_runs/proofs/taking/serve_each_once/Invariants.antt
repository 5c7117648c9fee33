use Rattle.acl_broker.specs.Takers.{view}
use Rattle.acl_runs.specs.Taking.{TakesOn}
use Rattle.acl_runs.proofs.taking.serve_each_once.Given as goal

abbrev pub invariant-loop-session : goal.invariant-loop-session
invariant-loop-session g l = TakesOn g.S.Service.next g.S.Service.reply (g.P.Replies.handling l.replies).is_error (view l.initial.taker) l.initial.limits (view l.taker) l.limits
