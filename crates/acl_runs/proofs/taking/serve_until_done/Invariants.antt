use Rattle.acl_broker.specs.Takers.{view}
use Rattle.acl_runs.specs.Taking.{TakesOn}
use Rattle.acl_runs.proofs.taking.serve_until_done.Given as goal

abbrev pub invariant-loop : goal.invariant-loop
invariant-loop g l = TakesOn g.S.Service.next g.S.Service.reply (g.P.Replies.handling l.replies).is_error (view l.initial.taker) l.initial.limits (view l.taker) l.limits
