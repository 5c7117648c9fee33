use Rattle.acl_broker.specs.Takers.{view}
use Rattle.acl_runs.specs.Taking.{TakesOn}
use Rattle.acl_runs.specs.declared.error_limits.ErrorLimits.{ErrorLimits}
use Rattle.acl_runs.proofs.taking.deliver_some.Given as goal

abbrev pub invariant-loop : goal.invariant-loop
invariant-loop g l = (limits : ErrorLimits) → TakesOn g.S.Service.next g.S.Service.reply (g.P.Replies.handling l.replies).is_error (view l.initial.taker) limits (view l.taker) limits
