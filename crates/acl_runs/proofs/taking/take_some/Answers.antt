use Rattle.acl_broker.specs.Takers.{view}
use Rattle.acl_runs.proofs.TakingLemmas.{takes_on_then}
use Rattle.acl_runs.proofs.taking.take_some.Goals as goal

pub returns-in-Err-Memory : goal.returns-in-Err-Memory
returns-in-Err-Memory g c =
    takes_on_then _ _ _ (view c.args.taker.now) (view c.loop.taker)
    (view c.take_within_limits.new.taker) c.args.limits.now c.loop.limits c.take_within_limits.new.limits
    c.loop.invariant c.take_within_limits.ensures

pub returns-in-Err : goal.returns-in-Err
returns-in-Err g c =
    takes_on_then _ _ _ (view c.args.taker.now) (view c.loop.taker)
    (view c.take_within_limits.new.taker) c.args.limits.now c.loop.limits c.take_within_limits.new.limits
    c.loop.invariant c.take_within_limits.ensures

pub loop-preserved : goal.loop-preserved
loop-preserved g c =
    takes_on_then _ _ _ (view c.args.taker.now) (view c.loop.taker)
    (view c.take_within_limits.new.taker) c.args.limits.now c.loop.limits c.take_within_limits.new.limits
    c.loop.invariant c.take_within_limits.ensures
