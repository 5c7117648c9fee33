use Rattle.acl_broker.specs.Takers.{view}
use Rattle.acl_runs.proofs.TakingLemmas.{takes_on_then}
use Rattle.acl_runs.proofs.taking.serve_each_once.Goals as goal

pub returns-in_err-moved : goal.returns-in_err-moved
returns-in_err-moved g c =
    takes_on_then _ _ _ (view c.args.taker.now) (view c.loop-session.taker)
    (view c.serve_one.new.taker) c.args.limits.now c.loop-session.limits c.serve_one.new.limits
    c.loop-session.invariant c.serve_one.ensures

pub loop-session-preserved : goal.loop-session-preserved
loop-session-preserved g c =
    takes_on_then _ _ _ (view c.args.taker.now) (view c.loop-session.taker)
    (view c.serve_one.new.taker) c.args.limits.now c.loop-session.limits c.serve_one.new.limits
    c.loop-session.invariant c.serve_one.ensures
