use Rattle.acl_broker.specs.Takers.{view}
use Rattle.acl_runs.proofs.TakingLemmas.{takes_on_then}
use Rattle.acl_runs.proofs.taking.serve_until_done.Goals as goal

pub returns-in_err-serve_each_once : goal.returns-in_err-serve_each_once
returns-in_err-serve_each_once g c =
    takes_on_then _ _ _ (view c.args.taker.now) (view c.loop.taker)
    (view c.serve_each_once.new.taker) c.args.limits.now c.loop.limits c.serve_each_once.new.limits
    c.loop.invariant c.serve_each_once.ensures

pub loop-preserved-in-Moved : goal.loop-preserved-in-Moved
loop-preserved-in-Moved g c =
    takes_on_then _ _ _ (view c.args.taker.now) (view c.loop.taker)
    (view c.serve_each_once.new.taker) c.args.limits.now c.loop.limits c.serve_each_once.new.limits
    c.loop.invariant c.serve_each_once.ensures

pub loop-preserved : goal.loop-preserved
loop-preserved g c =
    takes_on_then _ _ _ (view c.args.taker.now) (view c.loop.taker)
    (view c.serve_each_once.new.taker) c.args.limits.now c.loop.limits c.serve_each_once.new.limits
    c.loop.invariant c.serve_each_once.ensures

pub returns-in-Over : goal.returns-in-Over
returns-in-Over g c =
    takes_on_then _ _ _ (view c.args.taker.now) (view c.loop.taker)
    (view c.serve_each_once.new.taker) c.args.limits.now c.loop.limits c.serve_each_once.new.limits
    c.loop.invariant c.serve_each_once.ensures
