use Rattle.acl_broker.specs.Takers.{view}
use Rattle.acl_runs.proofs.TakingLemmas.{takes_on_then}
use Rattle.acl_runs.proofs.taking.serve_one.Goals as goal

pub returns : goal.returns
returns g c =
    takes_on_then _ _ _ (view c.args.taker.now) (view c.take_some.new.taker)
    (view c.deliver_some-delivered.new.taker) c.args.limits.now c.take_some.new.limits
    c.take_some.new.limits c.take_some.ensures (c.deliver_some-delivered.ensures c.take_some.new.limits)
