use Rattle.acl_broker.specs.Takers.{view}
use Rattle.acl_runs.proofs.TakingLemmas.{takes_on_then, takes_on_delivered}
use Rattle.acl_runs.proofs.taking.deliver_some.Goals as goal

pub returns-then-not-deliver : goal.returns-then-not-deliver
returns-then-not-deliver g c =
    let delivered = c.deliver.ensures in
    λ limits.
    takes_on_then _ _ _ (view c.args.taker.now) (view c.loop.taker) (view c.deliver.new.self) limits limits limits (c.loop.invariant limits)
    (takes_on_delivered _ _ _ (view c.loop.taker) (view c.deliver.new.self) limits c.args.session c.deliver.result delivered.pairs delivered.keeps delivered.side delivered.others)

pub loop-preserved : goal.loop-preserved
loop-preserved g c =
    let delivered = c.deliver.ensures in
    λ limits.
    takes_on_then _ _ _ (view c.args.taker.now) (view c.loop.taker) (view c.deliver.new.self) limits limits limits (c.loop.invariant limits)
    (takes_on_delivered _ _ _ (view c.loop.taker) (view c.deliver.new.self) limits c.args.session c.deliver.result delivered.pairs delivered.keeps delivered.side delivered.others)
