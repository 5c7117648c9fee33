use Rattle.acl_nfs4.proofs.ListLemmas.{OnErr-from}
use Rattle.acl_wire.proofs.PlacesLoop.{left_all, left_next, left_too_long}
use Rattle.acl_wire.proofs.keeping.push_left.Goals as goal

pub returns-in_err-push_left_of-clause-full : goal.returns-in_err-push_left_of-clause-full
returns-in_err-push_left_of-clause-full g c =
    OnErr-from c.from_residual.result
    (left_too_long c.args.raws.now c.args.aces.now c.requires c.loop-place.place c.loop-place.draft.items _ c.loop-place.invariant
    c.loop-place-test.true c.index-aces-place.result c.index-aces-place.is g.row.N c.in_err-push_left_of.ensures.full)

pub loop-place-preserved : goal.loop-place-preserved
loop-place-preserved g c =
    rw c.in_ok-push_left_of.ensures.ok
    (left_next c.args.raws.now c.args.aces.now c.requires c.loop-place.place c.loop-place.draft.items _ c.loop-place.invariant
    c.loop-place-test.true c.index-aces-place.result c.index-aces-place.is)

pub returns-clause-ok : goal.returns-clause-ok
returns-clause-ok g c =
    left_all c.args.raws.now c.args.aces.now c.requires c.loop-place.place c.loop-place.draft.items _ c.loop-place.invariant c.loop-place-test.false
