use Rattle.acl_wire.specs.RawAcesWriting.{raw_of}
use Rattle.acl_wire.proofs.AcesLoop.{nothing}
use Rattle.acl_wire.proofs.WritingLemmas.{map_more}
use Rattle.acl_wire.proofs.raw_writing.put_aces.Goals as goal

pub loop-place-preserved : goal.loop-place-preserved
loop-place-preserved c =
    let more = map_more raw_of c.args.aces.now c.args.out.now c.loop-place.place c.index-aces-place.result nothing c.loop-place-test.true c.requires c.index-aces-place.is in
    rw (c.loop-place.invariant, c.raw_of.ensures) more
