use Rattle.std.proofs.Common.{arith, length}
use Rattle.std.specs.Int.{w32, to_be_bytes}
use Rattle.acl_wire.proofs.XdrPutLemmas.{next_fits, next_put}
use Rattle.acl_wire.proofs.xdr_writing.put_all.Goals as goal

pub put_raw_at-at-requires : goal.put_raw_at-at-requires
put_raw_at-at-requires c =
    let fits = next_fits c.args.raws.now c.loop-raw.raw-index c.loop-raw-test.true (to_be_bytes w32 (length c.args.raws.now)) c.loop-raw.at (length c.args.out.now)
    c.loop-raw.invariant.1 c.requires.room in
    omega (arith, fits, c.loop-raw.auto.out)

pub loop-raw-preserved : goal.loop-raw-preserved
loop-raw-preserved c =
    next_put c.args.raws.now c.loop-raw.raw-index c.loop-raw-test.true (to_be_bytes w32 (length c.args.raws.now)) c.args.out.now c.loop-raw.out c.put_raw_at-at.new.out
    c.loop-raw.at c.put_raw_at-at.result c.loop-raw.invariant.0 c.loop-raw.invariant.1 c.put_raw_at-at.ensures.put c.put_raw_at-at.ensures.end
