use Rattle.std.proofs.Common.{arith, ap, ◌≡◌, ◌≤◌, ◌+◌, ◌*◌, length}
use Rattle.acl_wire.proofs.WritingLemmas.{length-xattr, xattr_more}
use Rattle.acl_wire.proofs.xattr_writing.put_entries.Goals as goal

pub put_at-requires-in-loop-place : goal.put_at-requires-in-loop-place
put_at-requires-in-loop-place c =
    let room : 4 + 8 * length c.args.entries.now ≤ length c.args.out.now = omega (arith, length-xattr c.args.entries.now, c.requires.room) in
    let e : length c.entry_bytes.result ≡ 8 = ap length c.entry_bytes.ensures in
    let len : length c.loop-place.out ≡ length c.args.out.now = omega arith in
    let h = c.put_at.ensures in
    omega arith

pub loop-place-preserved : goal.loop-place-preserved
loop-place-preserved c = rw (c.put_at-in-loop-place.ensures, c.entry_bytes.ensures, c.loop-place.invariant)
    (xattr_more c.args.entries.now c.args.out.now c.loop-place.place c.index-entries-place.result c.loop-place-test.true c.index-entries-place.is)
