use Rattle.std.proofs.Common.{◌≡◌, ◌++◌, take, drop}
use Rattle.acl_wire.specs.RawAcesWriting.{raws_of}
use Rattle.acl_wire.proofs.raw_writing.put_aces.Given as goal

abbrev pub invariant-loop-place : goal.invariant-loop-place
invariant-loop-place l = l.out ≡ raws_of (take l.place l.aces) ++ drop l.place l.fn.out
