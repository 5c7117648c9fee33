use Rattle.std.proofs.Common.{◌≡◌, ◌+◌, ◌*◌, ◌++◌, take, drop}
use Rattle.acl_wire.specs.Xattr.{xattr_of}
use Rattle.acl_wire.proofs.xattr_writing.put_entries.Given as goal

abbrev pub invariant-loop-place : goal.invariant-loop-place
invariant-loop-place l = l.out ≡ xattr_of (take l.place l.entries) ++ drop (4 + 8 * l.place) l.fn.out
