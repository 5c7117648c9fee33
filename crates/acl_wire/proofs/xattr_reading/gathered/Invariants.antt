use Rattle.std.proofs.Common.{◌≡◌, take}
use Rattle.acl_wire.proofs.xattr_reading.gathered.Given as goal

-- the entries so far
abbrev pub invariant-loop-entry : goal.invariant-loop-entry
invariant-loop-entry l = l.entries ≡ take l.entry-index l.read
