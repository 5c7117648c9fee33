use Rattle.std.proofs.Common.{◌≡◌, take}
use Rattle.acl_posix.specs.Kinds.{kinds_of}
use Rattle.acl_posix.proofs.kinds.kinds_of.Given as goal

-- the kinds of the entries so far
abbrev pub invariant-loop-entry : goal.invariant-loop-entry
invariant-loop-entry l = l.kinds ≡ kinds_of (take l.entry-index l.entries)
