use Rattle.acl_posix.specs.Keys.{AreKeys}
use Rattle.acl_posix.proofs.sorted_copy.keys_of.Given as goal

-- the keys of the entries so far
abbrev pub invariant-loop-entry : goal.invariant-loop-entry
invariant-loop-entry l = AreKeys l.entries l.entry-index l.keys.items
