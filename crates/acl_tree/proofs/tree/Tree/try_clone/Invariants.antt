use Rattle.std.proofs.Common.{◌≡◌, ◌-◌, drop, length}
use Rattle.std.specs.FinMap as finite
use Rattle.acl_tree.proofs.tree.Tree.try_clone.Given as goal

-- what is copied so far is the end of the list
abbrev pub invariant-loop-copied : goal.invariant-loop-copied
invariant-loop-copied l = record {
  umask : l.clone.umask ≡ l.self.umask;
  nodes : l.clone.nodes ≡ finite.from_entries (drop (length l.entries.items - l.copied) (finite.entries l.self.nodes));
}
