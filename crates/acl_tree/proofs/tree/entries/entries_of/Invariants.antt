use Rattle.std.proofs.Common.{◌≡◌, ℕ, List, map as each}
use Rattle.std.specs.Map.Iter.{deref_pair}
use Rattle.acl_tree.specs.Entries.{Entry}
use Rattle.acl_tree.specs.declared.node.Node.{Node}
use Rattle.acl_tree.proofs.tree.entries.entries_of.Given as goal

-- the entries so far
abbrev pub invariant-loop-path : goal.invariant-loop-path
invariant-loop-path l = each (deref_pair {K = List ℕ} {X = Node}) l.entries.items ≡ each {B = Entry} (λ entry. (entry.0.items, entry.1)) (each deref_pair l.yielded)
