use Rattle.std.proofs.Common.{◌≡◌, ◌++◌, All, List, ℕ, map as each, take}
use Rattle.std.specs.Map.Iter.{deref_pair}
use Rattle.acl_listings.specs.Numbered.{IsPrintable, files_text}
use Rattle.acl_tree.specs.declared.node.Node.{Node}
use Rattle.acl_tree_queries.specs.ListAnswer.{file_at}
use Rattle.acl_tree_queries.proofs.list_command.text.push_nodes.Given as goal

-- what was put is the blocks of the nodes so far, which are read again
abbrev pub invariant-loop-path : goal.invariant-loop-path
invariant-loop-path l = record {
  text : l.out.items ≡ l.initial.out.items ++ files_text (each file_at (each (deref_pair {K = List ℕ} {X = Node}) (take l.path-index l.entries)));
  printable : All IsPrintable (each file_at (each (deref_pair {K = List ℕ} {X = Node}) (take l.path-index l.entries)));
}
