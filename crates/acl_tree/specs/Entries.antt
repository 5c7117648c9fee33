-- The nodes of a tree with their paths.
use Rattle.std.specs.Prelude.{ℕ, List}
use Rattle.acl_tree.specs.declared.node.Node.{Node}

-- a path and the node at it
abbrev pub Entry : Type 0
Entry = List ℕ × Node

abbrev pub path_of : Entry → List ℕ
path_of entry = entry.0
