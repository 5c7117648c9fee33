-- The order of a walk through a tree.
use Rattle.std.specs.Prelude.{ℕ, List, map as each, if◌then◌else◌}
use Rattle.std.specs.Cmp.Lexicographic.{slice_cmp}
use Rattle.std.specs.FinMap as map
use Rattle.std.specs.List.Sorted.{IsPermutation, IsSortedByKey}
use Rattle.std.specs.Ordering.{nat_cmp}
use Rattle.acl_tree.specs.Entries.{Entry, path_of}
use Rattle.acl_tree.specs.Path.{is_slash}
use Rattle.acl_tree.specs.Tree.{NodesUnderUmask}

-- a slash comes before every byte that a component has
abbrev pub rank_of : ℕ → ℕ
rank_of byte = if is_slash byte then 0 else byte

-- the key by which a path is compared, step by step
abbrev pub walk_key : List ℕ → List ℕ
walk_key path = each rank_of path

-- the nodes of a tree, step by step: each directory before its content, and that before anything
-- else
pub record IsWalk (tree : NodesUnderUmask) (entries : List Entry) : Type 0 where
  pub all : IsPermutation (map.entries tree.nodes) entries
  pub in_order : IsSortedByKey (λ entry. walk_key (path_of entry)) (slice_cmp nat_cmp) entries
