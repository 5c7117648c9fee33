use Rattle.std.proofs.Common.{◌∙◌, ℕ, List, map as each, ap, subst}
use Rattle.std.specs.FinMap as finite
use Rattle.std.specs.List.Sorted.{IsPermutation}
use Rattle.std.specs.Map.Iter.{deref_pair}
use Rattle.acl_tree.specs.Entries.{Entry}
use Rattle.acl_tree.specs.declared.node.Node.{Node}
use Rattle.acl_tree.proofs.EntryLemmas.{distinct_paths, sorted_entries}
use Rattle.acl_tree.proofs.NodeLemmas.{named}
use Rattle.acl_tree.proofs.tree.Tree.entries.Goals as goal

pub returns : goal.returns
returns c =
    let inside = c.self.inside.nodes.entries in
    let unsorted : List Entry = named (λ key. key.items) inside in
    let sorted : List Entry = each (deref_pair {K = List ℕ} {X = Node}) c.sort.new.entries.items in
    let moved : IsPermutation unsorted sorted = subst (λ (xs : List Entry). IsPermutation xs sorted) c.in_ok-entries.ensures.shown c.sort.ensures.permutation in
    sorted_entries unsorted sorted (distinct_paths (λ key. key.items) inside c.in_ok-entries.ensures.distinct) moved c.sort.ensures.sorted
    ∙ ap (λ tree. finite.entries tree.nodes) c.self.view_is
