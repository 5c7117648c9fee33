use Rattle.std.proofs.Common.{ℕ, List, map as each, subst}
use Rattle.std.specs.List.Sorted.{IsPermutation}
use Rattle.std.specs.Map.Iter.{deref_pair}
use Rattle.acl_tree.specs.Entries.{Entry}
use Rattle.acl_tree.specs.declared.node.Node.{Node}
use Rattle.acl_tree.proofs.tree.Tree.walk.Goals as goal

pub returns : goal.returns
returns c =
    let sorted : List Entry = each (deref_pair {K = List ℕ} {X = Node}) c.sort_by_steps.new.entries.items in
    record {
      all = subst (λ (those : List Entry). IsPermutation those sorted) c.in_ok-entries.ensures c.sort_by_steps.ensures.permutation;
      in_order = c.sort_by_steps.ensures.sorted;
    }
