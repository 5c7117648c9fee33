use Rattle.std.proofs.Common.{ℕ, List, is_lt, nat_cmp, rules}
use Rattle.std.specs.Cmp.Lexicographic.{slice_cmp, nat_list_cmp_total}
use Rattle.std.specs.Map.Iter.{deref_pair}
use Rattle.std.proofs.lemmas.List.Sorted.{IsPermutation-map, answers_always, ranks_by}
use Rattle.acl_tree.specs.Entries.{Entry, path_of}
use Rattle.acl_tree.specs.Walk.{walk_key}
use Rattle.acl_tree.specs.declared.node.Node.{Node}
use Rattle.acl_tree.proofs.EntryLemmas.{sorted_shown}
use Rattle.acl_tree.proofs.tree.walk.sort_by_steps.Goals as goal
use denote.Ref.{Bor}

abbrev shown : Bor (List ℕ) × Bor Node → Entry
shown = deref_pair

abbrev key : Entry → List ℕ
key entry = walk_key (path_of entry)

pub returns-clause-permutation : goal.returns-clause-permutation
returns-clause-permutation c = IsPermutation-map shown c.args.entries.now.items c.sort_unstable_by.new.self.items c.sort_unstable_by.ensures.permutation

pub returns-clause-sorted : goal.returns-clause-sorted
returns-clause-sorted c =
    let below = λ (x y : Bor (List ℕ) × Bor Node). is_lt (slice_cmp nat_cmp (key (shown x)) (key (shown y))) in
    let sorted = c.sort_unstable_by.ensures.sorted below (ranks_by nat_list_cmp_total (λ (x : Bor (List ℕ) × Bor Node). key (shown x)))
    (answers_always _ _ _ (λ f a r q called. search rules)) in
    sorted_shown shown key (slice_cmp nat_cmp) c.sort_unstable_by.new.self.items sorted
