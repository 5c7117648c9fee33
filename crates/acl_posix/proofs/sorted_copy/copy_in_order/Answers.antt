use Rattle.std.proofs.Common.{◌≡◌, ◌∙◌, map, sym}
use Rattle.std.specs.List.Sorted.{IsPermutation}
use Rattle.std.proofs.lemmas.List.Sorted.{All-permutation, length_permutation}
use Rattle.std.proofs.lemmas.Result.{IfOk-weaker}
use Rattle.acl_posix.specs.Keys.{IsKey, entry_at}
use Rattle.acl_posix.proofs.FoundLemmas.{take-whole}
use Rattle.acl_posix.proofs.KeyLemmas.{sorted_by_keys}
use Rattle.acl_posix.proofs.sorted_copy.copy_in_order.Goals as goal

pub entries_at-requires : goal.entries_at-requires
entries_at-requires c =
    let keys = c.keys_of-keys.result.items in
    let moved = c.sort_unstable.new.self in
    let same : IsPermutation keys moved = rw c.deref_mut.ensures.value at c.sort_unstable.ensures.permutation in
    rw (c.as_slice.ensures.value, take-whole _ moved _ (sym (length_permutation keys moved same)))
    (All-permutation (IsKey c.args.entries.now) keys moved same c.keys_of-keys.ensures.are)

pub returns : goal.returns
returns c =
    let keys = c.keys_of-keys.result.items in
    let moved = c.sort_unstable.new.self in
    let same : IsPermutation keys moved = rw c.deref_mut.ensures.value at c.sort_unstable.ensures.permutation in
    let read : c.as_slice.result.now ≡ moved = c.as_slice.ensures.value ∙ take-whole _ moved _ (sym (length_permutation keys moved same)) in
    IfOk-weaker c.entries_at.result (λ copy. copy.items ≡ map (entry_at c.args.entries.now) moved) _
    (λ copy is. rw is (sorted_by_keys c.args.entries.now keys moved c.keys_of-keys.ensures same c.sort_unstable.ensures.sorted)) (rw read at c.entries_at.ensures)
