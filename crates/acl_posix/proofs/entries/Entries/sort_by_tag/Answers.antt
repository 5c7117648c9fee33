use Rattle.std.proofs.Common.{sym, inl, rules}
use Rattle.std.proofs.lemmas.List.Sorted.{answers_always, length_permutation}
use Rattle.acl_names.proofs.AscendingLemmas.{distinct_from_ascending}
use Rattle.acl_posix.specs.Canonical.{tag_cmp, tag_of}
use Rattle.acl_posix.specs.Entry.{same_tag}
use Rattle.acl_posix.proofs.CanonicalLemmas.{same_tag-tag_cmp, sorted_by_tag, tag_cmp_total}
use Rattle.acl_posix.proofs.CopyLemmas.{AreEntries-permutation}
use Rattle.acl_posix.proofs.FoundLemmas.{take-whole}
use Rattle.acl_posix.proofs.entries.Entries.sort_by_tag.Goals as goal

pub invariant_of-self : goal.invariant_of-self
invariant_of-self c =
    let sorted = c.sort_unstable_by_key.new.self in
    let moved = rw c.as_mut_slice.ensures.value at c.sort_unstable_by_key.ensures.permutation in
    rw (take-whole _ sorted _ (sym (length_permutation _ _ moved))) (AreEntries-permutation _ sorted moved c.self.invariant.0, inl c.clear.ensures.items, c.self.invariant.2)

pub returns-clause-distinct : goal.returns-clause-distinct
returns-clause-distinct c =
    let sorted = c.sort_unstable_by_key.new.self in
    let moved = rw c.as_mut_slice.ensures.value at c.sort_unstable_by_key.ensures.permutation in
    let derived = c.sort_unstable_by_key.ensures.sorted (λ entry. entry.tag) (answers_always _ _ _ (λ f a r g called. search rules)) in
    rw (take-whole _ sorted _ (sym (length_permutation _ _ moved)))
    (distinct_from_ascending tag_cmp tag_cmp_total tag_of same_tag same_tag-tag_cmp sorted c.is_canonical.result (sorted_by_tag sorted derived)
    (rw (take-whole _ sorted _ (sym (length_permutation _ _ moved))) at c.is_canonical.ensures))
