-- What is wrong with a list does not depend on the order of its entries.
use Rattle.std.proofs.Common.{◌≡◌, ◌∙◌, ℕ, Bool, not, nat_lt, ◌==◌, cond, List, refl, sym, ap, arith}
use Rattle.std.specs.List.{list_any, count_by}
use Rattle.std.specs.List.Sorted.{IsPermutation}
use Rattle.std.proofs.lemmas.Bool.Decides.{nat_tests}
use Rattle.std.proofs.lemmas.List.Sorted.{sum_by-IsPermutation, list_any-IsPermutation}
use Rattle.acl_names.proofs.AscendingLemmas.{repeats-permutation}
use Rattle.acl_names.proofs.Counting.{list_any-count_by}
use Rattle.acl_posix.specs.declared.entry.Tag.{Tag}
use Rattle.acl_posix.specs.declared.entry.Tag.TheVariants.{UserObj, GroupObj, Mask, Other}
use Rattle.acl_posix.specs.Entry.{EntryValue, same_tag, is_named}
use Rattle.acl_posix.specs.Validity.{count_of, names_someone, repeats_tag, fault_of}
use Rattle.acl_posix.specs.Canonical.{tag_cmp, tag_of}
use Rattle.acl_posix.proofs.CanonicalLemmas.{same_tag-tag_cmp, tag_cmp_total}

-- none is counted if none passes
pub none_counted : {X : Type 0} (p : X → Bool) (xs : List X) → not (list_any p xs) ≡ (count_by p xs == 0)
none_counted p xs = ap not (list_any-count_by p xs) ∙ at_zero (count_by p xs)
  where
    at_zero : (n : ℕ) → not (nat_lt 0 n) ≡ (n == 0)
    at_zero n = grind (arith, nat_tests)

pub repeats_tag-permutation : (xs ys : List EntryValue) → IsPermutation xs ys → repeats_tag xs ≡ repeats_tag ys
repeats_tag-permutation = repeats-permutation tag_cmp tag_cmp_total tag_of same_tag same_tag-tag_cmp

-- what is wrong with a list does not depend on the order
pub fault_of-permutation : (xs ys : List EntryValue) → IsPermutation xs ys → fault_of xs ≡ fault_of ys
fault_of-permutation xs ys moved =
    let same : (tag : Tag) → count_of tag xs ≡ count_of tag ys =
    λ tag. sym (sum_by-IsPermutation (λ (entry : EntryValue). cond (same_tag entry.tag tag) 1 0) xs ys moved) in
    let named : names_someone xs ≡ names_someone ys = list_any-IsPermutation (λ (entry : EntryValue). is_named entry.tag) xs ys moved in
    let repeated = repeats_tag-permutation xs ys moved in
    rw (same UserObj, same GroupObj, same Other, same Mask, named, repeated) refl
