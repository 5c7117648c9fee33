-- An entry that is inserted into sorted entries after all that are shown before it leaves them sorted.
use Rattle.std.proofs.Common.{◌≡◌, ◌∙◌, ℕ, zero, suc, ◌<◌, ◌≤◌, true, false, List, [], ◌∷◌, ◌++◌, length, get_or, Ordering, refl, sym, inr, arith}
use Rattle.std.specs.declared.cmp.Ordering.TheVariants.{Less, Equal, Greater}
use Rattle.std.specs.List.{insert}
use Rattle.std.specs.List.Sorted.{IsPartitionedBy, IsPartitionPoint, IsPermutation}
use Rattle.std.specs.Ordering.{is_lt, ordering_index}
use Rattle.std.proofs.lemmas.List.Sorted.{IsPartitionedBy-ltb, IsPermutation-insert, IsPermutation-push_more, searchable_from_sorted}
use lib.Dec.{ltb}
use Rattle.acl_posix.specs.Canonical.{tag_cmp, tag_of}
use Rattle.acl_posix.specs.Entries.{IsSortedCopy}
use Rattle.acl_posix.specs.Entry.{EntryValue}
use Rattle.acl_posix.proofs.CanonicalLemmas.{tag_cmp_total}
use Rattle.acl_posix.proofs.InOrderLemmas.{precedes, IsSorted, NotBefore, not_before, sorted-cons, sorted-first, sorted-rest}

lowest_place : (o : Ordering) → is_lt o ≡ ltb (ordering_index o) 1
lowest_place Less = refl
lowest_place Equal = refl
lowest_place Greater = refl

-- sorted entries are parted by whether they are shown before another
pub parted : (entry : EntryValue) (entries : List EntryValue) → IsSorted entries → IsPartitionedBy (λ other. precedes other entry) entries
parted entry entries sorted = λ i j d before inside is.
    let rises = searchable_from_sorted tag_cmp_total tag_of entries entry.tag sorted in
    lowest_place _ ∙ IsPartitionedBy-ltb (λ other. ordering_index (tag_cmp (tag_of other) entry.tag)) entries 1 rises i j d before inside (sym (lowest_place _) ∙ is)

NotBefore-insert : (first entry : EntryValue) (entries : List EntryValue) (place : ℕ) → NotBefore first entries → precedes entry first ≡ false
    → NotBefore first (insert entries place entry)
NotBefore-insert first entry [] zero before is = is
NotBefore-insert first entry [] (suc place) before is = is
NotBefore-insert first entry (next ∷ more) zero before is = is
NotBefore-insert first entry (next ∷ more) (suc place) before is = before

insert-sorted : (entry : EntryValue) (entries : List EntryValue) (place : ℕ) → place ≤ length entries → IsSorted entries
    → ((k : ℕ) (d : EntryValue) → k < place → precedes (get_or entries k d) entry ≡ true)
    → ((k : ℕ) (d : EntryValue) → place ≤ k → k < length entries → precedes (get_or entries k d) entry ≡ false)
    → IsSorted (insert entries place entry)
insert-sorted entry [] zero inside sorted front back = sorted-cons entry [] tt sorted
insert-sorted entry [] (suc place) inside sorted front back = absurd (omega arith)
insert-sorted entry (first ∷ more) zero inside sorted front back =
    sorted-cons entry (first ∷ more) (back zero first (omega arith) (omega arith)) sorted
insert-sorted entry (first ∷ more) (suc place) inside sorted front back =
    let later = insert-sorted entry more place (omega arith) (sorted-rest first more sorted)
    (λ k d below. front (suc k) d (omega arith)) (λ k d above within. back (suc k) d (omega arith) (omega arith)) in
    sorted-cons first (insert more place entry)
    (NotBefore-insert first entry more place (sorted-first first more sorted) (not_before first entry (front zero first (omega arith)))) later

-- a sorted copy of entries, into which another is inserted in its place, is one of the entries with that one after them
pub copy_with : (entry : EntryValue) (entries copy : List EntryValue) (place : ℕ) → IsPermutation entries copy → IsSorted copy → place ≤ length copy
    → IsPartitionPoint (λ other. precedes other entry ≡ true) (λ other. precedes other entry ≡ false) copy place
    → IsSortedCopy (entries ++ entry ∷ []) (insert copy place entry)
copy_with entry entries copy place moved sorted inside point =
    inr (
      IsPermutation-push_more entries copy (insert copy place entry) entry moved (IsPermutation-insert copy place entry),
      insert-sorted entry copy place inside sorted (λ k d below. point.0 k d (omega arith) below) (λ k d above within. point.1 k d above within),
    )
