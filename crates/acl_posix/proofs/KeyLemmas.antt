-- Entries that are sorted by their keys.
use Rattle.std.proofs.Common.{◌≡◌, ℕ, ◌+◌, ◌<◌, ◌≤◌, false, arith, List, length, get_or, map}
use Rattle.std.proofs.Math.Seq.{take-length}
use Rattle.std.specs.List.Sorted.{IsPermutation, IsSorted, IsSortedByKey}
use Rattle.std.specs.Ordering.{is_lt, nat_cmp}
use Rattle.std.proofs.lemmas.Grind.{common_steps}
use Rattle.std.proofs.lemmas.List.{get_or-map, length-map}
use Rattle.std.proofs.lemmas.List.Sorted.{All-permutation, IsPermutation-map}
use Rattle.acl_posix.specs.declared.entry.Tag.{Tag}
use Rattle.acl_posix.specs.Canonical.{tag_cmp, tag_of}
use Rattle.acl_posix.specs.Entry.{EntryValue}
use Rattle.acl_posix.specs.Keys.{AreKeys, IsKey, IsShort, entry_at, order_of}

-- of two tags, that with the greater number isn't shown before the other
not_before : (a b : Tag) → IsShort a → IsShort b → order_of a ≤ order_of b → is_lt (tag_cmp b a) ≡ false
not_before a b short_a short_b above = grind (arith, common_steps)

not_below : (x y : ℕ) → is_lt (nat_cmp y x) ≡ false → x ≤ y
not_below x y above = grind (arith, common_steps)

-- if the keys are sorted, the entries that they name are
pub sorted_by_keys : (entries : List EntryValue) (keys moved : List ℕ) → AreKeys entries (length entries) keys → IsPermutation keys moved → IsSorted nat_cmp moved
    → IsPermutation entries (map (entry_at entries) moved) × IsSortedByKey tag_of tag_cmp (map (entry_at entries) moved)
sorted_by_keys entries keys moved are same sorted = (
  rw (are.name, take-length entries) at (IsPermutation-map (entry_at entries) keys moved same),
  λ k d low high.
      let inside : k + 1 < length moved = rw length-map at high in
      let x = get_or moved k 0 in
      let y = get_or moved (k + 1) 0 in
      let is = All-permutation (IsKey entries) keys moved same are.are in
      let first = is k 0 (omega arith) in
      let second = is (k + 1) 0 inside in
      let ascends : x ≤ y = not_below x y (sorted k 0 low inside) in
      let above : order_of (entry_at entries x).tag ≤ order_of (entry_at entries y).tag = omega (arith, ascends, first.order, second.order) in
      rw (get_or-map (entry_at entries) moved (k + 1) 0 d inside, get_or-map (entry_at entries) moved k 0 d (omega arith))
      (not_before _ _ first.short second.short above),
)
