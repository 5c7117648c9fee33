-- Entries that were put in the order of their paths are those of the finite map.
use Rattle.std.proofs.Common.{T, ◌≡◌, ◌∙◌, ◌≤◌, ◌+◌, ◌<◌, ℕ, zero, suc, Bool, true, false, cond, ◌&&◌, List}
use Rattle.std.proofs.Common.{[], ◌∷◌, map as each, Option, Some, option_map, refl, sym, ap, ap₂, subst}
use Rattle.std.proofs.Common.{nat_lt, length, get_or, arith, is_eq, is_lt, nat_cmp, bytes_eq, Ordering}
use Rattle.std.specs.Cmp.Lexicographic.{slice_cmp, nat_list_cmp_total, same_text}
use Rattle.std.specs.FinMap as finite
use Rattle.std.specs.FinMap.{nat_cmp-IsAntisymmetric, slice_cmp-IsAntisymmetric, get-from_entries, get-entries, entries_sorted}
use Rattle.std.specs.FinMap.Entries.{same_entries, is_sorted, below_all, find as value_of}
use Rattle.std.specs.List.{AllByRecursion, IsDistinct, count_by, find}
use Rattle.std.specs.List.Sorted.{IsPermutation, IsSortedByKey}
use Rattle.std.specs.Map.{keys_of}
use Rattle.std.specs.Ordering.{ordering_reverse}
use Rattle.std.specs.declared.cmp.Ordering.TheVariants.{Less, Equal, Greater}
use Rattle.std.proofs.lemmas.Bool.{le-ltb}
use Rattle.std.proofs.lemmas.List.{get_or-map, length-map}
use Rattle.std.proofs.lemmas.List.Folds.{list_any_none}
use Rattle.std.proofs.lemmas.Map.Keys.{IsDistinct-head, IsDistinct-tail, IsDistinct-cons}
use Rattle.acl_names.specs.Ascending.{IsAscending, repeats}
use Rattle.acl_names.proofs.AscendingLemmas.{ascending_from_sorted, find-permutation, repeats-permutation}
use Rattle.acl_names.proofs.Counting.{count_by-cons}
use Rattle.acl_names.proofs.Keys.{same_name}

-- what is sorted by a part of what each element shows is sorted by it once shown
pub sorted_shown : {P Q K : Type 0} (shown : P → Q) (key : Q → K) (R : K → K → Ordering) (xs : List P) → IsSortedByKey (λ x. key (shown x)) R xs
    → IsSortedByKey key R (each shown xs)
sorted_shown shown key R [] sorted = λ k d low high. absurd (omega arith)
sorted_shown shown key R (x ∷ xs) sorted = λ k d low high.
    let inside : k + 1 < length (x ∷ xs) = omega (arith, length-map (x ∷ xs) shown, high) in
    ap₂ (λ a b. is_lt (R (key a) (key b))) (get_or-map shown (x ∷ xs) (k + 1) x d inside) (get_or-map shown (x ∷ xs) k x d (omega arith))
    ∙ sorted k x low inside

abbrev order : List ℕ → List ℕ → Ordering
order = slice_cmp nat_cmp

is_eq-reverse : (o : Ordering) → is_eq (ordering_reverse o) ≡ is_eq o
is_eq-reverse Less = refl
is_eq-reverse Equal = refl
is_eq-reverse Greater = refl

flipped : (a b : List ℕ) → bytes_eq a b ≡ bytes_eq b a
flipped a b =
    same_name a b ∙ ap is_eq (nat_list_cmp_total.antisymm a b) ∙ is_eq-reverse (order b a) ∙ sym (same_name b a)

module _ {X : Type 0} where
  abbrev path_of : List ℕ × X → List ℕ
  path_of entry = entry.0

  abbrev paths_of : List (List ℕ × X) → List (List ℕ)
  paths_of entries = each path_of entries

  -- entries with other paths than this
  none_counted : (q : List ℕ) (entries : List (List ℕ × X)) → AllByRecursion (λ path. bytes_eq q path ≡ false) (paths_of entries)
      → count_by (λ entry. bytes_eq (path_of entry) q) entries ≡ 0
  none_counted q [] apart = refl
  none_counted q (entry ∷ entries) (here, later) =
      count_by-cons (λ other. bytes_eq (path_of other) q) entry entries
      ∙ ap (λ b. cond b 1 0 + count_by (λ other. bytes_eq (path_of other) q) entries) (flipped (path_of entry) q ∙ here)
      ∙ omega (arith, none_counted q entries later)

  -- of paths that differ, none stands twice
  counted : (entries : List (List ℕ × X)) → IsDistinct bytes_eq (paths_of entries) → (q : List ℕ)
      → count_by (λ entry. bytes_eq (path_of entry) q) entries ≤ 1
  counted [] distinct q = omega arith
  counted (entry ∷ entries) distinct q =
      subst (λ (n : ℕ). n ≤ 1) (sym (count_by-cons (λ other. bytes_eq (path_of other) q) entry entries))
      (by (bytes_eq (path_of entry) q) refl (counted entries (IsDistinct-tail bytes_eq (path_of entry) (paths_of entries) distinct) q))
    where
      by : (b : Bool) → bytes_eq (path_of entry) q ≡ b → count_by (λ other. bytes_eq (path_of other) q) entries ≤ 1
          → cond b 1 0 + count_by (λ other. bytes_eq (path_of other) q) entries ≤ 1
      by true e rest =
          let none : count_by (λ other. bytes_eq (path_of other) q) entries ≡ 0 =
          none_counted q entries
          (subst (λ (p : List ℕ). AllByRecursion (λ path. bytes_eq p path ≡ false) (paths_of entries)) (same_text (path_of entry) q (sym e))
          (IsDistinct-head bytes_eq (path_of entry) (paths_of entries) distinct)) in
          omega (arith, none)
      by false e rest = omega (arith, rest)

  once : (entries : List (List ℕ × X)) → IsDistinct bytes_eq (paths_of entries) → repeats bytes_eq path_of entries ≡ false
  once entries distinct =
      list_any_none (λ one. nat_lt 1 (count_by (λ other. bytes_eq (path_of other) (path_of one)) entries)) entries
      (λ k d inside. le-ltb 1 _ (counted entries distinct (path_of (get_or entries k d))))

  -- what the finite map looks up is what is found by its bytes
  looked_up : (q : List ℕ) (entries : List (List ℕ × X)) → value_of order q entries ≡ option_map (λ entry. entry.1) (find (λ entry. bytes_eq (path_of entry) q) entries)
  looked_up q [] = refl
  looked_up q (entry ∷ entries) =
      ap₂ (λ (b : Bool) (rest : Option X). cond b (Some entry.1) rest) (sym (same_name q (path_of entry)) ∙ flipped q (path_of entry)) (looked_up q entries)
      ∙ by (bytes_eq (path_of entry) q)
    where
      by : (b : Bool) → cond b (Some entry.1) (option_map (λ (other : List ℕ × X). other.1) (find (λ other. bytes_eq (path_of other) q) entries))
          ≡ option_map (λ (other : List ℕ × X). other.1) (cond b (Some entry) (find (λ other. bytes_eq (path_of other) q) entries))
      by true = refl
      by false = refl

  -- entries that ascend are in the finite map's order
  all_below : (path : List ℕ) (entries : List (List ℕ × X)) → ((k : ℕ) (d : List ℕ × X) → k < length entries → order path (path_of (get_or entries k d)) ≡ Less)
      → below_all order path entries ≡ true
  all_below path [] below = refl
  all_below path (entry ∷ entries) below =
      ap₂ (λ a b. a && b) (ap is_lt (below zero entry (omega arith))) (all_below path entries (λ k d inside. below (suc k) d (omega arith)))

  in_order : (entries : List (List ℕ × X)) → IsAscending order path_of entries → is_sorted order entries ≡ true
  in_order [] ascends = refl
  in_order (entry ∷ entries) ascends =
      ap₂ (λ a b. a && b) (all_below (path_of entry) entries (λ k d inside. ascends zero (suc k) d (omega arith) (omega arith)))
      (in_order entries (λ i j d before inside. ascends (suc i) (suc j) d (omega arith) (omega arith)))

  pub sorted_entries : (entries sorted : List (List ℕ × X)) → IsDistinct bytes_eq (paths_of entries) → IsPermutation entries sorted
      → IsSortedByKey path_of order sorted → sorted ≡ finite.entries (finite.from_entries {R = slice_cmp nat_cmp} entries)
  sorted_entries entries sorted distinct moved rises =
      let nodes : finite.FinMap (slice_cmp nat_cmp) X = finite.from_entries entries in
      let single : repeats bytes_eq path_of sorted ≡ false =
      sym (repeats-permutation order nat_list_cmp_total path_of bytes_eq same_name entries sorted moved) ∙ once entries distinct in
      let up : is_sorted order sorted ≡ true =
      in_order sorted (ascending_from_sorted order nat_list_cmp_total path_of bytes_eq same_name sorted rises single) in
      same_entries order nat_list_cmp_total (slice_cmp-IsAntisymmetric nat_cmp-IsAntisymmetric) sorted (finite.entries nodes)
      (subst T (sym up) tt) (entries_sorted nodes)
      (λ q. looked_up q sorted
      ∙ ap (option_map (λ (entry : List ℕ × X). entry.1)) (sym (find-permutation order nat_list_cmp_total path_of bytes_eq same_name entries sorted q moved single))
      ∙ sym (looked_up q entries)
      ∙ sym (get-from_entries nat_list_cmp_total entries q)
      ∙ get-entries nodes q)

  -- the paths of a map's entries differ, as its keys do
  pub distinct_paths : {K : Type 0} (bytes : K → List ℕ) (entries : List (K × X)) → IsDistinct (λ a b. bytes_eq (bytes a) (bytes b)) (keys_of entries)
      → IsDistinct bytes_eq (paths_of (each (λ (entry : K × X). (bytes entry.0, entry.1)) entries))
  unfolding IsDistinct
  distinct_paths bytes [] distinct = distinct
  distinct_paths bytes (entry ∷ entries) distinct =
      IsDistinct-cons bytes_eq (bytes entry.0) (paths_of (each (λ (one : _ × X). (bytes one.0, one.1)) entries))
      (others entries (IsDistinct-head (λ a b. bytes_eq (bytes a) (bytes b)) entry.0 (keys_of entries) distinct))
      (distinct_paths bytes entries (IsDistinct-tail (λ a b. bytes_eq (bytes a) (bytes b)) entry.0 (keys_of entries) distinct))
    where
      others : (rest : List (_ × X)) → AllByRecursion (λ key. bytes_eq (bytes entry.0) (bytes key) ≡ false) (keys_of rest)
          → AllByRecursion (λ path. bytes_eq (bytes entry.0) path ≡ false) (paths_of (each (λ (one : _ × X). (bytes one.0, one.1)) rest))
      others [] all = tt
      others (one ∷ rest) (here, later) = (here, others rest later)
