-- Where the members of one name stand in a list that is sorted by names.
use Rattle.std.proofs.Common.{◌≡◌, ◌∙◌, ℕ, ◌+◌, ◌<◌, ◌≤◌, Bool, true, false, Ordering, List, [], ◌++◌, take, drop, filter}
use Rattle.std.proofs.Common.{refl, sym, ap, arith, nat_cmp, bytes_eq}
use Rattle.std.specs.declared.cmp.Ordering.TheVariants.{Less, Equal, Greater}
use Rattle.std.specs.Cmp.Lexicographic.{slice_cmp}
use Rattle.std.specs.List.{All}
use Rattle.std.specs.List.Sorted.{IsNonDecreasingBy, IsPartitionedBy, IsPartitionPoint}
use Rattle.std.specs.Ordering.{is_eq, is_lt, ordering_index}
use Rattle.std.proofs.lemmas.Bool.{true≢false}
use Rattle.std.proofs.lemmas.List.{append-nil, get_or-drop, get_or-take, length-drop, length-take, take-append-drop}
use Rattle.std.proofs.lemmas.List.Elements.{filter-append}
use Rattle.acl_names.proofs.Keys.{same_name}
use Rattle.acl_accounts.proofs.SortLemmas.{filter_every, filter_none}

index_low : (o : Ordering) → is_lt o ≡ true → ordering_index o ≤ 0
index_low Less e = omega arith
index_low Equal e = absurd (true≢false (sym e))
index_low Greater e = absurd (true≢false (sym e))

low_index : (o : Ordering) → ordering_index o ≤ 0 → is_lt o ≡ true
low_index Less e = refl
low_index Equal e = absurd (omega arith)
low_index Greater e = absurd (omega arith)

index_equal : (o : Ordering) → is_eq o ≡ true → ordering_index o ≤ 1
index_equal Less e = absurd (true≢false (sym e))
index_equal Equal e = omega arith
index_equal Greater e = absurd (true≢false (sym e))

equal_index : (o : Ordering) → ordering_index o ≤ 1 → is_lt o ≡ false → is_eq o ≡ true
equal_index Less e f = absurd (true≢false f)
equal_index Equal e f = refl
equal_index Greater e f = absurd (omega arith)

low_differs : (o : Ordering) → is_lt o ≡ true → is_eq o ≡ false
low_differs Less e = refl
low_differs Equal e = absurd (true≢false (sym e))
low_differs Greater e = refl

module _ {X : Type 0} (name_of : X → List ℕ) (q : List ℕ) where
  abbrev low : X → Bool
  low y = is_lt (slice_cmp nat_cmp (name_of y) q)

  abbrev same : X → Bool
  same y = bytes_eq (name_of y) q

  abbrev place : X → ℕ
  place y = ordering_index (slice_cmp nat_cmp (name_of y) q)

  pub lows : (xs : List X) → IsNonDecreasingBy place xs → IsPartitionedBy low xs
  lows xs up = λ i j d before inside is. low_index _ (omega (arith, index_low _ is, up i j d before inside))

  pub sames : (xs : List X) → IsNonDecreasingBy place xs → All (λ y. low y ≡ false) xs → IsPartitionedBy same xs
  sames xs up high = λ i j d before inside is.
      same_name _ q ∙ equal_index _ (omega (arith, index_equal _ (sym (same_name _ q) ∙ is), up i j d before inside)) (high i d (omega arith))

  -- behind those that are lower
  pub still_up : (xs : List X) (from : ℕ) → IsNonDecreasingBy place xs → IsNonDecreasingBy place (drop from xs)
  still_up xs from up = λ i j d before inside.
      rw (get_or-drop from xs i d, get_or-drop from xs j d) (up (from + i) (from + j) d (omega arith) (omega (arith, length-drop from xs)))

  pub still_high : (xs : List X) (from : ℕ) → IsPartitionPoint (λ y. low y ≡ true) (λ y. low y ≡ false) xs from → All (λ y. low y ≡ false) (drop from xs)
  still_high xs from parted = λ k d inside.
      rw (get_or-drop from xs k d) (parted.1 (from + k) d (omega arith) (omega (arith, length-drop from xs)))

  pub in_range : (xs : List X) (from count : ℕ) → IsPartitionPoint (λ y. low y ≡ true) (λ y. low y ≡ false) xs from
      → IsPartitionPoint (λ y. same y ≡ true) (λ y. same y ≡ false) (drop from xs) count → take count (drop from xs) ≡ filter same xs
  in_range xs from count parted middle =
      let behind = drop from xs in
      let front_none : filter same (take from xs) ≡ [] =
      filter_none same (take from xs) (λ k d inside.
      let here : k < from = omega (arith, length-take from xs) in
      ap same (get_or-take from xs k d here) ∙ same_name _ q ∙ low_differs _ (parted.0 k d (omega arith) here)) in
      let all_stay : filter same (take count behind) ≡ take count behind =
      filter_every same (take count behind) (λ k d inside.
      let here : k < count = omega (arith, length-take count behind) in
      ap same (get_or-take count behind k d here) ∙ middle.0 k d (omega arith) here) in
      let end_none : filter same (drop count behind) ≡ [] =
      filter_none same (drop count behind) (λ k d inside.
      ap same (get_or-drop count behind k d) ∙ middle.1 (count + k) d (omega arith) (omega (arith, length-drop count behind))) in
      sym (ap (filter same) (sym (take-append-drop from xs)) ∙ filter-append same (take from xs) behind
      ∙ ap (λ ys. ys ++ filter same behind) front_none
      ∙ ap (filter same) (sym (take-append-drop count behind)) ∙ filter-append same (take count behind) (drop count behind)
      ∙ ap (λ ys. filter same (take count behind) ++ ys) end_none ∙ append-nil (filter same (take count behind)) ∙ all_stay)
