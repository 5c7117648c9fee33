-- A list that ascends by its keys is known by the set of its members.
use Rattle.std.proofs.Common.{◌≡◌, ◌∙◌, ◌⊎◌, zero, suc, Ordering, List, [], ◌∷◌, refl, sym, subst, ap, arith, inl, inr, Contains}
use Rattle.std.specs.declared.cmp.Ordering.TheVariants.{Less}
use Rattle.std.specs.Cmp.{IsTotalOrder}
use Rattle.std.specs.Ordering.{ordering_reverse}
use Rattle.acl_names.specs.Ascending.{IsAscending}

first_or_rest : {X : Type 0} (x : X) (xs : List X) (z : X) → Contains (x ∷ xs) z → (z ≡ x) ⊎ Contains xs z
first_or_rest x xs z (zero, inside, at) = inl (sym at)
first_or_rest x xs z (suc k, inside, at) = inr (k, omega arith, at)

is_first : {X : Type 0} (x : X) (xs : List X) → Contains (x ∷ xs) x
is_first x xs = (0, omega arith, refl)

is_later : {X : Type 0} (x : X) (xs : List X) (z : X) → Contains xs z → Contains (x ∷ xs) z
is_later x xs z (k, inside, at) = (suc k, omega arith, at)

module _ {X K : Type 0} (R : K → K → Ordering) (total : IsTotalOrder R) (key : X → K) where
  abbrev Below : X → X → Type 0
  Below a b = R (key a) (key b) ≡ Less

  -- of two members only one is below the other
  below_asym : (a b : X) → Below a b → Below b a → ⊥
  below_asym a b first second =
      let other = total.antisymm (key a) (key b) ∙ ap ordering_reverse second in
      cc

  -- the first member is below each of the others
  first_below : (x : X) (xs : List X) → IsAscending R key (x ∷ xs) → (z : X) → Contains xs z → Below x z
  first_below x xs ascends z (k, inside, at) = subst (Below x) at (ascends 0 (suc k) z (omega arith) (omega arith))

  rest_ascends : (x : X) (xs : List X) → IsAscending R key (x ∷ xs) → IsAscending R key xs
  rest_ascends x xs ascends = λ i j d before inside. ascends (suc i) (suc j) d (omega arith) (omega arith)

  -- what is later in both is no first
  later_in_rest : (x y : X) (xs ys : List X) → x ≡ y → IsAscending R key (x ∷ xs) → (z : X) → Contains xs z → Contains (y ∷ ys) z → Contains ys z
  later_in_rest x y xs ys same ascends z later found =
      elim (first_or_rest y ys z found) [
        | inl first ↦
            let itself : Below x x = subst (Below x) (first ∙ sym same) (first_below x xs ascends z later) in
            absurd (below_asym x x itself itself)
        | inr there ↦ there
      ]

  pub one_list_for_a_set : (xs ys : List X) → IsAscending R key xs → IsAscending R key ys
      → ((z : X) → Contains xs z → Contains ys z) → ((z : X) → Contains ys z → Contains xs z) → xs ≡ ys
  one_list_for_a_set [] [] up_x up_y to from = refl
  one_list_for_a_set [] (y ∷ ys) up_x up_y to from = let none = (from y (is_first y ys)).1 in absurd (omega arith)
  one_list_for_a_set (x ∷ xs) [] up_x up_y to from = let none = (to x (is_first x xs)).1 in absurd (omega arith)
  one_list_for_a_set (x ∷ xs) (y ∷ ys) up_x up_y to from =
      let same : x ≡ y =
      elim (first_or_rest y ys x (to x (is_first x xs))) [
        | inl first ↦ first
        | inr later ↦ elim (first_or_rest x xs y (from y (is_first y ys))) [
          | inl other ↦ sym other
          | inr after ↦ absurd (below_asym y x (first_below y ys up_y x later) (first_below x xs up_x y after))
        ]
      ] in
      let rest : xs ≡ ys = one_list_for_a_set xs ys (rest_ascends x xs up_x) (rest_ascends y ys up_y)
      (λ z later. later_in_rest x y xs ys same up_x z later (to z (is_later x xs z later)))
      (λ z later. later_in_rest y x ys xs (sym same) up_y z later (from z (is_later y ys z later))) in
      λ i. same i ∷ rest i
