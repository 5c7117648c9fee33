-- Ends that come back one by one, as the list that `rejoin` asks for.
use Rattle.std.proofs.Common.{ap, sym, ◌∙◌, arith, subst, get_or, inl, inr, length-append, ◌≡◌, ℕ, ◌<◌, List, [], ◌∷◌, ◌++◌, length, refl, Option, Some, option_to_list}
use Rattle.std.proofs.lemmas.Bool.Decides.{eqb_tells}
use Rattle.std.proofs.lemmas.List.{get_or_append_left, get_or_push, nil_from_length}
use Rattle.acl_broker.specs.Ends.{IsEndOf, AreEndsOf, AreFirstEndsOf, StaysEndOf}
use Rattle.acl_broker.specs.declared.end.End.{End}
use Rattle.acl_broker.specs.declared.taker_side.TakerSide.{TakerSide}

before_last : {A : Type 0} (items : List A) (last : A) (i : ℕ) → i < length (items ++ last ∷ []) → (i ≡ length items → ⊥) → i < length items
before_last items last i within differs = omega (arith, length-append items (last ∷ []))

module _ {I R : Type 0} where
  -- before any end came back
  pub first_ends_none : (sides : List (TakerSide I R)) → AreFirstEndsOf [] sides
  first_ends_none sides session end side below = absurd (omega arith)

  -- the end of the next session came back
  pub first_ends_push : (ends : List (End I R)) (end : End I R) (sides : List (TakerSide I R))
      → AreFirstEndsOf ends sides → ((side : TakerSide I R)
      → IsEndOf (length ends) end (get_or sides (length ends) side)) → AreFirstEndsOf (ends ++ end ∷ []) sides
  first_ends_push ends end sides first next session default side below =
      elim (eqb_tells session (length ends)) [
        | inl same ↦ subst (λ at. IsEndOf at (get_or (ends ++ end ∷ []) at default) (get_or sides at side)) (sym same.1)
            (subst (λ found. IsEndOf (length ends) found (get_or sides (length ends) side)) (sym (get_or_push ends end default (length ends) refl)) (next side))
        | inr differs ↦
            let within : session < length ends = before_last ends end session below differs.1 in
            subst (λ found. IsEndOf session found (get_or sides session side)) (sym (get_or_append_left ends (end ∷ []) default session within)) (first session default side within)
      ]

  -- all of them came back
  pub first_ends_all : (ends : List (End I R)) (sides : List (TakerSide I R)) → length ends ≡ length sides → AreFirstEndsOf ends sides → AreEndsOf ends sides
  first_ends_all ends sides count first = (count, λ session end side below. first session end side (omega arith))

  -- one end is all
  pub one_end_stays : (end end' : End I R) (sides : List (TakerSide I R)) → AreEndsOf (end ∷ []) sides → StaysEndOf end end' → AreEndsOf (end' ∷ []) sides
  one_end_stays end end' sides are stays =
      first_ends_all (end' ∷ []) sides are.0
      (first_ends_push [] end' sides (first_ends_none sides) (λ side. stays 0 (get_or sides 0 side) (are.1 0 end side (omega (arith, are.0)))))

  -- two ends are all
  pub two_ends_stay : (first second first' second' : End I R) (sides : List (TakerSide I R))
      → AreEndsOf (first ∷ second ∷ []) sides → StaysEndOf first first' → StaysEndOf second second'
      → AreEndsOf (first' ∷ second' ∷ []) sides
  two_ends_stay first second first' second' sides are stays stays' =
      first_ends_all (first' ∷ second' ∷ []) sides are.0
      (first_ends_push (first' ∷ []) second' sides
      (first_ends_push [] first' sides (first_ends_none sides) (λ side. stays 0 (get_or sides 0 side) (are.1 0 first side (omega (arith, are.0)))))
      (λ side. stays' 1 (get_or sides 1 side) (are.1 1 first side (omega (arith, are.0)))))

-- a list of which one was popped, and nothing is left
pub popped_only : {A : Type 0} (all rest : List A) (popped : Option A) (x y : A) → all ≡ rest ++ option_to_list popped → popped ≡ Some x → x ≡ y → length rest ≡ 0 → all ≡ y ∷ []
popped_only all rest popped x y items is same none =
    items ∙ ap (λ front. front ++ option_to_list popped) (nil_from_length rest none) ∙ ap (λ found. option_to_list found) (is ∙ ap (λ found. Some found) same)

-- a list of which two were popped, the second first, and nothing is left
pub popped_both : {A : Type 0} (all more rest : List A) (popped popped' : Option A) (first second : A)
    → all ≡ more ++ option_to_list popped → popped ≡ Some second → more ≡ rest ++ option_to_list popped'
    → popped' ≡ Some first → length rest ≡ 0 → all ≡ first ∷ second ∷ []
popped_both all more rest popped popped' first second items is items' is' none =
    items ∙ ap (λ found. more ++ option_to_list found) is ∙ ap (λ front. front ++ second ∷ []) (popped_only more rest popped' first first items' is' refl none)
