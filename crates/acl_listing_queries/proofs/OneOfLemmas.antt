-- What is one of a list.
use Rattle.std.proofs.Common.{◌≡◌, ◌∙◌, ◌++◌, ◌&&◌, ◌||◌, ◌⊎◌, Bool, true, false, cond, List, [], ◌∷◌, ap, inl, inr, refl, sym}
use Rattle.std.specs.List.{filter, list_all, list_any}
use Rattle.acl_listing_queries.specs.RootSteps.{IsOneOf}

module _ {X : Type 0} where
  pub one_of_front : (item : X) (items more : List X) → IsOneOf item items → IsOneOf item (items ++ more)
  one_of_front item [] more is = absurd is
  one_of_front item (first ∷ items) more (inl here) = inl here
  one_of_front item (first ∷ items) more (inr later) = inr (one_of_front item items more later)

  pub one_of_end : (item : X) (items : List X) → IsOneOf item (items ++ item ∷ [])
  one_of_end item [] = inl refl
  one_of_end item (first ∷ items) = inr (one_of_end item items)

  pub one_of_either : (item last : X) (items : List X) → IsOneOf item (items ++ last ∷ []) → IsOneOf item items ⊎ (item ≡ last)
  one_of_either item last [] (inl here) = inr here
  one_of_either item last [] (inr none) = absurd none
  one_of_either item last (first ∷ items) (inl here) = inl (inl here)
  one_of_either item last (first ∷ items) (inr later) = by (one_of_either item last items later)
    where
      by : IsOneOf item items ⊎ (item ≡ last) → IsOneOf item (first ∷ items) ⊎ (item ≡ last)
      by (inl there) = inl (inr there)
      by (inr is) = inr is

  pub one_of_filter : (test : X → Bool) (item : X) (items : List X) → IsOneOf item (filter test items) → IsOneOf item items
  one_of_filter test item [] is = absurd is
  one_of_filter test item (first ∷ items) is = by (test first) is (one_of_filter test item items)
    where
      by : (b : Bool) → IsOneOf item (cond b (first ∷ filter test items) (filter test items)) → (IsOneOf item (filter test items) → IsOneOf item items) → IsOneOf item (first ∷ items)
      by true (inl here) rest = inl here
      by true (inr later) rest = inr (rest later)
      by false is rest = inr (rest is)

  -- tests of all, and of any

  pub all_pass : (test : X → Bool) (items : List X) → list_all test items ≡ true → (item : X) → IsOneOf item items → test item ≡ true
  all_pass test [] all item is = absurd is
  all_pass test (first ∷ items) all item is = by (test first) refl all is (all_pass test items)
    where
      by : (b : Bool) → test first ≡ b → (b && list_all test items) ≡ true → IsOneOf item (first ∷ items) → (list_all test items ≡ true → (item : X) → IsOneOf item items → test item ≡ true) → test item ≡ true
      by true passes all (inl here) rest = ap test here ∙ passes
      by true passes all (inr later) rest = rest all item later
      by false passes all is rest = cc

  pub all_from : (test : X → Bool) (items : List X) → ((item : X) → IsOneOf item items → test item ≡ true) → list_all test items ≡ true
  all_from test [] each = refl
  all_from test (first ∷ items) each = ap (λ b. b && list_all test items) (each first (inl refl)) ∙ all_from test items (λ item is. each item (inr is))

  pub any_from : (test : X → Bool) (items : List X) (item : X) → IsOneOf item items → test item ≡ true → list_any test items ≡ true
  any_from test [] item is passes = absurd is
  any_from test (first ∷ items) item (inl here) passes = by (test first) (ap test (sym here) ∙ passes)
    where
      by : (b : Bool) → b ≡ true → (b || list_any test items) ≡ true
      by true is = refl
      by false is = cc
  any_from test (first ∷ items) item (inr later) passes = by (test first) (any_from test items item later passes)
    where
      by : (b : Bool) → list_any test items ≡ true → (b || list_any test items) ≡ true
      by true is = refl
      by false is = is
