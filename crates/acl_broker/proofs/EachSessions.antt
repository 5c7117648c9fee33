-- What holds of each of so many sessions and its item, by its place.
use Rattle.std.specs.List.{AllZip, range_with_len}
use Rattle.std.proofs.Common.{◌≡◌, ◌≢◌, ℕ, zero, suc, ◌<◌, List, [], ◌∷◌, ◌∙◌, sym, length, get_or, set, length-set, subst, arith, inl, inr}
use Rattle.std.proofs.lemmas.Bool.Decides.{eqb_tells}
use Rattle.std.proofs.lemmas.List.{get_or-set_same, get_or-set_other}
use Rattle.std.proofs.lemmas.List.FromFn.{length-range_with_len, get_or-range_with_len}
use Rattle.std.proofs.lemmas.Slice.Zip.{AllZip-long}
use Rattle.acl_broker.specs.Points.{EachSession}

module _ {A B : Type 0} (R : A → B → Type 0) where
  -- two lists, from the pair at each place
  pub all_zip : (xs : List A) (ys : List B) → length ys ≡ length xs
      → ((i : ℕ) (x : A) (y : B) → i < length xs → R (get_or xs i x) (get_or ys i y)) → AllZip R xs ys
  all_zip [] [] count each = tt
  all_zip [] (y ∷ ys) count each = absurd (omega (arith, count))
  all_zip (x ∷ xs) [] count each = absurd (omega (arith, count))
  all_zip (x ∷ xs) (y ∷ ys) count each = (each 0 x y (omega arith), all_zip xs ys (omega (arith, count)) (λ i x y below. each (suc i) x y (omega (arith, below))))

  -- and back: the pair at a place
  zip_at : (xs : List A) (ys : List B) → AllZip R xs ys → (i : ℕ) (x : A) (y : B) → i < length xs → R (get_or xs i x) (get_or ys i y)
  zip_at [] ys all i x y below = absurd (omega (arith, below))
  zip_at (first ∷ xs) [] all i x y below = absurd all
  zip_at (first ∷ xs) (other ∷ ys) all zero x y below = all.0
  zip_at (first ∷ xs) (other ∷ ys) all (suc i) x y below = zip_at xs ys all.1 i x y (omega (arith, below))

module _ {A : Type 0} (P : ℕ → A → Type 0) (sessions : ℕ) (items : List A) where
  -- sessions, from the item of each
  pub each_session : length items ≡ sessions → ((session : ℕ) (none : A) → session < sessions → P session (get_or items session none)) → EachSession P sessions items
  each_session count each = all_zip P (range_with_len 0 sessions) items (count ∙ sym (length-range_with_len 0 sessions)) (λ i session none low.
      let below : i < sessions = omega (arith, low, length-range_with_len 0 sessions) in
      subst (λ at. P at (get_or items i none)) (omega (arith, get_or-range_with_len 0 sessions i session below)) (each i none below))

  module _ (all : EachSession P sessions items) where
    -- and back: the item of a session,
    pub of_session : (session : ℕ) (none : A) → session < sessions → P session (get_or items session none)
    of_session session none below =
        subst (λ at. P at (get_or items session none)) (omega (arith, get_or-range_with_len 0 sessions session session below))
        (zip_at P (range_with_len 0 sessions) items all session session none (omega (arith, below, length-range_with_len 0 sessions)))

    -- how many there are,
    pub as_many : length items ≡ sessions
    as_many = AllZip-long P (range_with_len 0 sessions) items all ∙ length-range_with_len 0 sessions

-- and what still holds if only one item was written
pub each_after : {A : Type 0} (P P' : ℕ → A → Type 0) (sessions : ℕ) (items : List A) (i : ℕ) (item : A) → EachSession P sessions items → i < length items
    → ((session : ℕ) (kept : A) → session ≢ i → P session kept → P' session kept) → P' i item → EachSession P' sessions (set items i item)
each_after P P' sessions items i item all below others changed =
    each_session P' sessions (set items i item) (length-set items i item ∙ as_many P sessions items all)
    (λ session none within. elim (eqb_tells session i) [
      | inl same ↦ subst (λ at. P' at (get_or (set items i item) at none)) (sym same.1) (subst (λ found. P' i found) (sym (get_or-set_same items i item none below)) changed)
      | inr differs ↦ subst (λ found. P' session found) (sym (get_or-set_other items i session item none differs.1)) (others session (get_or items session none) differs.1 (of_session P sessions items all session none within))
    ])
