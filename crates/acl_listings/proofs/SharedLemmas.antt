-- The front that two texts share, and what is left of two paths behind it.
use Rattle.std.proofs.Common.{◌≡◌, ◌∙◌, ◌+◌, ◌-◌, ◌≤◌, ◌<◌, ◌⊎◌, inl, inr, ℕ, cond, List, [], ◌∷◌, ◌++◌, None, ap, ap₂, append_assoc, arith, drop, get_or, length, refl, subst, suc, sym, take, zero}
use Rattle.std.proofs.lemmas.List.Elements.{filter-append}
use Rattle.std.proofs.lemmas.List.{length-drop, take-append-drop, take-take, take_all}
use Rattle.std.proofs.lemmas.Slice.Eq.{bytes_eq-Decides}
use Rattle.std.proofs.Math.Seq.{drop-cons, take-add}
use Rattle.acl_names.specs.Pieces.{parts}
use Rattle.acl_listings.specs.Way.{leads, steps_among, steps_behind, steps_of}
use Rattle.acl_listings.specs.declared.way.TheConstants.{SLASH}
use Rattle.acl_listings.proofs.ListingLemmas.{parts-append}

-- texts that share a front, and then more, share both
alike-more : (one other : List ℕ) (n m : ℕ) → take n one ≡ take n other → take m (drop n one) ≡ take m (drop n other) → take (n + m) one ≡ take (n + m) other
alike-more one other n m alike more = take-add n m one ∙ ap₂ (λ front rest. front ++ rest) alike more ∙ sym (take-add n m other)

-- the bytes from a place on
pub rest-from : (text : List ℕ) (n : ℕ) → take (length text - n) (drop n text) ≡ drop n text
rest-from text n = take_all (length text - n) (drop n text) (omega (arith, length-drop n text))

module _ (one other : List ℕ) (n m : ℕ) (alike : take n one ≡ take n other) where
  abbrev first_rest : List ℕ
  first_rest = take (length one - n) (drop n one)

  abbrev second_rest : List ℕ
  second_rest = take (length other - n) (drop n other)

  -- texts that share a front, and so many bytes behind it
  pub alike-on : n ≤ length one → n ≤ length other → (take m first_rest ≡ take m second_rest) × (m ≤ length first_rest) × (m ≤ length second_rest)
      → (take (n + m) one ≡ take (n + m) other) × (n + m ≤ length one) × (n + m ≤ length other)
  alike-on first second (same, long, long_too) = (
    alike-more one other n m alike (ap (take m) (sym (rest-from one n)) ∙ same ∙ ap (take m) (rest-from other n)),
    omega (arith, first, long, ap length (rest-from one n), length-drop n one),
    omega (arith, second, long_too, ap length (rest-from other n), length-drop n other),
  )

-- a byte in the middle of a text
pub at-byte : (text : List ℕ) (n : ℕ) → n < length text → take (n + 1) text ≡ take n text ++ get_or text n 0 ∷ []
at-byte text n inside = take-add n 1 text ∙ ap (λ rest. take n text ++ take 1 rest) (drop-cons text n 0 inside)

-- the steps of a path on both sides of a slash
steps-append : (front back : List ℕ) → steps_of (front ++ SLASH ∷ back) ≡ steps_of front ++ steps_of back
steps-append front back = ap steps_among (parts-append SLASH front back) ∙ filter-append leads (parts SLASH front) (parts SLASH back)

behind-front : (front one other : List (List ℕ)) → steps_behind (front ++ one) (front ++ other) ≡ steps_behind one other
behind-front [] one other = refl
behind-front (step ∷ front) one other =
    ap (λ b. cond b (steps_behind (front ++ one) (front ++ other)) None) ((bytes_eq-Decides step step).1 refl) ∙ behind-front front one other

-- what a text is, up to a slash and behind it
cut-at : (front text : List ℕ) (n : ℕ) → take n text ≡ front ++ SLASH ∷ [] → text ≡ front ++ SLASH ∷ drop n text
cut-at front text n is = sym (take-append-drop n text) ∙ ap (λ begun. begun ++ drop n text) is ∙ append_assoc front (SLASH ∷ []) (drop n text)

module _ (one other : List ℕ) where
  abbrev SameBehind : ℕ → Type 0
  SameBehind n = steps_behind (steps_of (drop n one)) (steps_of (drop n other)) ≡ steps_behind (steps_of one) (steps_of other)

  behind-slash : (n : ℕ) → take (n + 1) one ≡ take (n + 1) other → n < length one → get_or one n 0 ≡ SLASH → SameBehind (n + 1)
  behind-slash n alike inside slash =
      let front : List ℕ = take n one in
      let begun : take (n + 1) one ≡ front ++ SLASH ∷ [] = at-byte one n inside ∙ ap (λ byte. front ++ byte ∷ []) slash in
      let first : steps_of one ≡ steps_of front ++ steps_of (drop (n + 1) one) =
      ap steps_of (cut-at front one (n + 1) begun) ∙ steps-append front (drop (n + 1) one) in
      let second : steps_of other ≡ steps_of front ++ steps_of (drop (n + 1) other) =
      ap steps_of (cut-at front other (n + 1) (sym alike ∙ begun)) ∙ steps-append front (drop (n + 1) other) in
      sym (ap₂ steps_behind first second ∙ behind-front (steps_of front) (steps_of (drop (n + 1) one)) (steps_of (drop (n + 1) other)))

  -- what is left behind a slash that both share leads on as they do
  pub shared-front : (n len : ℕ) → n ≤ len → take len one ≡ take len other → n ≤ length one → (n ≡ 0) ⊎ (get_or one (n - 1) 0 ≡ SLASH) → SameBehind n
  shared-front zero len short alike inside slash = refl
  shared-front (suc n) len short alike inside (inl none) = absurd (omega (arith, none))
  shared-front (suc n) len short alike inside (inr slash) =
      let more : suc n ≡ n + 1 = omega arith in
      let front : take (n + 1) one ≡ take (n + 1) other =
      sym (take-of one (n + 1) len (omega (arith, short))) ∙ ap (take (n + 1)) alike ∙ take-of other (n + 1) len (omega (arith, short)) in
      let last : suc n - 1 ≡ n = omega arith in
      subst SameBehind (sym more) (behind-slash n front (omega (arith, inside)) (ap (λ k. get_or one k 0) (sym last) ∙ slash))
    where
      take-of : (text : List ℕ) (m k : ℕ) → m ≤ k → take m (take k text) ≡ take m text
      take-of text m k below = take-take m k text below
