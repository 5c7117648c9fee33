-- One entry's step of the evaluation of a mask.
use Rattle.std.proofs.Common.{◌≡◌, ℕ, Bool, true, false, cond, not, ◌&&◌, ◌||◌, ◌↔◌, refl, sym, ap, ◌∙◌, List}
use Rattle.std.proofs.Common.{[], ◌∷◌, Some, ◌+◌, ◌<◌, length, get_or, drop, subst, ap₂, ◌==◌, IsTrue, find}
use Rattle.std.proofs.Common.{option_map, unwrap_or, bit_and}
use Rattle.std.proofs.lemmas.Bool.{true≢false, and_parts, and_from, eqb-true, eq-eqb}
use Rattle.std.proofs.Math.Bool.{or-false}
use Rattle.acl_names.specs.Bits.{has, without, ◌∩◌, ◌∪◌}
use Rattle.acl_nfs4.specs.Ace.{decides, is_allow, Nfsace4}
use Rattle.acl_nfs4.specs.Mask.{mode_bits}
use Rattle.acl_nfs4.proofs.ListLemmas.{drop-here}
use Rattle.acl_nfs4.specs.Evaluation.{speaks, allows, Grants}
use Rattle.acl_nfs4.specs.declared.who.Who.{Who}
use Rattle.acl_names.proofs.BitSets.{has-and, has-or, has-without, has-zero, no_bits}

module _ (applies : Who → Bool) where
  pub allows-cons : (bit : ℕ) (ace : Nfsace4) (rest : List Nfsace4)
      → allows applies bit (ace ∷ rest) ≡ cond (speaks applies bit ace) (is_allow ace.kind) (allows applies bit rest)
  allows-cons bit ace rest =
      elim (speaks applies bit ace)
      as (λ b. unwrap_or (option_map (λ (other : Nfsace4). is_allow other.kind) (cond b (Some ace) (find (speaks applies bit) rest))) false
      ≡ cond b (is_allow ace.kind) (allows applies bit rest))
      [ true ↦ refl | false ↦ refl ]

  -- an entry that applies to nobody concerned, or does not decide, changes nothing
  pub allows-skip : (ace : Nfsace4) (rest : List Nfsace4) → (decides ace && applies ace.who) ≡ false
      → (bit : ℕ) → allows applies bit (ace ∷ rest) ≡ allows applies bit rest
  unfolding speaks
  allows-skip ace rest idle bit =
      allows-cons bit ace rest
      ∙ ap (λ b. cond b (is_allow ace.kind) (allows applies bit rest)) (silent (decides ace) (applies ace.who) idle)
    where
      silent : (d a : Bool) → (d && a) ≡ false → (d && (a && has ace.mask bit)) ≡ false
      silent true true e = absurd (true≢false e)
      silent true false e = refl
      silent false a e = refl

  pub Grants-skip : (ace : Nfsace4) (rest : List Nfsace4) (undecided : ℕ) → (decides ace && applies ace.who) ≡ false
      → Grants applies (ace ∷ rest) undecided ↔ Grants applies rest undecided
  Grants-skip ace rest undecided idle =
      (λ g bit h. sym (allows-skip ace rest idle bit) ∙ g bit h, λ g bit h. allows-skip ace rest idle bit ∙ g bit h)

  -- an entry that decides settles the bits of its mask, as its kind says
  pub settles : (ace : Nfsace4) (rest : List Nfsace4) (bit : ℕ) → decides ace ≡ true → applies ace.who ≡ true
      → allows applies bit (ace ∷ rest) ≡ cond (has ace.mask bit) (is_allow ace.kind) (allows applies bit rest)
  unfolding speaks
  settles ace rest bit d a =
      allows-cons bit ace rest
      ∙ ap (λ b. cond (b && (applies ace.who && has ace.mask bit)) (is_allow ace.kind) (allows applies bit rest)) d
      ∙ ap (λ b. cond (b && has ace.mask bit) (is_allow ace.kind) (allows applies bit rest)) a

  -- an ALLOW leaves the other bits to the rest
  pub Grants-allow : (ace : Nfsace4) (rest : List Nfsace4) (undecided : ℕ) → decides ace ≡ true → applies ace.who ≡ true → is_allow ace.kind ≡ true
      → Grants applies (ace ∷ rest) undecided ↔ Grants applies rest (without undecided ace.mask)
  Grants-allow ace rest undecided d a allow = (
    λ g bit h.
        let parts = and_parts (has undecided bit) (not (has ace.mask bit)) (sym (has-without undecided ace.mask bit) ∙ h) in
        left_over bit (has ace.mask bit) parts.1 (sym (settles ace rest bit d a) ∙ g bit parts.0),
    λ g bit h.
        settles ace rest bit d a
        ∙ settled bit (has ace.mask bit) (λ open_still. g bit (has-without undecided ace.mask bit ∙ and_from _ _ h open_still)),
  )
    where
      left_over : (bit : ℕ) (b : Bool) → not b ≡ true → cond b (is_allow ace.kind) (allows applies bit rest) ≡ true → allows applies bit rest ≡ true
      left_over bit true n e = absurd (true≢false (sym n))
      left_over bit false n e = e

      settled : (bit : ℕ) (b : Bool) → (not b ≡ true → allows applies bit rest ≡ true) → cond b (is_allow ace.kind) (allows applies bit rest) ≡ true
      settled bit true g = allow
      settled bit false g = g refl

  not_both : (undecided mask bit : ℕ) → bit_and undecided mask ≡ 0 → has undecided bit ≡ true → has mask bit ≡ false
  not_both undecided mask bit none h = go (has mask bit) refl
    where
      go : (b : Bool) → has mask bit ≡ b → b ≡ false
      go false e = refl
      go true e =
          absurd (true≢false (sym (has-and undecided mask bit ∙ and_from _ _ h e) ∙ ap (λ m. has m bit) none ∙ has-zero bit))

  -- an entry that holds no bit still open changes nothing
  pub Grants-past : (ace : Nfsace4) (rest : List Nfsace4) (undecided : ℕ) → decides ace ≡ true → applies ace.who ≡ true → bit_and undecided ace.mask ≡ 0
      → Grants applies (ace ∷ rest) undecided ↔ Grants applies rest undecided
  Grants-past ace rest undecided d a none =
      (λ g bit h. sym (same bit h) ∙ g bit h, λ g bit h. same bit h ∙ g bit h)
    where
      same : (bit : ℕ) → has undecided bit ≡ true → allows applies bit (ace ∷ rest) ≡ allows applies bit rest
      same bit h =
          settles ace rest bit d a
          ∙ ap (λ b. cond b (is_allow ace.kind) (allows applies bit rest)) (not_both undecided ace.mask bit none h)

  -- an entry that does not allow and holds a bit still open denies
  pub Grants-denied : (ace : Nfsace4) (rest : List Nfsace4) (undecided : ℕ) → decides ace ≡ true → applies ace.who ≡ true → is_allow ace.kind ≡ false
      → (bit_and undecided ace.mask ≡ 0 → ⊥) → Grants applies (ace ∷ rest) undecided → ⊥
  Grants-denied ace rest undecided d a deny some g =
      some (no_bits (bit_and undecided ace.mask) (λ bit. has-and undecided ace.mask bit ∙ none bit (has undecided bit) refl (has ace.mask bit) refl))
    where
      none : (bit : ℕ) (x : Bool) → has undecided bit ≡ x → (y : Bool) → has ace.mask bit ≡ y → (x && y) ≡ false
      none bit false ex y ey = refl
      none bit true ex false ey = refl
      none bit true ex true ey =
          sym (g bit ex) ∙ settles ace rest bit d a ∙ ap (λ b. cond b (is_allow ace.kind) (allows applies bit rest)) ey ∙ deny

  -- at the end nothing may be open
  pub Grants-end : (undecided : ℕ) → Grants applies [] undecided ↔ IsTrue (undecided == 0)
  Grants-end undecided = (
    λ g. eq-eqb undecided 0 (no_bits undecided (λ bit. none bit (has undecided bit) refl g)),
    λ e bit h. absurd (true≢false (sym h ∙ ap (λ m. has m bit) (eqb-true undecided 0 e) ∙ has-zero bit)),
  )
    where
      none : (bit : ℕ) (b : Bool) → has undecided bit ≡ b → Grants applies [] undecided → b ≡ false
      none bit false e g = refl
      none bit true e g = sym (g bit e)

  -- what is not asked is granted
  pub Grants-nothing : (aces : List Nfsace4) (undecided : ℕ) → undecided ≡ 0 → Grants applies aces undecided
  Grants-nothing aces undecided none bit h = absurd (true≢false (sym h ∙ ap (λ m. has m bit) none ∙ has-zero bit))

  -- after an entry the question is what the rest grants of what the entry leaves open
  pub Grants-step : (whole : Type 0) (aces : List Nfsace4) (i : ℕ) (ace : Nfsace4) (before after : ℕ) → i < length aces → ace ≡ get_or aces i ace
      → Grants applies (ace ∷ drop (i + 1) aces) before ↔ Grants applies (drop (i + 1) aces) after
      → whole ↔ Grants applies (drop i aces) before
      → whole ↔ Grants applies (drop (i + 1) aces) after
  Grants-step whole aces i ace before after inside here step so_far =
      let split : drop i aces ≡ ace ∷ drop (i + 1) aces = drop-here aces i ace inside here in (
        λ g. step.0 (subst (λ xs. Grants applies xs before) split (so_far.0 g)),
        λ g. so_far.1 (subst (λ xs. Grants applies xs before) (sym split) (step.1 g)),
      )

  -- if the entry denies, the whole is not granted
  pub denied-here : (whole : Type 0) (aces : List Nfsace4) (i : ℕ) (ace : Nfsace4) (before : ℕ) → i < length aces → ace ≡ get_or aces i ace
      → (Grants applies (ace ∷ drop (i + 1) aces) before → ⊥)
      → whole ↔ Grants applies (drop i aces) before
      → IsTrue false ↔ whole
  denied-here whole aces i ace before inside here deny so_far =
      let split : drop i aces ≡ ace ∷ drop (i + 1) aces = drop-here aces i ace inside here in (
        λ e. absurd (true≢false (sym e)),
        λ g. absurd (deny (subst (λ xs. Grants applies xs before) split (so_far.0 g))),
      )

-- ---- what is allowed, bit by bit

-- a bit is allowed if it was found to be, or is open and allowed by the rest
abbrev pub found : Bool → Bool → Bool → Bool
found allowed undecided rest = allowed || (undecided && rest)

abbrev pub IsFound : (Who → Bool) → List Nfsace4 → List Nfsace4 → ℕ → ℕ → Type 0
IsFound applies whole rest allowed undecided =
    (bit : ℕ) → has mode_bits bit ≡ true → allows applies bit whole ≡ found (has allowed bit) (has undecided bit) (allows applies bit rest)

-- one entry that concerns whoever asks, for one bit
module _ (applies : Who → Bool) (ace : Nfsace4) (rest : List Nfsace4) (allowed undecided bit : ℕ) (concerned : (decides ace && applies ace.who) ≡ true) where
  pub found-allow : is_allow ace.kind ≡ true → found (has allowed bit) (has undecided bit) (allows applies bit (ace ∷ rest))
      ≡ found (has (allowed ∪ undecided ∩ ace.mask) bit) (has (without undecided ace.mask) bit) (allows applies bit rest)
  found-allow allow =
      let both = and_parts (decides ace) (applies ace.who) concerned in
      ap (found (has allowed bit) (has undecided bit))
      (settles applies ace rest bit both.0 both.1 ∙ ap (λ b. cond (has ace.mask bit) b (allows applies bit rest)) allow)
      ∙ settle (has allowed bit) (has undecided bit) (has ace.mask bit)
      ∙ sym (ap₂ (λ a u. found a u (allows applies bit rest))
      (has-or allowed (undecided ∩ ace.mask) bit ∙ ap (λ b. has allowed bit || b) (has-and undecided ace.mask bit))
      (has-without undecided ace.mask bit))
    where
      settle : (a u m : Bool) → found a u (cond m true (allows applies bit rest)) ≡ found (a || (u && m)) (u && not m) (allows applies bit rest)
      settle true u m = refl
      settle false true true = refl
      settle false true false = refl
      settle false false m = refl

  pub found-deny : is_allow ace.kind ≡ false → found (has allowed bit) (has undecided bit) (allows applies bit (ace ∷ rest))
      ≡ found (has allowed bit) (has (without undecided ace.mask) bit) (allows applies bit rest)
  found-deny deny =
      let both = and_parts (decides ace) (applies ace.who) concerned in
      ap (found (has allowed bit) (has undecided bit))
      (settles applies ace rest bit both.0 both.1 ∙ ap (λ b. cond (has ace.mask bit) b (allows applies bit rest)) deny)
      ∙ settle (has allowed bit) (has undecided bit) (has ace.mask bit)
      ∙ sym (ap (λ u. found (has allowed bit) u (allows applies bit rest)) (has-without undecided ace.mask bit))
    where
      settle : (a u m : Bool) → found a u (cond m false (allows applies bit rest)) ≡ found a (u && not m) (allows applies bit rest)
      settle true u m = refl
      settle false true true = refl
      settle false true false = refl
      settle false false m = refl

module _ (applies : Who → Bool) (whole : List Nfsace4) where
  -- before the first entry all of the mode's bits are open
  pub IsFound-all : IsFound applies whole whole 0 mode_bits
  IsFound-all bit of_mode = sym (ap₂ (λ a u. found a u (allows applies bit whole)) (has-zero bit) of_mode)

  pub IsFound-skip : (ace : Nfsace4) (rest : List Nfsace4) (allowed undecided : ℕ) → (decides ace && applies ace.who) ≡ false
      → IsFound applies whole (ace ∷ rest) allowed undecided → IsFound applies whole rest allowed undecided
  IsFound-skip ace rest allowed undecided idle so_far bit of_mode =
      so_far bit of_mode ∙ ap (found (has allowed bit) (has undecided bit)) (allows-skip applies ace rest idle bit)

  pub IsFound-allow : (ace : Nfsace4) (rest : List Nfsace4) (allowed undecided : ℕ) → (decides ace && applies ace.who) ≡ true → is_allow ace.kind ≡ true
      → IsFound applies whole (ace ∷ rest) allowed undecided
      → IsFound applies whole rest (allowed ∪ undecided ∩ ace.mask) (without undecided ace.mask)
  IsFound-allow ace rest allowed undecided concerned allow so_far bit of_mode = so_far bit of_mode ∙ found-allow applies ace rest allowed undecided bit concerned allow

  pub IsFound-deny : (ace : Nfsace4) (rest : List Nfsace4) (allowed undecided : ℕ) → (decides ace && applies ace.who) ≡ true → is_allow ace.kind ≡ false
      → IsFound applies whole (ace ∷ rest) allowed undecided → IsFound applies whole rest allowed (without undecided ace.mask)
  IsFound-deny ace rest allowed undecided concerned deny so_far bit of_mode = so_far bit of_mode ∙ found-deny applies ace rest allowed undecided bit concerned deny

  -- if no bit is open, all are found, and so they are at the end of the list
  pub IsFound-none : (rest : List Nfsace4) (allowed undecided : ℕ) → undecided ≡ 0 → IsFound applies whole rest allowed undecided
      → (bit : ℕ) → has mode_bits bit ≡ true → has allowed bit ≡ allows applies bit whole
  IsFound-none rest allowed undecided none so_far bit of_mode =
      sym (so_far bit of_mode
      ∙ ap (λ u. found (has allowed bit) u (allows applies bit rest)) (ap (λ m. has m bit) none ∙ has-zero bit)
      ∙ or-false (has allowed bit))

  -- one entry further down the list
  pub IsFound-step : (i : ℕ) (ace : Nfsace4) (allowed undecided allowed' undecided' : ℕ) → i < length whole → ace ≡ get_or whole i ace
      → (IsFound applies whole (ace ∷ drop (i + 1) whole) allowed undecided → IsFound applies whole (drop (i + 1) whole) allowed' undecided')
      → IsFound applies whole (drop i whole) allowed undecided → IsFound applies whole (drop (i + 1) whole) allowed' undecided'
  IsFound-step i ace allowed undecided allowed' undecided' inside here step so_far =
      let split : drop i whole ≡ ace ∷ drop (i + 1) whole = drop-here whole i ace inside here in
      step (subst (λ xs. IsFound applies whole xs allowed undecided) split so_far)
