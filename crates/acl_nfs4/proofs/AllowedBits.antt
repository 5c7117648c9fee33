-- Which of some bits a list allows, as a loop over its entries finds them.
use Rattle.std.proofs.Common.{◌≡◌, ◌≢◌, ◌↔◌, ◌+◌, ◌<◌, ℕ, Bool, true, false, not, ◌&&◌, ◌||◌, refl, sym, ap, ap₂, subst, ◌∙◌, List, ◌∷◌, Option, Some, None, length, drop, get_or, MatchOption}
use Rattle.std.proofs.lemmas.Bool.{true≢false}
use Rattle.std.proofs.Math.Bool.{or-false}
use Rattle.acl_names.specs.Bits.{has, without, ◌∩◌, ◌∪◌}
use Rattle.acl_names.proofs.BitSets.{has-or, has-without, has-zero, same_bits, no_bits}
use Rattle.acl_nfs4.specs.Ace.{Nfsace4, decides, is_allow}
use Rattle.acl_names.specs.Asker.{identity_of}
use Rattle.acl_nfs4.specs.Comparison.{Decider, DecideAlike, IsDifference}
use Rattle.acl_nfs4.specs.Evaluation.{allows}
use Rattle.acl_nfs4.specs.Mask.{mask_bits}
use Rattle.acl_nfs4.specs.declared.comparison.Difference.{Difference}
use Rattle.acl_nfs4.specs.declared.who.Who.{Who}
use Rattle.acl_nfs4.proofs.EvaluationLoop.{found, found-allow, found-deny, allows-skip}
use Rattle.acl_nfs4.proofs.ListLemmas.{drop-here}
use Rattle.acl_names.proofs.AnyLemmas.{only_one}

-- those of the bits that the list allows
abbrev pub AreAllowed : (Who → Bool) → List Nfsace4 → ℕ → ℕ → Type 0
AreAllowed applies aces bits allowed = (bit : ℕ) → has allowed bit ≡ (has bits bit && allows applies bit aces)

-- the same on the way: those found, and those still open that the rest allows
abbrev pub AreFound : (Who → Bool) → List Nfsace4 → ℕ → List Nfsace4 → ℕ → ℕ → Type 0
AreFound applies whole bits rest allowed undecided =
    (bit : ℕ) → (has bits bit && allows applies bit whole) ≡ found (has allowed bit) (has undecided bit) (allows applies bit rest)

module _ (applies : Who → Bool) (whole : List Nfsace4) (bits : ℕ) where
  pub AreFound-all : AreFound applies whole bits whole 0 bits
  AreFound-all bit = sym (ap (λ a. found a (has bits bit) (allows applies bit whole)) (has-zero bit))

  pub AreFound-skip : (ace : Nfsace4) (rest : List Nfsace4) (allowed undecided : ℕ) → (decides ace && applies ace.who) ≡ false
      → AreFound applies whole bits (ace ∷ rest) allowed undecided → AreFound applies whole bits rest allowed undecided
  AreFound-skip ace rest allowed undecided idle so_far bit =
      so_far bit ∙ ap (found (has allowed bit) (has undecided bit)) (allows-skip applies ace rest idle bit)

  pub AreFound-allow : (ace : Nfsace4) (rest : List Nfsace4) (allowed undecided : ℕ) → (decides ace && applies ace.who) ≡ true → is_allow ace.kind ≡ true
      → AreFound applies whole bits (ace ∷ rest) allowed undecided
      → AreFound applies whole bits rest (allowed ∪ undecided ∩ ace.mask) (without undecided ace.mask)
  AreFound-allow ace rest allowed undecided concerned allow so_far bit = so_far bit ∙ found-allow applies ace rest allowed undecided bit concerned allow

  pub AreFound-deny : (ace : Nfsace4) (rest : List Nfsace4) (allowed undecided : ℕ) → (decides ace && applies ace.who) ≡ true → is_allow ace.kind ≡ false
      → AreFound applies whole bits (ace ∷ rest) allowed undecided → AreFound applies whole bits rest allowed (without undecided ace.mask)
  AreFound-deny ace rest allowed undecided concerned deny so_far bit = so_far bit ∙ found-deny applies ace rest allowed undecided bit concerned deny

  -- if no bit is open, all are found, and so they are at the end of the list
  pub AreFound-none : (rest : List Nfsace4) (allowed undecided : ℕ) → undecided ≡ 0 → AreFound applies whole bits rest allowed undecided
      → AreAllowed applies whole bits allowed
  AreFound-none rest allowed undecided none so_far bit =
      sym (so_far bit
      ∙ ap (λ u. found (has allowed bit) u (allows applies bit rest)) (ap (λ m. has m bit) none ∙ has-zero bit)
      ∙ or-false (has allowed bit))

  -- one entry further down the list
  pub AreFound-step : (i : ℕ) (ace : Nfsace4) (allowed undecided allowed' undecided' : ℕ) → i < length whole → ace ≡ get_or whole i ace
      → (AreFound applies whole bits (ace ∷ drop (i + 1) whole) allowed undecided
      → AreFound applies whole bits (drop (i + 1) whole) allowed' undecided')
      → AreFound applies whole bits (drop i whole) allowed undecided → AreFound applies whole bits (drop (i + 1) whole) allowed' undecided'
  AreFound-step i ace allowed undecided allowed' undecided' inside here step so_far =
      let split : drop i whole ≡ ace ∷ drop (i + 1) whole = drop-here whole i ace inside here in
      step (subst (λ xs. AreFound applies whole bits xs allowed undecided) split so_far)

-- ---- two lists

module _ (applies other_applies : Who → Bool) (first second : List Nfsace4) (bits before after : ℕ)
    (are_before : AreAllowed applies first bits before) (are_after : AreAllowed other_applies second bits after) where
  pub are_lost : (bit : ℕ) → has (without before after) bit ≡ (has bits bit && (allows applies bit first && not (allows other_applies bit second)))
  are_lost bit =
      has-without before after bit
      ∙ ap₂ (λ x y. x && not y) (are_before bit) (are_after bit)
      ∙ only_one (has bits bit) (allows applies bit first) (allows other_applies bit second)

  pub are_gained : (bit : ℕ) → has (without after before) bit ≡ (has bits bit && (allows other_applies bit second && not (allows applies bit first)))
  are_gained bit =
      has-without after before bit
      ∙ ap₂ (λ x y. x && not y) (are_after bit) (are_before bit)
      ∙ only_one (has bits bit) (allows other_applies bit second) (allows applies bit first)

  -- lists that allow the same of them decide each of them alike
  pub decided_alike : before ≡ after → (bit : ℕ) → has bits bit ≡ true → allows applies bit first ≡ allows other_applies bit second
  decided_alike same bit asked =
      sym (ap (λ b. b && allows applies bit first) asked)
      ∙ sym (are_before bit)
      ∙ ap (λ m. has m bit) same
      ∙ are_after bit
      ∙ ap (λ b. b && allows other_applies bit second) asked

-- sets that differ have something that the other lacks
pub some_only : (a b : ℕ) → a ≢ b → (without a b ∪ without b a) ≢ 0
some_only a b apart none = apart (same_bits a b (λ k. same (has a k) (has b k) (only k)))
  where
    only : (k : ℕ) → ((has a k && not (has b k)) || (has b k && not (has a k))) ≡ false
    only k =
        sym (ap₂ (λ x y. x || y) (has-without a b k) (has-without b a k))
        ∙ sym (has-or (without a b) (without b a) k)
        ∙ ap (λ m. has m k) none
        ∙ has-zero k

    same : (x y : Bool) → ((x && not y) || (y && not x)) ≡ false → x ≡ y
    same true true e = refl
    same false false e = refl
    same true false e = absurd (true≢false e)
    same false true e = absurd (true≢false e)

-- ---- what a search for a difference reports

pub match_then : {X : Type 0} (r : Option X) (A B : Type 0) (Q : X → Type 0) → MatchOption r A Q → (A → B) → MatchOption r B Q
match_then None A B Q is then = then is
match_then (Some x) A B Q is then = is

-- there is none exactly if none was to be found
pub none_exactly : {X : Type 0} (r : Option X) (A B : Type 0) (Q : X → Type 0) → MatchOption r A Q → (A → B) → ((x : X) → Q x → B → ⊥) → (r ≡ None) ↔ B
none_exactly None A B Q is then contrary = (λ e. then is, λ b. refl)
none_exactly (Some x) A B Q is then contrary = (λ e. absurd cc, λ b. absurd (contrary x is b))

-- if there is a difference, not all is decided alike
pub difference_reports : (before after : Decider) (bits : ℕ) (difference : Difference)
    → IsDifference before after bits difference → DecideAlike before after bits → ⊥
difference_reports before after bits difference is alike =
    is.some
    (ap₂ (λ a b. a ∪ b)
    (no_bits (mask_bits difference.lost) (λ bit. is.lost bit ∙ none (has bits bit) _ _ (alike (identity_of difference.asker) bit)))
    (no_bits (mask_bits difference.gained) (λ bit. is.gained bit ∙ none (has bits bit) _ _ (λ asked. sym (alike (identity_of difference.asker) bit asked)))))
  where
    none : (b x y : Bool) → (b ≡ true → x ≡ y) → (b && (x && not y)) ≡ false
    none false x y same = refl
    none true x true same = ap (λ v. v && false) (same refl)
    none true x false same = ap (λ v. v && true) (same refl)
