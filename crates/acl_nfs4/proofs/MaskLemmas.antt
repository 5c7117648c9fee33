-- Whether a list grants a mask, by the test of its bits.
use Rattle.std.proofs.Common.{◌≡◌, ℕ, zero, suc, ◌+◌, ◌^◌, ◌<◌, ◌≤◌, Bool, true, false, cond, ◌↔◌, refl, sym, ap, subst, ◌∙◌, List, ◌∷◌, arith, inl, inr, IsTrue}
use Rattle.std.specs.List.{filter, list_all, range_with_len}
use Rattle.std.proofs.lemmas.Bool.{true≢false, cases_lt, and_parts, and_from}
use Rattle.acl_names.specs.Bits.{has}
use Rattle.acl_names.specs.Requester.{Identity}
use Rattle.acl_names.proofs.BitSets.{has-above}
use Rattle.acl_nfs4.specs.Ace.{Nfsace4}
use Rattle.acl_nfs4.specs.Evaluation.{allows, grants4, Grants, places_of}
use Rattle.acl_nfs4.specs.MaskLaws.{MasksAreDecided}
use Rattle.acl_nfs4.specs.Who.{matches}

module _ (set : ℕ) (test : ℕ → Bool) where
  -- the places of the bits of the set among n from a on
  abbrev pub places : ℕ → ℕ → List ℕ
  places a n = filter (has set) (range_with_len a n)

  pub passes : (a n : ℕ) → ((bit : ℕ) → has set bit ≡ true → test bit ≡ true) → list_all test (places a n) ≡ true
  passes a zero each = refl
  passes a (suc n) each = by (has set a) refl (passes (a + 1) n each)
    where
      by : (b : Bool) → has set a ≡ b → list_all test (places (a + 1) n) ≡ true
          → list_all test (cond b (a ∷ places (a + 1) n) (places (a + 1) n)) ≡ true
      by true e rest = and_from _ _ (each a e) rest
      by false e rest = rest

  pub passed : (a n : ℕ) → list_all test (places a n) ≡ true → (bit : ℕ) → a ≤ bit → bit < a + n → has set bit ≡ true → test bit ≡ true
  passed a zero all bit above below there = absurd (omega arith)
  passed a (suc n) all bit above below there = by (has set a) refl all (λ rest. passed (a + 1) n rest bit)
    where
      further : (list_all test (places (a + 1) n) ≡ true → a + 1 ≤ bit → bit < a + 1 + n → has set bit ≡ true → test bit ≡ true)
          → list_all test (places (a + 1) n) ≡ true → (a ≡ bit → test bit ≡ true) → test bit ≡ true
      further later rest here = elim (cases_lt a bit) [ inl less ↦ later rest (omega (arith, less)) (omega (arith, below)) there | inr not_less ↦ here (omega (arith, above, not_less)) ]

      by : (b : Bool) → has set a ≡ b → list_all test (cond b (a ∷ places (a + 1) n) (places (a + 1) n)) ≡ true
          → (list_all test (places (a + 1) n) ≡ true → a + 1 ≤ bit → bit < a + 1 + n → has set bit ≡ true → test bit ≡ true)
          → test bit ≡ true
      by true e held later =
          let parts = and_parts (test a) (list_all test (places (a + 1) n)) held in
          further later parts.1 (λ same. subst (λ k. test k ≡ true) same parts.0)
      by false e held later = further later held (λ same. absurd (true≢false (sym there ∙ sym (ap (has set) same) ∙ e)))

-- a bit of a number of 32 bits is one of 32
pub within : (mask bit : ℕ) → mask < 2 ^ 32 → has mask bit ≡ true → bit < 32
within mask bit small there = elim (cases_lt bit 32) [ inl below ↦ below | inr above ↦ absurd (true≢false (sym there ∙ has-above 32 mask bit small (omega (arith, above)))) ]

pub masks_are_decided : MasksAreDecided
unfolding places_of
masks_are_decided acl owner group requester mask small =
    let test : ℕ → Bool = λ bit. allows (matches owner group requester) bit acl in (
      λ all bit there. passed mask test 0 32 all bit (omega arith) (within mask bit small there) there,
      passes mask test 0 32,
    )

same_truth : (a b : Bool) → (IsTrue a ↔ IsTrue b) → a ≡ b
same_truth true true both = refl
same_truth true false both = absurd (true≢false (sym (both.0 refl)))
same_truth false true both = absurd (true≢false (sym (both.1 refl)))
same_truth false false both = refl

-- what says that a list grants a mask is the test
pub decided : (says : Bool) (acl : List Nfsace4) (owner group : ℕ) (requester : Identity) (mask : ℕ) → mask < 2 ^ 32
    → (IsTrue says ↔ Grants (matches owner group requester) acl mask) → says ≡ grants4 acl owner group requester mask
decided says acl owner group requester mask small both =
    let test = masks_are_decided acl owner group requester mask small in
    same_truth says (grants4 acl owner group requester mask) (λ s. test.1 (both.0 s), λ t. both.1 (test.0 t))
