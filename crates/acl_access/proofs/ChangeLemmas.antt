-- What of bits is lost and gained, by the bits that were allowed and are.
use Rattle.std.proofs.Common.{◌≡◌, ◌⊎◌, ◌∙◌, ℕ, Bool, true, false, cond, not, ◌&&◌, ◌||◌, refl, sym, ap, ap₂, inl, inr, List}
use Rattle.acl_names.specs.Bits.{has, without, ◌∩◌, ◌∪◌}
use Rattle.acl_names.specs.Requester.{Identity}
use Rattle.acl_names.proofs.BitSets.{has-and, has-or, has-without}
use Rattle.acl_names.proofs.AnyLemmas.{and_same, only_one}
use Rattle.acl_nfs4.specs.Comparison.{Decider}
use Rattle.acl_nfs4.specs.Mask.{mask_of, mode_bits}
use Rattle.acl_posix.specs.Access.{grants}
use Rattle.acl_posix.specs.Entry.{EntryValue}
use Rattle.acl_nfs4.proofs.MaskOfModes.{each_mode_bit}
use Rattle.acl_bridge.specs.Comparison.{granted_by, permission_bits}
use Rattle.acl_access.specs.Steps.{granted_alone}

-- ---- the bits of a file mode

-- a bit that stands for one permission is one of them
of_both : (bits bit : ℕ) → (bits ≡ mode_bits) ⊎ (bits ≡ permission_bits) → has bits bit ≡ true → has mode_bits bit ≡ true
of_both bits bit (inl is) there = sym (ap (λ b. has b bit) is) ∙ there
of_both bits bit (inr is) there = has-or permission_bits 4 bit ∙ ap (λ b. b || has 4 bit) (sym (ap (λ b. has b bit) is) ∙ there)

-- the letters that are granted alone, by whether each is
abbrev letters : Bool → Bool → Bool → ℕ
letters r w x = cond r 4 0 ∪ cond w 2 0 ∪ cond x 1 0

mask_says : (r w x : Bool)
    → (has (mask_of (letters r w x)) 0 ≡ r) × (has (mask_of (letters r w x)) 1 ≡ w) × (has (mask_of (letters r w x)) 2 ≡ w) × (has (mask_of (letters r w x)) 5 ≡ x)
unfolding has mask_of
mask_says true true true = (refl, refl, refl, refl)
mask_says true true false = (refl, refl, refl, refl)
mask_says true false true = (refl, refl, refl, refl)
mask_says true false false = (refl, refl, refl, refl)
mask_says false true true = (refl, refl, refl, refl)
mask_says false true false = (refl, refl, refl, refl)
mask_says false false true = (refl, refl, refl, refl)
mask_says false false false = (refl, refl, refl, refl)

-- of a POSIX list, those of the bits that the letters stand for
pub allowed_alone_are : (acl : List EntryValue) (owner group : ℕ) (requester : Identity) (bits : ℕ) → (bits ≡ mode_bits) ⊎ (bits ≡ permission_bits)
    → (bit : ℕ) → has (bits ∩ mask_of (granted_alone acl owner group requester)) bit ≡ (has bits bit && granted_by acl owner group requester bit)
allowed_alone_are acl owner group requester bits which bit =
    let says = mask_says (grants acl owner group requester 4) (grants acl owner group requester 2) (grants acl owner group requester 1) in
    has-and bits (mask_of (granted_alone acl owner group requester)) bit
    ∙ and_same (has bits bit) (has (mask_of (granted_alone acl owner group requester)) bit) (granted_by acl owner group requester bit)
    (λ there. each_mode_bit (λ k. has (mask_of (granted_alone acl owner group requester)) k ≡ granted_by acl owner group requester k)
    says.0 says.1 says.2 says.3 bit (of_both bits bit which there))

-- ---- what is lost and gained

module _ (before after : Decider) (bits : ℕ) (requester : Identity) (was is : ℕ)
    (are_before : (bit : ℕ) → has was bit ≡ (has bits bit && before requester bit)) (are_after : (bit : ℕ) → has is bit ≡ (has bits bit && after requester bit)) where
  pub lost-bit : (bit : ℕ) → has (without was is) bit ≡ (has bits bit && (before requester bit && not (after requester bit)))
  lost-bit bit = has-without was is bit ∙ ap₂ (λ x y. x && not y) (are_before bit) (are_after bit) ∙ only_one (has bits bit) (before requester bit) (after requester bit)

  pub gained-bit : (bit : ℕ) → has (without is was) bit ≡ (has bits bit && (after requester bit && not (before requester bit)))
  gained-bit bit = has-without is was bit ∙ ap₂ (λ x y. x && not y) (are_after bit) (are_before bit) ∙ only_one (has bits bit) (after requester bit) (before requester bit)
