-- A mask with the bits that a list grants is the mask that is granted.
use Rattle.std.proofs.Common.{◌≡◌, ◌≢◌, ◌∙◌, ◌&&◌, ◌||◌, ◌<◌, ◌≤◌, ◌^◌, ◌==◌, ℕ, zero, suc, Bool, true, false, cond, ap, arith, inl, inr, refl, sym}
use Rattle.std.proofs.lemmas.Bool.{cases_lt}
use Rattle.std.proofs.lemmas.Nat.Bits.{bit_at-pow_other, bit_at-pow_same}
use Rattle.std.proofs.Math.Bool.{or-false}
use Rattle.acl_names.specs.Bits.{has, ◌∩◌, ◌∪◌}
use Rattle.acl_names.specs.Requester.{Identity}
use Rattle.acl_names.proofs.BitSets.{has-above, has-or, has-zero, same_bits}
use Rattle.acl_access.specs.Letters.{BitsAreGranted, LettersStandForBits, bits_where, decided_bits, effective, granted_mask, grants_bit}
use Rattle.acl_access.specs.Steps.{granted_alone}
use Rattle.acl_access.proofs.ChangeLemmas.{allowed_alone_are}
use Rattle.acl_nfs4.specs.Mask.{mask_of, mode_bits}
use Rattle.acl_posix.specs.Access.{grants}
use Rattle.acl_bridge.specs.Files.{File, decider_at, decider_of, file_with}
use Rattle.acl_bridge.specs.declared.any_acl.AnyAcl.{AnyAcl}
use Rattle.acl_bridge.specs.declared.any_acl.AnyAcl.TheVariants.{Posix, Nfs4}

-- a bit that is put in or isn't
own : (is : Bool) (bit : ℕ) → has (cond is (2 ^ bit) 0) bit ≡ is
unfolding has
own true bit = ap (λ x. x == 1) (bit_at-pow_same bit)
own false bit = has-zero bit

others : (is : Bool) (bit other : ℕ) → other ≢ bit → has (cond is (2 ^ bit) 0) other ≡ false
unfolding has
others true bit other apart = ap (λ x. x == 1) (bit_at-pow_other bit other apart)
others false bit other apart = has-zero other

-- of those above none is there
above : (test : ℕ → Bool) (count bit : ℕ) → count ≤ bit → has (bits_where test count) bit ≡ false
unfolding bits_where
above test zero bit beyond = has-zero bit
above test (suc count) bit beyond =
    has-or (bits_where test count) (cond (test count) (2 ^ count) 0) bit
    ∙ ap (λ b. b || has (cond (test count) (2 ^ count) 0) bit) (above test count bit (omega (arith, beyond)))
    ∙ others (test count) count bit (λ same. omega (arith, beyond, same))

-- of those below those that pass
below : (test : ℕ → Bool) (count bit : ℕ) → bit < count → has (bits_where test count) bit ≡ test bit
unfolding bits_where
below test zero bit within = absurd (omega (arith, within))
below test (suc count) bit within =
    has-or (bits_where test count) (cond (test count) (2 ^ count) 0) bit
    ∙ elim (cases_lt bit count) as (λ c. (has (bits_where test count) bit || has (cond (test count) (2 ^ count) 0) bit) ≡ test bit) [
      | inl less ↦ ap (λ b. b || has (cond (test count) (2 ^ count) 0) bit) (below test count bit less)
          ∙ ap (λ b. test bit || b) (others (test count) count bit (λ same. omega (arith, less, same))) ∙ or-false (test bit)
      | inr not_less ↦
          let same : bit ≡ count = omega (arith, within, not_less) in
          ap (λ b. b || has (cond (test count) (2 ^ count) 0) bit) (above test count bit (omega (arith, not_less)))
          ∙ ap (λ other. has (cond (test count) (2 ^ count) 0) other) same ∙ own (test count) count ∙ ap test (sym same)
    ]

small : (list : AnyAcl) → decided_bits list < 2 ^ 32
small (Posix acl) = omega arith
small (Nfs4 acl) = omega arith

-- a bit is granted exactly if it is in the mask
pub bits_are_granted : BitsAreGranted
bits_are_granted file requester bit =
    let test : ℕ → Bool = grants_bit file requester in
    elim (cases_lt bit 32) as (λ c. has (granted_mask file requester) bit ≡ test bit) [
      | inl less ↦ below test 32 bit less
      | inr not_less ↦
          let beyond : 32 ≤ bit = omega (arith, not_less) in
          above test 32 bit beyond
          ∙ sym (ap (λ b. b && decider_of file requester bit) (has-above 32 (decided_bits file.list) bit (small file.list) beyond))
    ]

pub is_granted_mask : (file : File) (requester : Identity) (bits mask : ℕ) → bits ≡ decided_bits file.list
    → ((bit : ℕ) → has mask bit ≡ (has bits bit && decider_of file requester bit)) → mask ≡ granted_mask file requester
is_granted_mask file requester bits mask bits_are are =
    same_bits mask (granted_mask file requester)
    (λ bit. are bit ∙ ap (λ bits. has bits bit && decider_of file requester bit) bits_are ∙ sym (bits_are_granted file requester bit))

-- what letters stand for are bits of a file mode
within_mode : (r w x : Bool) → mode_bits ∩ mask_of (cond r 4 0 ∪ cond w 2 0 ∪ cond x 1 0) ≡ mask_of (cond r 4 0 ∪ cond w 2 0 ∪ cond x 1 0)
unfolding has mask_of
within_mode true true true = refl
within_mode true true false = refl
within_mode true false true = refl
within_mode true false false = refl
within_mode false true true = refl
within_mode false true false = refl
within_mode false false true = refl
within_mode false false false = refl

pub letters_stand_for_bits : LettersStandForBits
letters_stand_for_bits file requester acl is =
    let owner = file.owners.owner in
    let group = file.owners.group in
    let alone = granted_alone acl owner group requester in
    let same : effective file requester ≡ alone = ap (λ (list : AnyAcl). effective (file_with file.owners list) requester) is in
    let are : (bit : ℕ) → has (mode_bits ∩ mask_of alone) bit ≡ (has mode_bits bit && decider_of file requester bit) =
    λ bit. allowed_alone_are acl owner group requester mode_bits (inl refl) bit ∙ ap (λ (list : AnyAcl). has mode_bits bit && decider_at list file.owners requester bit) (sym is) in
    sym (is_granted_mask file requester mode_bits (mode_bits ∩ mask_of alone) (sym (ap decided_bits is)) are)
    ∙ within_mode (grants acl owner group requester 4) (grants acl owner group requester 2) (grants acl owner group requester 1)
    ∙ ap mask_of (sym same)
