-- The numbers from which NFSv4 entries are read are those of the entries, less what plays no part.
use Rattle.std.proofs.Common.{◌≡◌, ◌∙◌, ℕ, ◌≤◌, ◌^◌, Bool, true, false, cond, leb, eqb, arith, List, [], ◌∷◌, map, length, Ok, Err, refl, sym, ap, ap₂, subst, inl, inr}
use Rattle.std.proofs.lemmas.Bool.{cases_Bool, cases_eq, eqb-true, leb-true, ne_eqb}
use Rattle.std.proofs.lemmas.Nat.{and_mask}
use Rattle.std.proofs.Math.Nat.{mod-eq_of_lt}
use Rattle.std.specs.Int.Bits.{or_zero_r}
use Rattle.acl_names.specs.Bits.{has, without, ◌∩◌, ◌∪◌}
use Rattle.acl_names.specs.declared.limits.TheConstants.{MAX_ID}
use Rattle.acl_names.proofs.StepLemmas.{bind_ok}
use Rattle.acl_nfs4.specs.Ace.{IsAce, Nfsace4, ace_of, flags_for, is_idle}
use Rattle.acl_nfs4.specs.Flags.{all_flags, identifier_group}
use Rattle.acl_nfs4.specs.Mask.{all_masks}
use Rattle.acl_nfs4.specs.Who.{flags_of_who, id_of, is_named_group}
use Rattle.acl_nfs4.specs.declared.ace.AceType.{AceType}
use Rattle.acl_nfs4.specs.declared.ace.AceType.TheVariants.{Allow, Deny, Audit, Alarm}
use Rattle.acl_nfs4.specs.declared.limits.TheConstants.{MAX_ACES}
use Rattle.acl_nfs4.specs.declared.who.Who.{Who}
use Rattle.acl_nfs4.specs.declared.who.Who.TheVariants.{Owner, Group, Everyone, User, NamedGroup}
use Rattle.acl_nfs4.proofs.RoundTrip.{ace_of-same}
use Rattle.acl_wire.specs.RawAces.{ace_of_raw, aces_of, effective, flags_fault, kind_of, mask_fault, seen, who_of}
use Rattle.acl_wire.specs.RawAcesWriting.{kind_number, raw_of, raws_of, special_number}
use Rattle.acl_wire.specs.Written.{RawsWereWritten, tidied_raw}
use Rattle.acl_wire.specs.declared.fault.Nfs4Fault.{Nfs4Fault}
use Rattle.acl_wire.specs.declared.fault.Nfs4Fault.TheVariants as faults
use Rattle.acl_wire.specs.declared.raw_ace.Purpose.{Purpose}
use Rattle.acl_wire.specs.declared.raw_ace.RawAce.{RawAce}
use Rattle.acl_wire.proofs.StepsBack.{answer, ok_same, test_held}

kind_read : (number : ℕ) (kind : AceType) → kind_of number ≡ Ok kind → kind_number kind ≡ number
kind_read number kind is = elim (cases_eq number 0) [
  | inl here ↦ at_number 0 here (λ e. known 0 Allow refl e)
  | inr not0 ↦ elim (cases_eq number 1) [
    | inl here ↦ at_number 1 here (λ e. known 1 Deny refl e)
    | inr not1 ↦ elim (cases_eq number 2) [
      | inl here ↦ at_number 2 here (λ e. known 2 Audit refl e)
      | inr not2 ↦ elim (cases_eq number 3) [
        | inl here ↦ at_number 3 here (λ e. known 3 Alarm refl e)
        | inr not3 ↦ let wrong = rw (ne_eqb number 0 not0, ne_eqb number 1 not1, ne_eqb number 2 not2, ne_eqb number 3 not3) at is in cc
      ]
    ]
  ]
]
  where
    at_number : (n : ℕ) → number ≡ n → (kind_of n ≡ Ok kind → kind_number kind ≡ n) → kind_number kind ≡ number
    at_number n here says = subst (λ (m : ℕ). kind_number kind ≡ m) (sym here) (says (subst (λ (m : ℕ). kind_of m ≡ Ok kind) here is))

    known : (n : ℕ) (its : AceType) → kind_number its ≡ n → answer Nfs4Fault its ≡ Ok kind → kind_number kind ≡ n
    known n its says e = subst (λ (k : AceType). kind_number k ≡ n) (ok_same its kind e) says

-- what a who says of the numbers from which it was read
pub record Says (special : ℕ) (is_group : Bool) (id : ℕ) (who : Who) : Type 0 where
  pub special_is : special_number who ≡ special
  pub named : special ≡ 0 → (is_named_group who ≡ is_group) × (id_of who ≡ id)
  pub unnamed : (special ≡ 0 → ⊥) → (flags_of_who who ≡ 0) × (id_of who ≡ 0)

who_read : (special : ℕ) (is_group : Bool) (id : ℕ) (who : Who) → who_of special is_group id ≡ Ok who → Says special is_group id who
who_read special is_group id who is = elim (cases_eq special 0) [
  | inl here ↦ at_number 0 here (named is_group)
  | inr not0 ↦ elim (cases_eq special 1) [
    | inl here ↦ at_number 1 here (λ e. known 1 Owner (record { special_is = refl; named = λ zero. cc; unnamed = λ not. (refl, refl) }) e)
    | inr not1 ↦ elim (cases_eq special 2) [
      | inl here ↦ at_number 2 here (λ e. known 2 Group (record { special_is = refl; named = λ zero. cc; unnamed = λ not. (refl, refl) }) e)
      | inr not2 ↦ elim (cases_eq special 3) [
        | inl here ↦ at_number 3 here (λ e. known 3 Everyone (record { special_is = refl; named = λ zero. cc; unnamed = λ not. (refl, refl) }) e)
        | inr not3 ↦ let wrong = rw (ne_eqb special 0 not0, ne_eqb special 1 not1, ne_eqb special 2 not2, ne_eqb special 3 not3) at is in cc
      ]
    ]
  ]
]
  where
    at_number : (n : ℕ) → special ≡ n → (who_of n is_group id ≡ Ok who → Says n is_group id who) → Says special is_group id who
    at_number n here says = subst (λ (m : ℕ). Says m is_group id who) (sym here) (says (subst (λ (m : ℕ). who_of m is_group id ≡ Ok who) here is))

    known : (n : ℕ) (its : Who) → Says n is_group id its → answer Nfs4Fault its ≡ Ok who → Says n is_group id who
    known n its says e = subst (λ (w : Who). Says n is_group id w) (ok_same its who e) says

    named : (group : Bool) → who_of 0 group id ≡ Ok who → Says 0 group id who
    named true e =
        let held = test_held (leb id MAX_ID) (NamedGroup id) who faults.Id e in
        subst (λ (w : Who). Says 0 true id w) held.1 (record { special_is = refl; named = λ zero. (refl, refl); unnamed = λ not. absurd (not refl) })
    named false e =
        let held = test_held (leb id MAX_ID) (User id) who faults.Id e in
        subst (λ (w : Who). Says 0 false id w) held.1 (record { special_is = refl; named = λ zero. (refl, refl); unnamed = λ not. absurd (not refl) })

-- flags without further bits
small_flags : (flags : ℕ) → flags ≤ all_flags → flags ∩ all_flags ≡ flags
small_flags flags small = and_mask flags 7 ∙ mod-eq_of_lt {n = flags} {m = 2 ^ 7} (omega (arith, small))

ace_written : (kind : AceType) (who : Who) (raw : RawAce) → raw.flags ∩ all_flags ≡ raw.flags → raw.mask ∩ all_masks ≡ raw.mask → kind_number kind ≡ raw.kind
    → Says raw.special (has raw.flags identifier_group) raw.id who → raw_of (ace_of kind raw.flags who raw.mask) ≡ tidied_raw raw
ace_written kind who raw flags mask kind_is says = elim (cases_eq raw.special 0) [
  | inl zero ↦
      let named = says.named zero in
      let plain : Nfsace4 = record { kind = kind; flags = raw.flags; who = who; mask = raw.mask } in
      let is : IsAce plain = record { known_flags = flags; known_mask = mask; group_flag = sym named.0 } in
      let all : raw_of plain ≡ raw = λ i. record { kind = kind_is i; flags = raw.flags; mask = raw.mask; special = says.special_is i; id = named.1 i } in
      let test : eqb raw.special 0 ≡ true = ap (λ (n : ℕ). eqb n 0) zero in
      ap raw_of (ace_of-same plain is) ∙ all ∙ sym (rw test refl)
  | inr other ↦
      let unnamed = says.unnamed other in
      let flags_are : flags_for who (raw.flags ∩ all_flags) ≡ without raw.flags (2 ^ identifier_group) =
      ap₂ (λ (a b : ℕ). without a (2 ^ identifier_group) ∪ b) flags unnamed.0 ∙ or_zero_r (without raw.flags (2 ^ identifier_group)) in
      let all : raw_of (ace_of kind raw.flags who raw.mask) ≡ record { kind = raw.kind; flags = without raw.flags (2 ^ identifier_group); mask = raw.mask; special = raw.special; id = 0 } =
      λ i. record { kind = kind_is i; flags = flags_are i; mask = mask i; special = says.special_is i; id = unnamed.1 i } in
      all ∙ sym (rw (ne_eqb raw.special 0 other) refl)
]

pub raw_written : (raw : RawAce) (ace : Nfsace4) → ace_of_raw raw ≡ Ok ace → raw_of ace ≡ tidied_raw raw
unfolding ace_of_raw
raw_written raw ace is =
    let kind = bind_ok (kind_of raw.kind) _ ace is in
    let flags = bind_ok _ _ ace kind.2 in
    let small = test_held (leb raw.flags all_flags) raw.flags flags.0 (flags_fault raw.flags) flags.1 in
    let mask = bind_ok _ _ ace flags.2 in
    let known = test_held (eqb (raw.mask ∩ all_masks) raw.mask) raw.mask mask.0 (mask_fault raw.mask) mask.1 in
    let who = bind_ok (who_of raw.special (has flags.0 identifier_group) raw.id) _ ace mask.2 in
    let says : Says raw.special (has raw.flags identifier_group) raw.id who.0 =
    who_read raw.special (has raw.flags identifier_group) raw.id who.0 (ap (λ (f : ℕ). who_of raw.special (has f identifier_group) raw.id) small.1 ∙ who.1) in
    let made : ace_of kind.0 raw.flags who.0 raw.mask ≡ ace =
    ap₂ (λ (f m : ℕ). ace_of kind.0 f who.0 m) small.1 known.1 ∙ ok_same (ace_of kind.0 flags.0 who.0 mask.0) ace who.2 in
    ap raw_of (sym made)
    ∙ ace_written kind.0 who.0 raw (small_flags raw.flags (leb-true _ _ small.0)) (eqb-true _ _ known.0) (kind_read raw.kind kind.0 kind.1) says

-- an entry that has an effect is that entry
pub has_effect : (ace first : Nfsace4) → effective ace ≡ Ok first → ace ≡ first
has_effect ace first e = elim (cases_Bool (is_idle ace)) [
  | inl idle ↦ let wrong = rw idle at e in cc
  | inr busy ↦ ok_same {F = Nfs4Fault} ace first (rw busy at e)
]

aces_written : (purpose : Purpose) (raws : List RawAce) (aces : List Nfsace4) → aces_of purpose raws ≡ Ok aces → raws_of aces ≡ map (λ raw. tidied_raw (seen purpose raw)) raws
unfolding aces_of
aces_written purpose [] aces is = ap raws_of (sym (ok_same {F = Nfs4Fault} [] aces is))
aces_written purpose (raw ∷ raws) aces is =
    let ace = bind_ok (ace_of_raw (seen purpose raw)) _ aces is in
    let first = bind_ok (effective ace.0) _ aces ace.2 in
    let others = bind_ok (aces_of purpose raws) _ aces first.2 in
    let same : ace.0 ≡ first.0 = has_effect ace.0 first.0 first.1 in
    let made : first.0 ∷ others.0 ≡ aces = ok_same (first.0 ∷ others.0) aces others.2 in
    ap raws_of (sym made)
    ∙ ap₂ (λ (x : RawAce) (xs : List RawAce). x ∷ xs) (ap raw_of (sym same) ∙ raw_written (seen purpose raw) ace.0 ace.1) (aces_written purpose raws others.0 others.1)

pub raws_written : RawsWereWritten
raws_written purpose raws aces is = aces_written purpose raws aces (test_passed (leb (length raws) MAX_ACES) is)
  where
    test_passed : (few : Bool) → cond few (aces_of purpose raws) (Err faults.TooMany) ≡ Ok aces → aces_of purpose raws ≡ Ok aces
    test_passed true e = e
    test_passed false e = cc
