-- Entries of numbers in XDR are read as these entries, with all bits that have a meaning.
use Rattle.std.proofs.Common.{◌≡◌, ◌∙◌, ℕ, ◌^◌, ◌<◌, ◌≤◌, ◌==◌, Bool, true, false, cond, not, ◌&&◌, leb, eqb, nat_lt, List, [], ◌∷◌, ◌++◌, length, map, Result, Ok, Err, refl, sym, ap, subst, arith, inl, inr}
use Rattle.std.specs.Int.{w32, to_be_bytes}
use Rattle.std.specs.List.{AllByRecursion}
use Rattle.std.proofs.lemmas.Bool.{cases_eq, leb-true, le-leb, ltb-true, ne_eqb, true≢false}
use Rattle.std.proofs.lemmas.List.Elements.{recursion_from_All}
use Rattle.std.proofs.lemmas.Nat.{and_le_r}
use Rattle.acl_names.specs.Bits.{has, without, ◌∩◌}
use Rattle.acl_names.specs.declared.limits.TheConstants.{MAX_ID}
use Rattle.acl_names.proofs.BitSets.{has-and, has-without, same_bits}
use Rattle.acl_names.proofs.StepLemmas.{bind_ok, if_then}
use Rattle.acl_nfs4.specs.Ace.{Nfsace4, ace_of}
use Rattle.acl_nfs4.specs.Flags.{all_flags, identifier_group}
use Rattle.acl_nfs4.specs.Mask.{all_masks}
use Rattle.acl_nfs4.specs.declared.ace.AceType.{AceType}
use Rattle.acl_nfs4.specs.Who.{HasId}
use Rattle.acl_nfs4.specs.declared.who.Who.{Who}
use Rattle.acl_nfs4.specs.declared.who.Who.TheVariants.{Owner, Group, Everyone, User, NamedGroup}
use Rattle.acl_wire.specs.Decision.{value_of}
use Rattle.acl_wire.specs.RawAces.{ace_of_raw, but_inherited, but_retention, flags_fault, kind_of, mask_fault, seen, who_of}
use Rattle.acl_wire.specs.RawAcesWriting.{raw_of}
use Rattle.acl_wire.specs.Written.{tidied_raw}
use Rattle.acl_wire.specs.WireLaws.{IsNumbers, KeptXdrIsReadAgain}
use Rattle.acl_wire.specs.Xdr.{number_at, raw_at}
use Rattle.acl_wire.specs.XdrRaws.{raws_at, xdr_raws_of}
use Rattle.acl_wire.specs.Kept.{kept_ace}
use Rattle.acl_wire.specs.XdrWriting.{ace_bytes, behind, raws_bytes, raws_xdr_of}
use Rattle.acl_wire.specs.declared.fault.Nfs4Fault.{Nfs4Fault}
use Rattle.acl_wire.specs.declared.fault.Nfs4Fault.TheVariants as faults
use Rattle.acl_wire.specs.declared.raw_ace.Purpose.TheVariants.{Decide}
use Rattle.acl_wire.specs.declared.raw_ace.RawAce.{RawAce}
use Rattle.acl_wire.proofs.RawsWritten.{raw_written}
use Rattle.acl_wire.proofs.StepsBack.{answer, ok_same, test_held}
use Rattle.acl_wire.proofs.XdrAgain.{entry_again, number_again}

-- what is written of an entry are its numbers, less what plays no part
pub kept_written : (raw : RawAce) (ace : Nfsace4) → value_of raw ≡ Ok ace → raw_of (kept_ace raw ace) ≡ tidied_raw raw
kept_written raw ace is = by (raw.special == 0) refl (raw_written (seen Decide raw) ace is)
  where
    by : (b : Bool) → (raw.special == 0) ≡ b → raw_of ace ≡ tidied_raw (seen Decide raw) → raw_of (kept_ace raw ace) ≡ tidied_raw raw
    by true zero said =
        let its : raw_of ace ≡ seen Decide raw = rw zero at said in
        rw zero (λ i. record { kind = (its i).kind; flags = raw.flags; mask = raw.mask; special = (its i).special; id = (its i).id })
    by false other said =
        let its : raw_of ace ≡ record { kind = raw.kind; flags = without (seen Decide raw).flags 64; mask = (seen Decide raw).mask; special = raw.special; id = 0 } = rw other at said in
        rw other (λ i. record { kind = (its i).kind; flags = without raw.flags 64; mask = raw.mask; special = (its i).special; id = (its i).id })

-- whom it says has an id
id_read : (special : ℕ) (is_group : Bool) (id : ℕ) (who : Who) → who_of special is_group id ≡ Ok who → HasId who
id_read special is_group id who is = elim (cases_eq special 0) [
  | inl here ↦ named is_group (subst (λ (n : ℕ). who_of n is_group id ≡ Ok who) here is)
  | inr not0 ↦ elim (cases_eq special 1) [
    | inl here ↦ known Owner (omega arith) (subst (λ (n : ℕ). who_of n is_group id ≡ Ok who) here is)
    | inr not1 ↦ elim (cases_eq special 2) [
      | inl here ↦ known Group (omega arith) (subst (λ (n : ℕ). who_of n is_group id ≡ Ok who) here is)
      | inr not2 ↦ elim (cases_eq special 3) [
        | inl here ↦ known Everyone (omega arith) (subst (λ (n : ℕ). who_of n is_group id ≡ Ok who) here is)
        | inr not3 ↦ let wrong = rw (ne_eqb special 0 not0, ne_eqb special 1 not1, ne_eqb special 2 not2, ne_eqb special 3 not3) at is in cc
      ]
    ]
  ]
]
  where
    known : (its : Who) → HasId its → answer Nfs4Fault its ≡ Ok who → HasId who
    known its has e = subst HasId (ok_same its who e) has

    named : (group : Bool) → who_of 0 group id ≡ Ok who → HasId who
    named true e = let held = if_then (leb id MAX_ID) faults.Id (NamedGroup id) who e in subst HasId held.1 (leb-true id MAX_ID held.0)
    named false e = let held = if_then (leb id MAX_ID) faults.Id (User id) who e in subst HasId held.1 (leb-true id MAX_ID held.0)

-- the numbers of an entry, less what plays no part, are an entry, and have nothing less
pub twice : (raw : RawAce) → tidied_raw (tidied_raw raw) ≡ tidied_raw raw
twice raw = by (raw.special == 0) refl
  where
    cleared : without (without raw.flags 64) 64 ≡ without raw.flags 64
    cleared = same_bits _ _ (λ k. has-without (without raw.flags 64) 64 k ∙ ap (λ b. b && not (has 64 k)) (has-without raw.flags 64 k) ∙ once (has raw.flags k) (has 64 k) ∙ sym (has-without raw.flags 64 k))
      where
        once : (f g : Bool) → ((f && not g) && not g) ≡ (f && not g)
        once true true = refl
        once true false = refl
        once false g = refl

    by : (b : Bool) → (raw.special == 0) ≡ b → tidied_raw (tidied_raw raw) ≡ tidied_raw raw
    by true zero = rw (zero, zero) refl
    by false other = rw (other, other) (λ i. record { kind = raw.kind; flags = cleared i; mask = raw.mask; special = raw.special; id = 0 })

-- a part of a set is no greater
part_le : (part set : ℕ) → ((k : ℕ) → has part k ≡ true → has set k ≡ true) → part ≤ set
part_le part set within =
    let same : part ∩ set ≡ part = same_bits (part ∩ set) part (λ k. has-and part set k ∙ both (has part k) (has set k) (within k)) in
    subst (λ (n : ℕ). n ≤ set) same (and_le_r part set)
  where
    both : (p s : Bool) → (p ≡ true → s ≡ true) → (p && s) ≡ p
    both true s in_set = in_set refl
    both false s in_set = refl

first_of_both : (a b : Bool) → (a && b) ≡ true → a ≡ true
first_of_both true b e = refl
first_of_both false b e = e

cleared_le : (flags : ℕ) → without flags 64 ≤ flags
cleared_le flags = part_le (without flags 64) flags (λ k there. first_of_both (has flags k) (not (has 64 k)) (sym (has-without flags 64 k) ∙ there))

cleared_seen_le : (flags : ℕ) → without flags 64 ∩ but_inherited ≤ flags ∩ but_inherited
cleared_seen_le flags = part_le (without flags 64 ∩ but_inherited) (flags ∩ but_inherited) (λ k there.
    has-and flags but_inherited k
    ∙ kept (has flags k) (has 64 k) (has but_inherited k) (ap (λ b. b && has but_inherited k) (sym (has-without flags 64 k)) ∙ sym (has-and (without flags 64) but_inherited k) ∙ there))
  where
    kept : (f g b : Bool) → ((f && not g) && b) ≡ true → (f && b) ≡ true
    kept true true b e = absurd (true≢false (sym e))
    kept true false b e = e
    kept false g b e = e

-- of whom nobody is named by id only the number counts
same_who_of : (special : ℕ) (is_group its_group : Bool) (id its : ℕ) (who : Who) → (special == 0) ≡ false → who_of special is_group id ≡ Ok who → who_of special its_group its ≡ Ok who
same_who_of special is_group its_group id its who other is =
    let known : who_of special is_group id ≡ who_of special its_group its = rw other refl in
    sym known ∙ is

tidy : (raw : RawAce) (ace : Nfsace4) (b : Bool) → (raw.special == 0) ≡ b → value_of raw ≡ Ok ace → (kind : AceType) → kind_of raw.kind ≡ Ok kind
    → leb (raw.flags ∩ but_inherited) all_flags ≡ true → eqb ((raw.mask ∩ but_retention) ∩ all_masks) (raw.mask ∩ but_retention) ≡ true
    → (who : Who) (is_group : Bool) → who_of raw.special is_group raw.id ≡ Ok who → (its : Nfsace4) × (value_of (tidied_raw raw) ≡ Ok its)
unfolding ace_of_raw
tidy raw ace true zero is kind kind_is small known who is_group who_is = (ace, rw zero is)
tidy raw ace false other is kind kind_is small known who is_group who_is =
    let flags : ℕ = without raw.flags 64 ∩ but_inherited in
    let still : leb flags all_flags ≡ true = le-leb _ _ (omega (arith, cleared_seen_le raw.flags, leb-true (raw.flags ∩ but_inherited) all_flags small)) in
    let its_who : who_of raw.special (has flags identifier_group) 0 ≡ Ok who = same_who_of raw.special is_group (has flags identifier_group) raw.id 0 who other who_is in
    (ace_of kind flags who (raw.mask ∩ but_retention), rw (other, kind_is, still, known, its_who) refl)

-- what the numbers of an entry that was read say
pub record Read (raw : RawAce) (ace : Nfsace4) : Type 0 where
  pub id : HasId ace.who
  pub its : Nfsace4
  pub tidied : value_of (tidied_raw raw) ≡ Ok its

pub is_read : (raw : RawAce) (ace : Nfsace4) → value_of raw ≡ Ok ace → Read raw ace
unfolding ace_of_raw
is_read raw ace is =
    let kind = bind_ok (kind_of raw.kind) _ ace is in
    let flags = bind_ok _ _ ace kind.2 in
    let small = test_held (leb (raw.flags ∩ but_inherited) all_flags) (raw.flags ∩ but_inherited) flags.0 (flags_fault (raw.flags ∩ but_inherited)) flags.1 in
    let mask = bind_ok _ _ ace flags.2 in
    let known = test_held (eqb ((raw.mask ∩ but_retention) ∩ all_masks) (raw.mask ∩ but_retention)) (raw.mask ∩ but_retention) mask.0 (mask_fault (raw.mask ∩ but_retention)) mask.1 in
    let who = bind_ok (who_of raw.special (has flags.0 identifier_group) raw.id) _ ace mask.2 in
    let made = ok_same (ace_of kind.0 flags.0 who.0 mask.0) ace who.2 in
    let tidied = tidy raw ace (raw.special == 0) refl is kind.0 kind.1 small.0 known.0 who.0 (has flags.0 identifier_group) who.1 in
    record {
      id = subst HasId (ap (λ (it : Nfsace4). it.who) made) (id_read raw.special (has flags.0 identifier_group) raw.id who.0 who.1);
      its = tidied.0;
      tidied = tidied.1;
    }

pub tidied_flags_le : (raw : RawAce) → (tidied_raw raw).flags ≤ raw.flags
tidied_flags_le raw = by (raw.special == 0) refl
  where
    by : (b : Bool) → (raw.special == 0) ≡ b → (tidied_raw raw).flags ≤ raw.flags
    by true zero = rw zero (omega arith)
    by false other = rw other (cleared_le raw.flags)

-- ---- lists

one_again : (raw : RawAce) (ace : Nfsace4) (rest : List ℕ) → raw.flags < 2 ^ 32 → raw.mask < 2 ^ 32 → value_of raw ≡ Ok ace → raw_at (ace_bytes (kept_ace raw ace) ++ rest) ≡ Ok (tidied_raw raw, rest)
one_again raw ace rest flags mask is =
    entry_again (kept_ace raw ace) rest (omega (arith, tidied_flags_le raw)) mask (is_read raw ace is).id
    ∙ ap (λ (read : RawAce). Ok (read, rest)) (kept_written raw ace is)

raws_again : (raws : List RawAce) (bytes : List ℕ) → AllByRecursion IsNumbers raws → raws_bytes raws ≡ Ok bytes → raws_at (length raws) bytes ≡ Ok (map tidied_raw raws, [])
unfolding raws_bytes raws_at
raws_again [] bytes are is = ap (λ (rest : List ℕ). Ok ([], rest)) (sym (ok_same [] bytes is))
raws_again (raw ∷ raws) bytes are is =
    let one = bind_ok (value_of raw) _ bytes is in
    let two = bind_ok (raws_bytes raws) _ bytes one.2 in
    let all : ace_bytes (kept_ace raw one.0) ++ two.0 ≡ bytes = ok_same (ace_bytes (kept_ace raw one.0) ++ two.0) bytes two.2 in
    let read : raw_at bytes ≡ Ok (tidied_raw raw, two.0) = ap raw_at (sym all) ∙ one_again raw one.0 two.0 are.0.flags are.0.mask one.1 in
    let tidied : value_of (tidied_raw raw) ≡ Ok (is_read raw one.0 one.1).its = (is_read raw one.0 one.1).tidied in
    rw (read, tidied, raws_again raws two.0 are.1 two.1) (ap (λ (first : RawAce). Ok (first ∷ map tidied_raw raws, [])) (twice raw))

pub kept_again : KeptXdrIsReadAgain
unfolding raws_xdr_of xdr_raws_of
kept_again raws bytes are is =
    let long = within (nat_lt (length raws) (2 ^ 32)) (behind (to_be_bytes w32 (length raws)) (raws_bytes raws)) is in
    let inner = bind_ok (raws_bytes raws) _ bytes long.1 in
    let all : to_be_bytes w32 (length raws) ++ inner.0 ≡ bytes = ok_same (to_be_bytes w32 (length raws) ++ inner.0) bytes inner.2 in
    let few : length raws < 2 ^ 32 = ltb-true (length raws) (2 ^ 32) long.0 in
    let number : number_at bytes ≡ Ok (length raws, inner.0) = ap number_at (sym all) ∙ number_again (length raws) inner.0 few in
    rw (number, raws_again raws inner.0 (recursion_from_All IsNumbers raws are) inner.1) refl
  where
    within : (b : Bool) (read : Result (List ℕ) Nfs4Fault) → cond b read (Err faults.TooMany) ≡ Ok bytes → (b ≡ true) × (read ≡ Ok bytes)
    within true read e = (refl, e)
    within false read e = cc
