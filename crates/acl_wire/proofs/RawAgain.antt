-- The numbers of NFSv4 entries are read as these entries.
use Rattle.std.proofs.Common.{◌≡◌, ◌≤◌, ℕ, Bool, true, false, eqb, leb, List, [], ◌∷◌, All, length, Ok, refl, sym, ap, subst, ◌∙◌, arith, eq-eqb}
use Rattle.std.specs.List.{AllByRecursion}
use Rattle.std.proofs.lemmas.Bool.{le-leb}
use Rattle.std.proofs.lemmas.Nat.{and_assoc, and_le_r}
use Rattle.std.proofs.lemmas.List.{length-map}
use Rattle.std.proofs.lemmas.List.Elements.{recursion_from_All}
use Rattle.acl_names.specs.Bits.{has, ◌∩◌}
use Rattle.acl_names.specs.declared.limits.TheConstants.{MAX_ID}
use Rattle.acl_nfs4.specs.Ace.{IsAce, Nfsace4, is_idle}
use Rattle.acl_nfs4.specs.Acl.{AreAces}
use Rattle.acl_nfs4.specs.Flags.{all_flags, identifier_group}
use Rattle.acl_nfs4.specs.Mask.{all_masks}
use Rattle.acl_nfs4.specs.PrintedText.{HaveIds}
use Rattle.acl_nfs4.specs.Who.{HasId, id_of, is_named_group}
use Rattle.acl_nfs4.specs.declared.ace.AceType.{AceType}
use Rattle.acl_nfs4.specs.declared.ace.AceType.TheVariants.{Allow, Deny, Audit, Alarm}
use Rattle.acl_nfs4.specs.declared.limits.TheConstants.{MAX_ACES}
use Rattle.acl_nfs4.specs.declared.who.Who.{Who}
use Rattle.acl_nfs4.specs.declared.who.Who.TheVariants.{Owner, Group, Everyone, User, NamedGroup}
use Rattle.acl_nfs4.proofs.RoundTrip.{ace_of-same}
use Rattle.acl_wire.specs.RawAces.{ace_of_raw, aces_of, but_inherited, but_retention, kind_of, list_of, seen, who_of}
use Rattle.acl_wire.specs.declared.raw_ace.Purpose.{Purpose}
use Rattle.acl_wire.specs.declared.raw_ace.Purpose.TheVariants.{Decide, Write}
use Rattle.acl_wire.specs.RawAcesWriting.{kind_number, raw_of, raws_of, special_number}

kind_again : (kind : AceType) → kind_of (kind_number kind) ≡ Ok kind
kind_again Allow = refl
kind_again Deny = refl
kind_again Audit = refl
kind_again Alarm = refl

who_again : (who : Who) → HasId who → who_of (special_number who) (is_named_group who) (id_of who) ≡ Ok who
who_again Owner has = refl
who_again Group has = refl
who_again Everyone has = refl
who_again (User uid) has = rw (le-leb uid MAX_ID has) refl
who_again (NamedGroup gid) has = rw (le-leb gid MAX_ID has) refl

pub raw_again : (ace : Nfsace4) → IsAce ace → HasId ace.who → ace_of_raw (raw_of ace) ≡ Ok ace
unfolding ace_of_raw
raw_again ace is has_id =
    let small : leb ace.flags all_flags ≡ true = le-leb _ _ (subst (λ (n : ℕ). n ≤ all_flags) is.known_flags (and_le_r ace.flags all_flags)) in
    let known : eqb (ace.mask ∩ all_masks) ace.mask ≡ true = eq-eqb _ _ is.known_mask in
    let who : who_of (special_number ace.who) (has ace.flags identifier_group) (id_of ace.who) ≡ Ok ace.who =
    ap (λ (b : Bool). who_of (special_number ace.who) b (id_of ace.who)) is.group_flag ∙ who_again ace.who has_id in
    rw (kind_again ace.kind, small, known, who, ace_of-same ace is) refl

-- what is within one set of bits is within a larger one
within_both : (set few more : ℕ) → set ∩ few ≡ set → few ∩ more ≡ few → set ∩ more ≡ set
within_both set few more is are =
    ap (λ (n : ℕ). n ∩ more) (sym is) ∙ and_assoc more set few ∙ ap (λ (n : ℕ). set ∩ n) are ∙ is

-- nothing of an entry's numbers is passed over
pub seen_again : (purpose : Purpose) (ace : Nfsace4) → IsAce ace → seen purpose (raw_of ace) ≡ raw_of ace
seen_again Write ace is = refl
seen_again Decide ace is =
    let flags : ace.flags ∩ but_inherited ≡ ace.flags = within_both ace.flags all_flags but_inherited is.known_flags refl in
    let mask : ace.mask ∩ but_retention ≡ ace.mask = within_both ace.mask all_masks but_retention is.known_mask refl in
    rw (flags, mask) refl

-- an entry that can be read again
pub record IsAgain (ace : Nfsace4) : Type 0 where
  pub is_ace : IsAce ace
  pub id : HasId ace.who
  pub effect : is_idle ace ≡ false

raws_again : (purpose : Purpose) (aces : List Nfsace4) → AllByRecursion IsAgain aces → aces_of purpose (raws_of aces) ≡ Ok aces
unfolding aces_of
raws_again purpose [] are = refl
raws_again purpose (ace ∷ more) are = rw (seen_again purpose ace are.0.is_ace, raw_again ace are.0.is_ace are.0.id, are.0.effect, raws_again purpose more are.1) refl

pub list_again : (purpose : Purpose) (aces : List Nfsace4) → AreAces aces → HaveIds aces → list_of purpose (raws_of aces) ≡ Ok aces
list_again purpose aces are have =
    let each : All IsAgain aces = λ k d inside. record { is_ace = are.each k d inside; id = have k d inside; effect = are.effective k d inside } in
    let few : leb (length (raws_of aces)) MAX_ACES ≡ true = le-leb _ _ (omega (arith, length-map aces raw_of, are.within)) in
    rw few (raws_again purpose aces (recursion_from_All IsAgain aces each))
