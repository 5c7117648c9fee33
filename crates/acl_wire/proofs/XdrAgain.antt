-- A list in XDR is read as that list.
use Rattle.std.proofs.Common.{◌≡◌, ◌∙◌, ℕ, ◌-◌, ◌^◌, ◌<◌, ◌≤◌, true, false, ltb, leb, List, [], ◌∷◌, ◌++◌, length, replicate, decimal, codes, take, drop, All, Some, None, Ok, refl, sym, ap, subst, arith, append_assoc, inl, inr}
use Rattle.std.specs.Int.{w32, to_be_bytes}
use Rattle.std.specs.List.{flat_map, AllByRecursion}
use Rattle.std.specs.Str.{bytes_eq}
use Rattle.std.proofs.lemmas.Bool.{cases_Bool, le-leb, le-ltb}
use Rattle.std.proofs.lemmas.Fmt.{length-decimal-le}
use Rattle.std.proofs.lemmas.List.{drop_at, length-append, length-replicate, take_at}
use Rattle.std.proofs.lemmas.List.Concat.{flat_map-cons}
use Rattle.std.proofs.lemmas.List.Elements.{recursion_from_All}
use Rattle.std.proofs.lemmas.Nat.{and_le_r, from_be_bytes-to_be_bytes_4}
use Rattle.std.proofs.lemmas.Slice.Eq.{bytes_eq-Decides}
use Rattle.acl_names.proofs.IdTexts.{decimal_read}
use Rattle.acl_names.specs.Ids.{decimal_value}
use Rattle.acl_names.specs.declared.limits.TheConstants.{MAX_ID}
use Rattle.acl_nfs4.specs.Ace.{Nfsace4}
use Rattle.acl_nfs4.specs.Flags.{all_flags}
use Rattle.acl_nfs4.specs.Mask.{all_masks}
use Rattle.acl_nfs4.specs.Who.{HasId, id_of}
use Rattle.acl_nfs4.specs.declared.limits.TheConstants.{MAX_ACES}
use Rattle.acl_nfs4.specs.declared.ace.AceType.{AceType}
use Rattle.acl_nfs4.specs.declared.ace.AceType.TheVariants.{Allow, Deny, Audit, Alarm}
use Rattle.acl_nfs4.specs.declared.who.Who.{Who}
use Rattle.acl_nfs4.specs.declared.who.Who.TheVariants.{Owner, Group, Everyone, User, NamedGroup}
use Rattle.acl_wire.specs.RawAcesWriting.{kind_number, raw_of, special_number}
use Rattle.acl_wire.specs.WireLaws.{XdrIsReadAgain}
use Rattle.acl_wire.specs.Xdr.{aces_at, number_at, padded, raw_at, text_at, who_in, xdr_list_of}
use Rattle.acl_wire.specs.XdrWriting.{ace_bytes, filled, text_bytes, who_text}
use Rattle.acl_wire.proofs.RawAgain.{IsAgain, raw_again}

pub number_again : (n : ℕ) (rest : List ℕ) → n < 2 ^ 32 → number_at (to_be_bytes w32 n ++ rest) ≡ Ok (n, rest)
number_again n rest lt =
    let long : ltb (length (to_be_bytes w32 n ++ rest)) 4 ≡ false = le-ltb _ _ (omega arith) in
    rw (long, from_be_bytes-to_be_bytes_4 n lt) refl

pub text_again : (text rest : List ℕ) → length text < 2 ^ 32 → text_at (text_bytes text ++ rest) ≡ Ok (text, rest)
unfolding text_at
text_again text rest lt =
    let n = length text in
    let fill : List ℕ = replicate (padded n - n) 0 in
    let size : length (filled text) ≡ padded n = length-append text fill ∙ omega (arith, length-replicate {A = ℕ} (padded n - n) 0) in
    let long : ltb (length (filled text ++ rest)) (padded n) ≡ false = le-ltb _ _ (omega (arith, size, length-append (filled text) rest)) in
    let front : take n (filled text ++ rest) ≡ text = ap (take n) (append_assoc text fill rest) ∙ take_at text (fill ++ rest) n refl in
    let behind : drop (padded n) (filled text ++ rest) ≡ rest = drop_at (filled text) rest (padded n) size in
    rw (number_again n (filled text ++ rest) lt, long, front, behind) refl

-- an id is none of the three
not_special : (text word : List ℕ) (id : ℕ) → decimal_value text ≡ Some id → decimal_value word ≡ None → bytes_eq text word ≡ false
not_special text word id is none = elim (cases_Bool (bytes_eq text word)) [
  | inl same ↦
      let equal : text ≡ word = (bytes_eq-Decides text word).0 same in
      let wrong : Some id ≡ None = sym is ∙ ap decimal_value equal ∙ none in
      cc
  | inr other ↦ other
]

pub id_first : (text : List ℕ) (id : ℕ) → decimal_value text ≡ Some id → who_in text ≡ Ok (0, id)
id_first text id is =
    rw (not_special text (codes "OWNER@") id is refl, not_special text (codes "GROUP@") id is refl, not_special text (codes "EVERYONE@") id is refl, is) refl

id_again : (id : ℕ) → id ≤ MAX_ID → who_in (decimal id) ≡ Ok (0, id)
id_again id small = id_first (decimal id) id (decimal_read id small)

pub who_again : (who : Who) → HasId who → who_in (who_text who) ≡ Ok (special_number who, id_of who)
who_again Owner has = refl
who_again Group has = refl
who_again Everyone has = refl
who_again (User uid) has = id_again uid has
who_again (NamedGroup gid) has = id_again gid has

pub short_text : (who : Who) → HasId who → length (who_text who) < 2 ^ 32
short_text Owner has = omega arith
short_text Group has = omega arith
short_text Everyone has = omega arith
short_text (User uid) has = omega (arith, length-decimal-le 10 uid (omega arith) (omega (arith, has)) (omega (arith, has)))
short_text (NamedGroup gid) has = omega (arith, length-decimal-le 10 gid (omega arith) (omega (arith, has)) (omega (arith, has)))

pub kind_short : (kind : AceType) → kind_number kind < 2 ^ 32
kind_short Allow = omega arith
kind_short Deny = omega arith
kind_short Audit = omega arith
kind_short Alarm = omega arith

pub entry_again : (ace : Nfsace4) (rest : List ℕ) → ace.flags < 2 ^ 32 → ace.mask < 2 ^ 32 → HasId ace.who → raw_at (ace_bytes ace ++ rest) ≡ Ok (raw_of ace, rest)
unfolding raw_at
entry_again ace rest flags mask has =
    let who = text_bytes (who_text ace.who) in
    rw (
      number_again (kind_number ace.kind) (to_be_bytes w32 ace.flags ++ (to_be_bytes w32 ace.mask ++ (who ++ rest))) (kind_short ace.kind),
      number_again ace.flags (to_be_bytes w32 ace.mask ++ (who ++ rest)) flags,
      number_again ace.mask (who ++ rest) mask,
      text_again (who_text ace.who) rest (short_text ace.who has),
      who_again ace.who has,
    ) refl

entries_again : (aces : List Nfsace4) → AllByRecursion IsAgain aces → aces_at (length aces) (flat_map ace_bytes aces) ≡ Ok (aces, [])
unfolding aces_at
entries_again [] are = refl
entries_again (ace ∷ more) are =
    let flags : ace.flags < 2 ^ 32 = omega (arith, subst (λ (n : ℕ). n ≤ all_flags) are.0.is_ace.known_flags (and_le_r ace.flags all_flags)) in
    let mask : ace.mask < 2 ^ 32 = omega (arith, subst (λ (n : ℕ). n ≤ all_masks) are.0.is_ace.known_mask (and_le_r ace.mask all_masks)) in
    ap (aces_at (length (ace ∷ more))) (flat_map-cons ace_bytes ace more)
    ∙ rw (entry_again ace (flat_map ace_bytes more) flags mask are.0.id, raw_again ace are.0.is_ace are.0.id, are.0.effect, entries_again more are.1) refl

pub xdr_again : XdrIsReadAgain
unfolding xdr_list_of
xdr_again aces are have =
    let each : All IsAgain aces = λ k d inside. record { is_ace = are.each k d inside; id = have k d inside; effect = are.effective k d inside } in
    let few : leb (length aces) MAX_ACES ≡ true = le-leb _ _ are.within in
    rw (number_again (length aces) (flat_map ace_bytes aces) (omega (arith, are.within)), few, entries_again aces (recursion_from_All IsAgain aces each)) refl
