-- The bytes from which a list's entries are read are those of the entries, but for ids of nobody.
use Rattle.std.proofs.Common.{◌≡◌, ◌∙◌, ℕ, zero, suc, ◌≤◌, ◌/◌, ◌%◌, ◌==◌, Bool, true, false, ltb, leb, cond, List, [], ◌∷◌, ◌++◌, length, take, drop, Ok, refl, sym, ap, ap₂, subst, arith, inl, inr}
use Rattle.std.specs.Int.{w16, w32, from_le_bytes, to_le_bytes}
use Rattle.std.specs.List.{flat_map}
use Rattle.std.proofs.lemmas.Bool.{cases_Bool, cases_eq, cases_lt, eqb-true, le-ltb, lt-ltb, ne_eqb}
use Rattle.std.proofs.lemmas.List.{length-take, length-drop}
use Rattle.std.proofs.lemmas.List.Concat.{flat_map-cons}
use Rattle.std.proofs.lemmas.Nat.{le_bytes_2, le_bytes_4}
use Rattle.std.proofs.Math.Seq.{take-add}
use Rattle.acl_names.proofs.StepLemmas.{bind_ok}
use Rattle.acl_posix.specs.Entry.{EntryValue}
use Rattle.acl_posix.specs.declared.limits.TheConstants.{MAX_ENTRIES}
use Rattle.acl_posix.specs.declared.entry.Tag.{Tag}
use Rattle.acl_posix.specs.declared.entry.Tag.TheVariants.{UserObj, User, GroupObj, Group, Mask, Other}
use Rattle.acl_wire.specs.Written.{XattrsWereWritten, names_by_id, tidied_entries, tidied_entry}
use Rattle.acl_wire.specs.Xattr.{entry_bytes, id_number, tag_number, undefined_id, version}
use Rattle.acl_wire.specs.XattrReading.{body_of, entries_at, entries_of, entry_of, fields_at, number_at, tag_of}
use Rattle.acl_wire.specs.declared.xattr_reading.Fields.{Fields}
use Rattle.acl_wire.specs.declared.fault.PosixFault.{PosixFault}
use Rattle.acl_wire.specs.declared.fault.PosixFault.TheVariants as faults
use Rattle.acl_wire.proofs.Bytes.{Bounded, bounded, bounded-drop, bounded-take}
use Rattle.acl_wire.proofs.StepsBack.{answer, ok_same, test_held}

-- what a tag says of its number and its id

abbrev Says : ℕ → ℕ → Tag → Type 0
Says number id tag = (tag_number tag ≡ number) × (id_number tag ≡ cond (names_by_id number) id undefined_id)

says_if : (number id : ℕ) (known tag : Tag) → Says number id known → answer PosixFault known ≡ Ok tag → Says number id tag
says_if number id known tag says is = subst (λ (t : Tag). Says number id t) (ok_same known tag is) says

tag_read : (number id : ℕ) (tag : Tag) → tag_of number id ≡ Ok tag → Says number id tag
tag_read number id tag is = elim (cases_eq number 0x01) [
  | inl here ↦ at_number 0x01 here (λ e. says_if 0x01 id UserObj tag (refl, refl) e)
  | inr not1 ↦ elim (cases_eq number 0x02) [
    | inl here ↦ at_number 0x02 here (λ e. let named = test_held _ (User id) tag faults.Id e in subst (λ (t : Tag). Says 0x02 id t) named.1 (refl, refl))
    | inr not2 ↦ elim (cases_eq number 0x04) [
      | inl here ↦ at_number 0x04 here (λ e. says_if 0x04 id GroupObj tag (refl, refl) e)
      | inr not4 ↦ elim (cases_eq number 0x08) [
        | inl here ↦ at_number 0x08 here (λ e. let named = test_held _ (Group id) tag faults.Id e in subst (λ (t : Tag). Says 0x08 id t) named.1 (refl, refl))
        | inr not8 ↦ elim (cases_eq number 0x10) [
          | inl here ↦ at_number 0x10 here (λ e. says_if 0x10 id Mask tag (refl, refl) e)
          | inr not16 ↦ elim (cases_eq number 0x20) [
            | inl here ↦ at_number 0x20 here (λ e. says_if 0x20 id Other tag (refl, refl) e)
            | inr not32 ↦ let wrong = rw (ne_eqb number 0x01 not1, ne_eqb number 0x02 not2, ne_eqb number 0x04 not4, ne_eqb number 0x08 not8, ne_eqb number 0x10 not16, ne_eqb number 0x20 not32) at is in cc
          ]
        ]
      ]
    ]
  ]
]
  where
    at_number : (n : ℕ) → number ≡ n → (tag_of n id ≡ Ok tag → Says n id tag) → Says number id tag
    at_number n here says = subst (λ (m : ℕ). Says m id tag) (sym here) (says (subst (λ (m : ℕ). tag_of m id ≡ Ok tag) here is))

-- the fields that stand in front
abbrev front : List ℕ → Fields
front bytes = record {
  tag = from_le_bytes w16 (take 2 bytes);
  perms = from_le_bytes w16 (take 2 (drop 2 bytes));
  id = from_le_bytes w32 (take 4 (drop 4 bytes));
}

fields_read : (bytes : List ℕ) (fields : Fields × List ℕ) → fields_at bytes ≡ Ok fields → (8 ≤ length bytes) × ((front bytes, drop 8 bytes) ≡ fields)
unfolding fields_at
fields_read bytes fields is = elim (cases_lt (length bytes) 8) [
  | inl short ↦ let wrong = rw (lt-ltb _ _ short) at is in cc
  | inr long ↦ (long, ok_same (front bytes, drop 8 bytes) fields (rw (le-ltb _ _ long) at is))
]

-- the entry of the fields has their numbers
entry_read : (fields : Fields) (entry : EntryValue) → entry_of fields ≡ Ok entry → Says fields.tag fields.id entry.tag × (fields.perms ≡ entry.perms)
unfolding entry_of
entry_read fields entry is =
    let tagged = bind_ok (tag_of fields.tag fields.id) _ entry is in
    let held = test_held (ltb fields.perms 8) (record { tag = tagged.0; perms = fields.perms }) entry faults.Perms tagged.2 in (
      subst (λ (t : Tag). Says fields.tag fields.id t) (ap (λ (e : EntryValue). e.tag) held.1) (tag_read fields.tag fields.id tagged.0 tagged.1),
      ap (λ (e : EntryValue). e.perms) held.1,
    )

id_written : (bytes : List ℕ) (id named : ℕ) (test : Bool) → Bounded bytes → 8 ≤ length bytes → named ≡ from_le_bytes w32 (take 4 (drop 4 bytes)) → id ≡ cond test named undefined_id
    → to_le_bytes w32 id ≡ cond test (take 4 (drop 4 bytes)) (to_le_bytes w32 undefined_id)
id_written bytes id named true are long is same =
    le_bytes_4 (take 4 (drop 4 bytes)) id (omega (arith, length-take 4 (drop 4 bytes), length-drop 4 bytes, long)) (bounded-take 4 (drop 4 bytes) (bounded-drop 4 bytes are)) (same ∙ is)
id_written bytes id named false are long is same = ap (to_le_bytes w32) same

entry_written : (bytes : List ℕ) (entry : EntryValue) → Bounded bytes → 8 ≤ length bytes → entry_of (front bytes) ≡ Ok entry → entry_bytes entry ≡ tidied_entry bytes
entry_written bytes entry are long is =
    let said = entry_read (front bytes) entry is in
    let tag : to_le_bytes w16 (tag_number entry.tag) ≡ take 2 bytes =
    le_bytes_2 (take 2 bytes) (tag_number entry.tag) (omega (arith, length-take 2 bytes, long)) (bounded-take 2 bytes are) said.0.0 in
    let perms : to_le_bytes w16 entry.perms ≡ take 2 (drop 2 bytes) =
    le_bytes_2 (take 2 (drop 2 bytes)) entry.perms (omega (arith, length-take 2 (drop 2 bytes), length-drop 2 bytes, long)) (bounded-take 2 (drop 2 bytes) (bounded-drop 2 bytes are)) (sym said.1) in
    let id = id_written bytes (id_number entry.tag) (front bytes).id (names_by_id (front bytes).tag) are long refl said.0.1 in
    ap₂ (λ (a b : List ℕ). a ++ b) (ap₂ (λ (a b : List ℕ). a ++ b) tag perms ∙ sym (take-add 2 2 bytes)) id

entries_written : (n : ℕ) (bytes : List ℕ) (entries : List EntryValue) → Bounded bytes → entries_at n bytes ≡ Ok entries → flat_map entry_bytes entries ≡ tidied_entries n bytes
unfolding entries_at
entries_written zero bytes entries are is = ap (flat_map entry_bytes) (sym (ok_same {F = PosixFault} [] entries is))
entries_written (suc n) bytes entries are is =
    let read = bind_ok (fields_at bytes) _ entries is in
    let first = bind_ok (entry_of read.0.0) _ entries read.2 in
    let others = bind_ok (entries_at n read.0.1) _ entries first.2 in
    let fields = fields_read bytes read.0 read.1 in
    let made : first.0 ∷ others.0 ≡ entries = ok_same (first.0 ∷ others.0) entries others.2 in
    let behind : drop 8 bytes ≡ read.0.1 = ap (λ (it : Fields × List ℕ). it.1) fields.1 in
    let entry : entry_of (front bytes) ≡ Ok first.0 = ap (λ (it : Fields × List ℕ). entry_of it.0) fields.1 ∙ first.1 in
    let rest : flat_map entry_bytes others.0 ≡ tidied_entries n (drop 8 bytes) =
    entries_written n (drop 8 bytes) others.0 (bounded-drop 8 bytes are) (ap (entries_at n) behind ∙ others.1) in
    ap (flat_map entry_bytes) (sym made) ∙ flat_map-cons entry_bytes first.0 others.0
    ∙ ap₂ (λ (a b : List ℕ). a ++ b) (entry_written bytes first.0 are fields.0 entry) rest

body_read : (bytes : List ℕ) (entries : List EntryValue) → body_of bytes ≡ Ok entries → entries_at (length bytes / 8) bytes ≡ Ok entries
body_read bytes entries is = elim (cases_Bool ((length bytes % 8) == 0)) [
  | inl whole ↦ elim (cases_Bool (leb (length bytes / 8) MAX_ENTRIES)) [
    | inl few ↦ rw (whole, few) at is
    | inr many ↦ let wrong = rw (whole, many) at is in cc
  ]
  | inr cut ↦ let wrong = rw cut at is in cc
]

number_read : (bytes : List ℕ) (number : ℕ × List ℕ) → number_at w32 bytes ≡ Ok number → (4 ≤ length bytes) × ((from_le_bytes w32 (take 4 bytes), drop 4 bytes) ≡ number)
number_read bytes number is = elim (cases_lt (length bytes) 4) [
  | inl short ↦ let wrong = rw (lt-ltb _ _ short) at is in cc
  | inr long ↦ (long, ok_same (from_le_bytes w32 (take 4 bytes), drop 4 bytes) number (rw (le-ltb _ _ long) at is))
]

pub xattrs_written : XattrsWereWritten
unfolding entries_of
xattrs_written bytes entries are is =
    let byte = bounded bytes are in
    let read = bind_ok (number_at w32 bytes) _ entries is in
    let number = number_read bytes read.0 read.1 in
    elim (cases_Bool (read.0.0 == version)) [
      | inl here ↦
          let body : body_of (drop 4 bytes) ≡ Ok entries = ap (λ (it : ℕ × List ℕ). body_of it.1) number.1 ∙ rw here at read.2 in
          let said : from_le_bytes w32 (take 4 bytes) ≡ version = ap (λ (it : ℕ × List ℕ). it.0) number.1 ∙ eqb-true _ _ here in
          let head : to_le_bytes w32 version ≡ take 4 bytes = le_bytes_4 (take 4 bytes) version (omega (arith, length-take 4 bytes, number.0)) (bounded-take 4 bytes byte) (sym said) in
          ap₂ (λ (a b : List ℕ). a ++ b) head (entries_written (length (drop 4 bytes) / 8) (drop 4 bytes) entries (bounded-drop 4 bytes byte) (body_read (drop 4 bytes) entries body))
      | inr other ↦ let wrong = rw other at read.2 in cc
    ]
