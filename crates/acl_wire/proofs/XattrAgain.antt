-- The bytes of a list are read as that list.
use Rattle.std.proofs.Common.{◌≡◌, ℕ, ◌*◌, ◌/◌, ◌%◌, ◌^◌, ◌<◌, ◌≤◌, true, false, eqb, leb, ltb, List, [], ◌∷◌, ◌++◌, length, All, Ok, refl, ap, ◌∙◌, arith, eq-eqb}
use Rattle.std.specs.List.{flat_map, AllByRecursion}
use Rattle.std.specs.Int.{w32}
use Rattle.std.proofs.lemmas.Bool.{le-leb, le-ltb, lt-ltb}
use Rattle.std.proofs.lemmas.List.Concat.{flat_map-cons}
use Rattle.std.proofs.lemmas.List.Elements.{recursion_from_All}
use Rattle.acl_names.specs.declared.limits.TheConstants.{MAX_ID}
use Rattle.acl_posix.specs.Entry.{EntryValue}
use Rattle.acl_posix.specs.PrintedText.{HasId, HaveIds}
use Rattle.acl_posix.specs.declared.entry.Tag.{Tag}
use Rattle.acl_posix.specs.declared.entry.Tag.TheVariants.{UserObj, User, GroupObj, Group, Mask, Other}
use Rattle.acl_posix.specs.declared.limits.TheConstants.{MAX_ENTRIES}
use Rattle.std.proofs.lemmas.List.Sorted.{IsPermutation-refl}
use Rattle.acl_posix.specs.Canonical.{IsAcl}
use Rattle.acl_posix.proofs.InOrderLemmas.{in_order-acl}
use Rattle.acl_posix.proofs.ValidityLemmas.{valid_iff}
use Rattle.acl_wire.specs.Posix.{acl_of}
use Rattle.acl_wire.specs.Xattr.{entry_bytes, id_number, tag_number, xattr_of}
use Rattle.acl_wire.specs.XattrReading.{body_of, entries_at, entries_of, entry_of, fields_at, tag_of}
use Rattle.acl_wire.specs.declared.xattr_reading.Fields.{Fields}
use Rattle.acl_wire.proofs.NumberLemmas.{number_again, wide16, wide32}
use Rattle.acl_wire.proofs.WritingLemmas.{length-entries}

-- an entry that has a spelling
pub record Fits (entry : EntryValue) : Type 0 where
  pub perms : entry.perms < 8
  pub id : HasId entry.tag

abbrev fields_of : EntryValue → Fields
fields_of entry = record { tag = tag_number entry.tag; perms = entry.perms; id = id_number entry.tag }

tag_short : (tag : Tag) → tag_number tag < 2 ^ 16
tag_short UserObj = omega arith
tag_short (User uid) = omega arith
tag_short GroupObj = omega arith
tag_short (Group gid) = omega arith
tag_short Mask = omega arith
tag_short Other = omega arith

id_short : (tag : Tag) → HasId tag → id_number tag < 2 ^ 32
id_short UserObj has = omega arith
id_short (User uid) has = omega (arith, has)
id_short GroupObj has = omega arith
id_short (Group gid) has = omega (arith, has)
id_short Mask has = omega arith
id_short Other has = omega arith

tag_again : (tag : Tag) → HasId tag → tag_of (tag_number tag) (id_number tag) ≡ Ok tag
tag_again UserObj has = refl
tag_again (User uid) has = rw (le-leb uid MAX_ID has) refl
tag_again GroupObj has = refl
tag_again (Group gid) has = rw (le-leb gid MAX_ID has) refl
tag_again Mask has = refl
tag_again Other has = refl

entry_again : (entry : EntryValue) → Fits entry → entry_of (fields_of entry) ≡ Ok entry
unfolding entry_of
entry_again entry fits = rw (tag_again entry.tag fits.id, lt-ltb entry.perms 8 fits.perms) refl

fields_again : (entry : EntryValue) (rest : List ℕ) → Fits entry → fields_at (entry_bytes entry ++ rest) ≡ Ok (fields_of entry, rest)
unfolding fields_at
fields_again entry rest fits =
    let long : ltb (length (entry_bytes entry ++ rest)) 8 ≡ false = le-ltb _ _ (omega arith) in
    rw (long, wide16.again (tag_number entry.tag) (tag_short entry.tag), wide16.again entry.perms (omega (arith, fits.perms)), wide32.again (id_number entry.tag) (id_short entry.tag fits.id)) refl

entries_again : (entries : List EntryValue) → AllByRecursion Fits entries → entries_at (length entries) (flat_map entry_bytes entries) ≡ Ok entries
unfolding entries_at
entries_again [] fits = refl
entries_again (entry ∷ more) fits =
    ap (entries_at (length (entry ∷ more))) (flat_map-cons entry_bytes entry more)
    ∙ rw (fields_again entry (flat_map entry_bytes more) fits.0, entry_again entry fits.0, entries_again more fits.1) refl

-- the bytes of entries, no more than there may be, are read as these
pub xattr_again : (entries : List EntryValue) → AllByRecursion Fits entries → length entries ≤ MAX_ENTRIES → entries_of (xattr_of entries) ≡ Ok entries
unfolding entries_of
xattr_again entries fits within =
    let body : List ℕ = flat_map entry_bytes entries in
    let len : length body ≡ 8 * length entries = length-entries entries in
    let whole : eqb (length body % 8) 0 ≡ true = eq-eqb _ _ (omega arith) in
    let count : length body / 8 ≡ length entries = omega arith in
    let few : leb (length entries) MAX_ENTRIES ≡ true = le-leb _ _ within in
    let read : body_of body ≡ Ok entries = rw (whole, count, few) (entries_again entries fits) in
    rw (number_again w32 (2 ^ 32) wide32 2 body (omega arith)) read

-- the bytes of a list are read as that list
pub acl_again : (acl : List EntryValue) → IsAcl acl → HaveIds acl → acl_of (xattr_of acl) ≡ Ok acl
unfolding acl_of
acl_again acl is have =
    let each : All Fits acl = λ k d inside. record { perms = is.permissions k d inside; id = have k d inside } in
    let read : entries_of (xattr_of acl) ≡ Ok acl = xattr_again acl (recursion_from_All Fits acl each) is.within in
    rw (read, (valid_iff acl).0 is.valid) (ap (λ (list : List EntryValue). Ok list) (in_order-acl acl acl is (IsPermutation-refl acl)))
