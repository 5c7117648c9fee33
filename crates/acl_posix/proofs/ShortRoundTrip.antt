-- The short text of entries spells them, for any directory: its ids are decimals.
use Rattle.std.proofs.Common.{◌≡◌, true, ◌≤◌, List, [], ◌∷◌, length, length-append, map, Some, Ok, decimal, refl, ap, ◌∙◌, arith, codes}
use Rattle.std.specs.List.{All, AllByRecursion, join_with_byte}
use Rattle.std.proofs.lemmas.List.Elements.{All-nil, All-head, All-tail, All-cons}
use Rattle.acl_names.specs.Bytes.{colon}
use Rattle.acl_names.specs.Directory.{Known, uid_of, gid_of}
use Rattle.acl_names.specs.Ids.{written_id}
use Rattle.acl_names.specs.Names.{names_of}
use Rattle.acl_names.specs.ListText.{PiecesSay, Spells}
use Rattle.acl_names.specs.Plain.{is_field_byte, IsField}
use Rattle.acl_names.proofs.DecimalIds.{decimal_again, decimal_field}
use Rattle.acl_names.proofs.Fields.{fields_again, joined_plain, tested_field}
use Rattle.acl_names.proofs.PlainJoined.{IsPlainPiece, pieces_of_joined}
use Rattle.acl_posix.specs.Entry.{EntryValue, HavePermissions}
use Rattle.acl_posix.specs.Perms.{IsPermissions}
use Rattle.acl_posix.specs.PermsText.{perms_text}
use Rattle.acl_posix.specs.EntryText.{Fields, as_fields, fields_of, tag_word, tag_of, entry_of}
use Rattle.acl_posix.specs.PrintedText.{letter_text, number_text, short_entry, short_text, HasId, HaveIds}
use Rattle.acl_posix.specs.declared.limits.TheConstants.{MAX_ENTRIES}
use Rattle.acl_posix.specs.declared.entry.Tag.{Tag}
use Rattle.acl_posix.specs.declared.entry.Tag.TheVariants.{UserObj, User, GroupObj, Group, Mask, Other}
use Rattle.acl_posix.proofs.RoundTrip.{perms_again, perms_field, word_of, user_tag, group_tag, qualified_by, read_parts}

letter_field : (tag : Tag) → IsField (letter_text tag)
letter_field UserObj = tested_field (codes "u") refl
letter_field (User uid) = tested_field (codes "u") refl
letter_field GroupObj = tested_field (codes "g") refl
letter_field (Group gid) = tested_field (codes "g") refl
letter_field Mask = tested_field (codes "m") refl
letter_field Other = tested_field (codes "o") refl

letter_again : (tag : Tag) → tag_word (letter_text tag) ≡ Some (word_of tag)
unfolding word_of
letter_again UserObj = refl
letter_again (User uid) = refl
letter_again GroupObj = refl
letter_again (Group gid) = refl
letter_again Mask = refl
letter_again Other = refl

no_field : IsField []
no_field = All-nil (λ byte. is_field_byte byte ≡ true)

number_field : (tag : Tag) → HasId tag → IsField (number_text tag)
number_field (User uid) has = (decimal_field uid has).0
number_field (Group gid) has = (decimal_field gid has).0
number_field UserObj has = no_field
number_field GroupObj has = no_field
number_field Mask has = no_field
number_field Other has = no_field

number_again : (known : Known) (tag : Tag) → HasId tag → tag_of known (word_of tag) (Some (number_text tag)) ≡ Ok tag
unfolding word_of
number_again known UserObj has = refl
number_again known GroupObj has = refl
number_again known Mask has = refl
number_again known Other has = refl
number_again known (User uid) has =
    user_tag (names_of known) (decimal uid) (decimal_field uid has).1 ∙ qualified_by (λ uid. User uid) (uid_of known) uid (written_id (decimal uid)) (decimal_again (uid_of known) uid has)
number_again known (Group gid) has =
    group_tag (names_of known) (decimal gid) (decimal_field gid has).1 ∙ qualified_by (λ gid. Group gid) (gid_of known) gid (written_id (decimal gid)) (decimal_again (gid_of known) gid has)

fields_are : (entry : EntryValue) → HasId entry.tag → AllByRecursion IsField (letter_text entry.tag ∷ number_text entry.tag ∷ perms_text entry.perms ∷ [])
fields_are entry has = (letter_field entry.tag, (number_field entry.tag has, (perms_field entry.perms, tt)))

-- an entry is read again
short_again : (known : Known) (entry : EntryValue) → HasId entry.tag → IsPermissions entry.perms → entry_of known (short_entry entry) ≡ Ok entry
short_again known entry has allowed =
    let fields : Fields = record { tag = letter_text entry.tag; qualifier = Some (number_text entry.tag); perms = perms_text entry.perms } in
    let cut : fields_of (short_entry entry) ≡ Some fields = ap as_fields (fields_again (letter_text entry.tag) (number_text entry.tag ∷ perms_text entry.perms ∷ []) (fields_are entry has)) in
    read_parts (names_of known) (short_entry entry) fields (word_of entry.tag) entry.perms entry.tag cut (letter_again entry.tag) (perms_again entry.perms allowed) (number_again known entry.tag has)

-- and is a plain piece
short_piece : (entry : EntryValue) → HasId entry.tag → IsPlainPiece (short_entry entry)
short_piece entry has =
    let rest = number_text entry.tag ∷ perms_text entry.perms ∷ [] in
    (omega (arith, length-append (letter_text entry.tag) (colon ∷ join_with_byte colon rest)), joined_plain (letter_text entry.tag) rest (fields_are entry has))

pub short_pieces : (entries : List EntryValue) → HaveIds entries → All IsPlainPiece (map short_entry entries)
short_pieces [] have = All-nil IsPlainPiece
short_pieces (entry ∷ entries) have =
    All-cons IsPlainPiece (short_entry entry) (map short_entry entries) (short_piece entry (All-head (λ (e : EntryValue). HasId e.tag) entry entries have))
    (short_pieces entries (All-tail (λ (e : EntryValue). HasId e.tag) entry entries have))

each_again : (known : Known) (entries : List EntryValue) → HaveIds entries → HavePermissions entries → PiecesSay (entry_of known) (map short_entry entries) entries
each_again known [] have allowed = refl
each_again known (entry ∷ entries) have allowed =
    let has : HasId entry.tag = All-head (λ (e : EntryValue). HasId e.tag) entry entries have in
    let perms : IsPermissions entry.perms = All-head (λ (e : EntryValue). IsPermissions e.perms) entry entries allowed in
    rw (
      short_again known entry has perms,
      each_again known entries (All-tail (λ (e : EntryValue). HasId e.tag) entry entries have) (All-tail (λ (e : EntryValue). IsPermissions e.perms) entry entries allowed),
    ) refl

-- the short text spells the entries
pub short_spells : (known : Known) (entries : List EntryValue) → HaveIds entries → HavePermissions entries → length entries ≤ MAX_ENTRIES
    → Spells (entry_of known) MAX_ENTRIES (short_text entries) entries
short_spells known entries have allowed few = record {
  said = ap (map (entry_of known)) (pieces_of_joined (map short_entry entries) (short_pieces entries have)) ∙ each_again known entries have allowed;
  within = few;
}
