-- The printed text of entries spells them.
use Rattle.std.proofs.Common.{◌≡◌, ℕ, ◌≤◌, ◌<◌, Bool, true, false, not, zero, suc, List, [], ◌∷◌, ◌++◌}
use Rattle.std.proofs.Common.{length, map, Option, Some, None, option_and_then, Ok, refl, ap, ◌∙◌, arith}
use Rattle.std.proofs.Common.{codes, length-append, ◌&&◌, if◌then◌else◌}
use Rattle.std.specs.List.{All, AllByRecursion, join_with_byte, list_all}
use Rattle.std.proofs.lemmas.List.Elements.{All-nil, All-head, All-tail, All-weaker}
use Rattle.std.proofs.lemmas.List.Sums.{AllPass-from_list_all}
use Rattle.acl_names.specs.declared.limits.TheConstants.{MAX_ID}
use Rattle.acl_names.specs.Bytes.{tab, colon}
use Rattle.acl_names.specs.Ids.{ReadBack, Written, written_id, id_text, id_of_written}
use Rattle.acl_names.specs.Directory.{Known, NamesReadBack, uid_of, gid_of, user_name, group_name}
use Rattle.acl_names.specs.Pieces.{pieces}
use Rattle.acl_names.specs.ListText.{PiecesSay, Spells}
use Rattle.acl_names.proofs.IdTexts.{id_again}
use Rattle.acl_names.specs.Names.{Names, names_of}
use Rattle.acl_names.specs.Plain.{is_field_byte, IsField}
use Rattle.acl_names.proofs.Fields.{id_field, fields_again, joined_plain, tested_field}
use Rattle.acl_names.specs.Plain.{IsPlain, is_plain}
use Rattle.acl_names.proofs.PlainLines.{IsMark, nothing, comment, plain_lacks_newline, pieces_of_lines}
use Rattle.acl_posix.specs.Entry.{EntryValue, HavePermissions}
use Rattle.acl_posix.specs.declared.limits.TheConstants.{MAX_ENTRIES}
use Rattle.acl_posix.specs.declared.entry.Tag.{Tag}
use Rattle.acl_posix.specs.declared.entry.Tag.TheVariants.{UserObj, User, GroupObj, Group, Mask, Other}
use Rattle.acl_posix.specs.declared.reading.PieceFault.TheVariants.{Syntax, UnknownName}
use Rattle.acl_posix.specs.declared.reading.TagWord.{TagWord}
use Rattle.acl_posix.specs.declared.reading.TagWord.TheVariants as word
use Rattle.acl_posix.specs.PermsText.{perms_of_text, perms_text, three_letters}
use Rattle.acl_posix.specs.Access.{is_under_mask}
use Rattle.acl_posix.specs.Perms.{IsPermissions}
use Rattle.acl_names.specs.Bits.{◌∩◌, has_all}
use Rattle.acl_posix.specs.EntryText.{Fields, as_fields, fields_of, tag_word, tag_by, tag_of, tag_with_id, entry_by, entry_of}
use Rattle.acl_names.specs.Steps.{or_fault, ◌>>=◌}
use Rattle.acl_posix.specs.PrintedText.{word_text, qualifier_text, entry_text, effective_mark, effective_text, HasId, HaveIds}

-- permissions are read again
pub perms_again : (perms : ℕ) → IsPermissions perms → perms_of_text (perms_text perms) ≡ Some perms
unfolding perms_of_text
perms_again zero known = refl
perms_again (suc zero) known = refl
perms_again (suc (suc zero)) known = refl
perms_again (suc (suc (suc zero))) known = refl
perms_again (suc (suc (suc (suc zero)))) known = refl
perms_again (suc (suc (suc (suc (suc zero))))) known = refl
perms_again (suc (suc (suc (suc (suc (suc zero)))))) known = refl
perms_again (suc (suc (suc (suc (suc (suc (suc zero))))))) known = refl
perms_again (suc (suc (suc (suc (suc (suc (suc (suc perms)))))))) known = absurd (omega arith)

pub three_pass : (read write execute : Bool) → list_all is_field_byte (three_letters read write execute) ≡ true
three_pass true true true = refl
three_pass true true false = refl
three_pass true false true = refl
three_pass true false false = refl
three_pass false true true = refl
three_pass false true false = refl
three_pass false false true = refl
three_pass false false false = refl

pub perms_field : (perms : ℕ) → IsField (perms_text perms)
perms_field perms = tested_field (perms_text perms) (three_pass (has_all perms 4) (has_all perms 2) (has_all perms 1))

word_field : (tag : Tag) → IsField (word_text tag)
word_field UserObj = tested_field (codes "user") refl
word_field (User uid) = tested_field (codes "user") refl
word_field GroupObj = tested_field (codes "group") refl
word_field (Group gid) = tested_field (codes "group") refl
word_field Mask = tested_field (codes "mask") refl
word_field Other = tested_field (codes "other") refl

qualifier_field : (known : Known) (tag : Tag) → NamesReadBack known → HasId tag → IsField (qualifier_text known tag)
qualifier_field known (User uid) is has = (id_field (uid_of known) (user_name known) uid is.users has).0
qualifier_field known (Group gid) is has = (id_field (gid_of known) (group_name known) gid is.groups has).0
qualifier_field known UserObj is has = All-nil (λ byte. is_field_byte byte ≡ true)
qualifier_field known GroupObj is has = All-nil (λ byte. is_field_byte byte ≡ true)
qualifier_field known Mask is has = All-nil (λ byte. is_field_byte byte ≡ true)
qualifier_field known Other is has = All-nil (λ byte. is_field_byte byte ≡ true)

fields_are : (known : Known) (entry : EntryValue) → NamesReadBack known → HasId entry.tag
    → AllByRecursion IsField (word_text entry.tag ∷ qualifier_text known entry.tag ∷ perms_text entry.perms ∷ [])
fields_are known entry is has = (word_field entry.tag, (qualifier_field known entry.tag is has, (perms_field entry.perms, tt)))

-- the word of each tag
unfoldable pub word_of : Tag → TagWord
word_of UserObj = word.User
word_of (User uid) = word.User
word_of GroupObj = word.Group
word_of (Group gid) = word.Group
word_of Mask = word.Mask
word_of Other = word.Other

word_again : (tag : Tag) → tag_word (word_text tag) ≡ Some (word_of tag)
unfolding word_of
word_again UserObj = refl
word_again _ = refl

-- an id that is written and resolved gives its tag
pub qualified_by : (tag : ℕ → Tag) (id_of : List ℕ → Option ℕ) (id : ℕ) (written : Option Written) → option_and_then (id_of_written id_of) written ≡ Some id
    → (or_fault Syntax written >>= (λ w. or_fault UnknownName (id_of_written id_of w) >>= (λ n. Ok (tag n)))) ≡ Ok (tag id)
qualified_by tag id_of id None e = cc
qualified_by tag id_of id (Some w) e = ap (λ found. or_fault UnknownName found >>= (λ n. Ok (tag n))) e

qualified_again : (tag : ℕ → Tag) (id_of : List ℕ → Option ℕ) (name_of : ℕ → Option (List ℕ)) (id : ℕ) → ReadBack id_of name_of → id ≤ MAX_ID
    → tag_with_id written_id tag id_of (id_text name_of id) ≡ Ok (tag id)
qualified_again tag id_of name_of id back small = qualified_by tag id_of id (written_id (id_text name_of id)) (id_again id_of name_of id back small)

pub user_tag : (names : Names) (text : List ℕ) → 0 < length text → tag_by names word.User (Some text) ≡ tag_with_id names.written (λ uid. User uid) names.uid text
user_tag names [] some = absurd (omega arith)
user_tag names (byte ∷ bytes) some = refl

pub group_tag : (names : Names) (text : List ℕ) → 0 < length text → tag_by names word.Group (Some text) ≡ tag_with_id names.written (λ gid. Group gid) names.gid text
group_tag names [] some = absurd (omega arith)
group_tag names (byte ∷ bytes) some = refl

tag_again : (known : Known) (tag : Tag) → NamesReadBack known → HasId tag → tag_of known (word_of tag) (Some (qualifier_text known tag)) ≡ Ok tag
unfolding word_of
tag_again known UserObj is has = refl
tag_again known GroupObj is has = refl
tag_again known Mask is has = refl
tag_again known Other is has = refl
tag_again known (User uid) is has =
    user_tag (names_of known) (id_text (user_name known) uid) (id_field (uid_of known) (user_name known) uid is.users has).1 ∙ qualified_again (λ uid. User uid) (uid_of known) (user_name known) uid is.users has
tag_again known (Group gid) is has =
    group_tag (names_of known) (id_text (group_name known) gid) (id_field (gid_of known)
    (group_name known) gid is.groups has).1 ∙ qualified_again (λ gid. Group gid) (gid_of known)
    (group_name known) gid is.groups has

-- a piece whose parts are read is read
pub read_parts : (names : Names) (piece : List ℕ) (fields : Fields) (word : TagWord) (perms : ℕ) (tag : Tag)
    → fields_of piece ≡ Some fields → tag_word fields.tag ≡ Some word → perms_of_text fields.perms ≡ Some perms → tag_by names word fields.qualifier ≡ Ok tag
    → entry_by names piece ≡ Ok (record { tag = tag; perms = perms })
unfolding entry_by
read_parts names piece fields word perms tag cut said allowed tagged = rw (cut, said, allowed, tagged) refl

-- an entry is read again
pub entry_again : (known : Known) (entry : EntryValue) → NamesReadBack known → HasId entry.tag → IsPermissions entry.perms → entry_of known (entry_text known entry) ≡ Ok entry
entry_again known entry is has allowed =
    let fields : Fields = record { tag = word_text entry.tag; qualifier = Some (qualifier_text known entry.tag); perms = perms_text entry.perms } in
    let cut : fields_of (entry_text known entry) ≡ Some fields = ap as_fields
    (fields_again (word_text entry.tag) (qualifier_text known entry.tag ∷ perms_text entry.perms ∷ [])
    (fields_are known entry is has)) in
    read_parts (names_of known) (entry_text known entry) fields (word_of entry.tag) entry.perms entry.tag cut (word_again entry.tag)
    (perms_again entry.perms allowed) (tag_again known entry.tag is has)

marked_three_pass : (read write execute : Bool) → list_all is_plain (codes "effective:" ++ three_letters read write execute) ≡ true
marked_three_pass true true true = refl
marked_three_pass true true false = refl
marked_three_pass true false true = refl
marked_three_pass true false false = refl
marked_three_pass false true true = refl
marked_three_pass false true false = refl
marked_three_pass false false true = refl
marked_three_pass false false false = refl

-- a mark is a comment
mark_if : (limits : Bool) (left : ℕ) → IsMark (if limits then tab ∷ codes "#effective:" ++ perms_text left else [])
mark_if false left = nothing
mark_if true left =
    let text = codes "effective:" ++ perms_text left in
    comment text (plain_lacks_newline text (AllPass-from_list_all is_plain text (marked_three_pass (has_all left 4) (has_all left 2) (has_all left 1))))

mark_is : (mask : Option ℕ) (entry : EntryValue) → IsMark (effective_mark mask entry)
mark_is None entry = nothing
mark_is (Some mask) entry = mark_if (is_under_mask entry.tag && not (has_all mask entry.perms)) (entry.perms ∩ mask)

-- what a printed line is made of
abbrev pub IsLine : Known → Option ℕ → EntryValue → Type 0
IsLine known mask entry = (0 < length (entry_text known entry)) × IsPlain (entry_text known entry) × IsMark (effective_mark mask entry)

pub line_is : (known : Known) (mask : Option ℕ) (entry : EntryValue) → NamesReadBack known → HasId entry.tag → IsLine known mask entry
line_is known mask entry is has =
    let rest = qualifier_text known entry.tag ∷ perms_text entry.perms ∷ [] in (
      omega (arith, length-append (word_text entry.tag) (colon ∷ join_with_byte colon rest)),
      joined_plain (word_text entry.tag) rest (fields_are known entry is has),
      mark_is mask entry,
    )

-- each printed entry says the entry
each_again : (known : Known) (entries : List EntryValue) → NamesReadBack known → HaveIds entries → HavePermissions entries → PiecesSay (entry_of known) (map (entry_text known) entries) entries
each_again known [] is have known_perms = refl
each_again known (entry ∷ entries) is have known_perms =
    let has : HasId entry.tag = All-head (λ (e : EntryValue). HasId e.tag) entry entries have in
    let allowed : IsPermissions entry.perms = All-head (λ (e : EntryValue). IsPermissions e.perms) entry entries known_perms in
    rw (
      entry_again known entry is has allowed,
      each_again known entries is (All-tail (λ (e : EntryValue). HasId e.tag) entry entries have) (All-tail (λ (e : EntryValue). IsPermissions e.perms) entry entries known_perms),
    ) refl

pub text_says : (known : Known) (mask : Option ℕ) (entries : List EntryValue) → NamesReadBack known
    → HaveIds entries → HavePermissions entries → PiecesSay (entry_of known)
    (pieces (effective_text known mask entries)) entries
text_says known mask entries is have known_perms =
    let lines : All (IsLine known mask) entries = All-weaker (λ (e : EntryValue). HasId e.tag) (IsLine known mask) (λ e has. line_is known mask e is has) entries have in
    ap (map (entry_of known)) (pieces_of_lines (entry_text known) (effective_mark mask) entries lines) ∙ each_again known entries is have known_perms

-- the printed text spells the entries
pub text_spells : (known : Known) (mask : Option ℕ) (entries : List EntryValue) → NamesReadBack known → HaveIds entries → HavePermissions entries → length entries ≤ MAX_ENTRIES
    → Spells (entry_of known) MAX_ENTRIES (effective_text known mask entries) entries
text_spells known mask entries is have known_perms few = record { said = text_says known mask entries is have known_perms; within = few }
