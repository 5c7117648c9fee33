-- POSIX lists that are printed with their ids in decimal are read again, whoever there is.
use Rattle.std.proofs.Common.{◌≡◌, ◌∙◌, ℕ, ◌||◌, true, false, cond, List, [], ◌∷◌, ◌++◌, Option, Some, None, Result, Ok, All, ap, ap₂, append-nil, append_assoc, arith, codes, decimal, drop, flat_map, length-append, map, option_and_then, refl, sym, unwrap_or}
use Rattle.std.specs.List.{AllByRecursion, cons_option, filter_map, join_with_byte, list_any}
use Rattle.std.proofs.lemmas.List.Elements.{All-append, All-cons, All-head, All-nil, All-tail}
use Rattle.std.proofs.lemmas.List.Sorted.{IsPermutation-refl}
use Rattle.acl_names.specs.Bytes.{colon, newline}
use Rattle.acl_names.specs.Ids.{Written, id_of_written}
use Rattle.acl_names.specs.ListText.{PiecesSay, Spells}
use Rattle.acl_names.specs.Names.{Names}
use Rattle.acl_names.specs.Pieces.{parts, pieces, pieces_of_content, trim}
use Rattle.acl_names.specs.Plain.{IsField, is_field_byte}
use Rattle.acl_names.specs.Steps.{◌>>=◌, or_fault}
use Rattle.acl_names.specs.declared.directory.resolve.NameFault.TheVariants.{Malformed, Unknown}
use Rattle.acl_names.proofs.DecimalIds.{decimal_field}
use Rattle.acl_names.proofs.Fields.{fields_again, joined_plain, tested_field}
use Rattle.acl_names.proofs.PlainJoined.{IsPlainPiece}
use Rattle.acl_names.proofs.PlainLines.{before_no_hash, one_piece, plain_lacks_blanks, plain_lacks_hash, plain_lacks_newline, trim_same}
use Rattle.acl_posix.specs.Canonical.{IsAcl}
use Rattle.acl_posix.specs.Entry.{EntryValue, HavePermissions}
use Rattle.acl_posix.specs.EntryText.{Fields, as_fields, entry_by, fields_of, tag_by, tag_word}
use Rattle.acl_posix.specs.Perms.{IsPermissions}
use Rattle.acl_posix.specs.PermsText.{perms_text}
use Rattle.acl_posix.specs.PrintedText.{HasId, HaveIds, number_text, word_text}
use Rattle.acl_posix.specs.declared.entry.Tag.{Tag}
use Rattle.acl_posix.specs.declared.entry.Tag.TheVariants.{UserObj, User, GroupObj, Group, Mask, Other}
use Rattle.acl_posix.specs.declared.limits.TheConstants.{MAX_ENTRIES}
use Rattle.acl_posix.specs.declared.reading.PieceFault.{PieceFault}
use Rattle.acl_posix.specs.declared.reading.PieceFault.TheVariants.{Syntax, UnknownName}
use Rattle.acl_posix.proofs.InOrderLemmas.{in_order-acl}
use Rattle.acl_posix.proofs.RoundTrip.{group_tag, perms_again, perms_field, read_parts, user_tag, word_of}
use Rattle.acl_posix.proofs.ValidityLemmas.{valid_iff}
use Rattle.acl_nfs4.specs.NamedAces.{ReadNumbers}
use Rattle.acl_forms.specs.Forms.{form_of, form_of_pieces}
use Rattle.acl_forms.specs.declared.form.Form.TheVariants as form
use Rattle.acl_listings.specs.Access.{acl_by, default_by, if_there, posix_by}
use Rattle.acl_listings.specs.BlockLists.{lists_by, lists_in}
use Rattle.acl_listings.specs.FileFlags.{flags_by, flags_in, no_flags}
use Rattle.acl_listings.specs.Header.{after_prefix}
use Rattle.acl_listings.specs.ListLines.{is_default, line_of, pieces_of}
use Rattle.acl_listings.specs.Numbered.{IsPrintableDefault, default_text, entries_text, entry_text}
use Rattle.acl_listings.specs.declared.list_lines.ListKind.TheVariants.{Access, Default}
use Rattle.acl_listings.specs.declared.lists.Lists.TheVariants.{Posix}
use Rattle.acl_listings.proofs.AccessLemmas.{ended, line_pieces, listed}
use Rattle.acl_listings.proofs.ExtentLemmas.{LacksNewline}
use Rattle.acl_listings.proofs.FormLemmas.{form_said}
use Rattle.acl_listings.proofs.PrintedLemmas.{IsOneLine, first-joined, joined, lacking, parts-joined, word_line}

-- ---- lines

abbrev pub default_word : List ℕ
default_word = codes "default:"

abbrev pub default_line : EntryValue → List ℕ
default_line entry = default_word ++ entry_text entry

abbrev pub default_lines : Option (List EntryValue) → List (List ℕ)
default_lines None = []
default_lines (Some default) = map default_line default

abbrev pub posix_lines : List EntryValue → Option (List EntryValue) → List (List ℕ)
posix_lines access default = map entry_text access ++ default_lines default

entries_ended : (word : List ℕ) (entries : List EntryValue) → entries_text word entries ≡ ended (map (λ entry. word ++ entry_text entry) entries)
entries_ended word [] = refl
entries_ended word (entry ∷ entries) =
    ap₂ (λ line more. line ++ more) (sym (append_assoc word (entry_text entry) (newline ∷ []))) (entries_ended word entries)

pub access_ended : (entries : List EntryValue) → entries_text [] entries ≡ ended (map entry_text entries)
access_ended entries = entries_ended [] entries

pub default_ended : (default : Option (List EntryValue)) → default_text default ≡ ended (default_lines default)
default_ended None = refl
default_ended (Some default) = entries_ended default_word default

word_field : (tag : Tag) → IsField (word_text tag)
word_field UserObj = tested_field (codes "user") refl
word_field (User uid) = tested_field (codes "user") refl
word_field GroupObj = tested_field (codes "group") refl
word_field (Group gid) = tested_field (codes "group") refl
word_field Mask = tested_field (codes "mask") refl
word_field Other = tested_field (codes "other") refl

number_field : (tag : Tag) → HasId tag → IsField (number_text tag)
number_field (User uid) has = (decimal_field uid has).0
number_field (Group gid) has = (decimal_field gid has).0
number_field UserObj has = All-nil (λ byte. is_field_byte byte ≡ true)
number_field GroupObj has = All-nil (λ byte. is_field_byte byte ≡ true)
number_field Mask has = All-nil (λ byte. is_field_byte byte ≡ true)
number_field Other has = All-nil (λ byte. is_field_byte byte ≡ true)

module _ (entry : EntryValue) (has : HasId entry.tag) where
  abbrev behind : List (List ℕ)
  behind = number_text entry.tag ∷ perms_text entry.perms ∷ []

  fields_are : AllByRecursion IsField (word_text entry.tag ∷ behind)
  fields_are = (word_field entry.tag, (number_field entry.tag has, (perms_field entry.perms, tt)))

  pub entry_piece : IsPlainPiece (entry_text entry)
  entry_piece = (omega (arith, length-append (word_text entry.tag) (colon ∷ join_with_byte colon behind)), joined_plain (word_text entry.tag) behind fields_are)

  entry_lacks : LacksNewline (entry_text entry)
  entry_lacks = plain_lacks_newline (entry_text entry) entry_piece.1

  pub entry_line : IsOneLine (entry_text entry)
  entry_line = record { some = entry_piece.0; lacks = entry_lacks }

  pub behind_word : IsOneLine (default_line entry)
  behind_word = word_line default_word (entry_text entry) (omega arith) (lacking default_word refl) entry_lacks

abbrev EntryHasId : EntryValue → Type 0
EntryHasId entry = HasId entry.tag

pub each_line : (line : EntryValue → List ℕ) → ((entry : EntryValue) → HasId entry.tag → IsOneLine (line entry)) → (entries : List EntryValue) → HaveIds entries
    → All IsOneLine (map line entries)
each_line line one [] have = All-nil IsOneLine
each_line line one (entry ∷ entries) have =
    All-cons IsOneLine (line entry) (map line entries) (one entry (All-head EntryHasId entry entries have)) (each_line line one entries (All-tail EntryHasId entry entries have))

each_default : (default : Option (List EntryValue)) → IsPrintableDefault default → All IsOneLine (default_lines default)
each_default None is = All-nil IsOneLine
each_default (Some default) is = each_line default_line behind_word default is.1

pub each_posix : (access : List EntryValue) (default : Option (List EntryValue)) → HaveIds access → IsPrintableDefault default → All IsOneLine (posix_lines access default)
each_posix access default have is = All-append IsOneLine (map entry_text access) (default_lines default) (each_line entry_text entry_line access have) (each_default default is)

-- ---- which of them are of which list

not_default : (tag : Tag) (text : List ℕ) → is_default (word_text tag ++ colon ∷ text) ≡ false
not_default UserObj text = refl
not_default (User uid) text = refl
not_default GroupObj text = refl
not_default (Group gid) text = refl
not_default Mask text = refl
not_default Other text = refl

abbrev fields_behind : EntryValue → List ℕ
fields_behind entry = join_with_byte colon (number_text entry.tag ∷ perms_text entry.perms ∷ [])

of_access : (entry : EntryValue) → is_default (entry_text entry) ≡ false
of_access entry = not_default entry.tag (fields_behind entry)

any_behind : (access : List EntryValue) (rest : List (List ℕ)) → list_any is_default (map entry_text access ++ rest) ≡ list_any is_default rest
any_behind [] rest = refl
any_behind (entry ∷ access) rest = ap (λ b. b || list_any is_default (map entry_text access ++ rest)) (of_access entry) ∙ any_behind access rest

access_kept : (access : List EntryValue) (rest : List (List ℕ)) → filter_map (line_of Access) (map entry_text access ++ rest) ≡ map entry_text access ++ filter_map (line_of Access) rest
access_kept [] rest = refl
access_kept (entry ∷ access) rest = ap₂ (λ b more. cons_option (cond b None (Some (entry_text entry))) more) (of_access entry) (access_kept access rest)

access_left_out : (access : List EntryValue) (rest : List (List ℕ)) → filter_map (line_of Default) (map entry_text access ++ rest) ≡ filter_map (line_of Default) rest
access_left_out [] rest = refl
access_left_out (entry ∷ access) rest =
    ap₂ (λ b more. cons_option (cond b (Some (drop 8 (entry_text entry))) None) more) (of_access entry) (access_left_out access rest)

default_left_out : (default : List EntryValue) → filter_map (line_of Access) (map default_line default) ≡ []
default_left_out [] = refl
default_left_out (entry ∷ default) = default_left_out default

default_kept : (default : List EntryValue) → filter_map (line_of Default) (map default_line default) ≡ map entry_text default
default_kept [] = refl
default_kept (entry ∷ default) = ap (λ more. entry_text entry ∷ more) (default_kept default)

no_access_of : (default : Option (List EntryValue)) → filter_map (line_of Access) (default_lines default) ≡ []
no_access_of None = refl
no_access_of (Some default) = default_left_out default

-- ---- what they are read as

piece_alone : (piece : List ℕ) → IsPlainPiece piece → line_pieces piece ≡ piece ∷ []
piece_alone piece is =
    ap pieces_of_content (ap trim (before_no_hash piece (plain_lacks_hash piece is.1)) ∙ trim_same piece (plain_lacks_blanks piece is.1))
    ∙ one_piece piece is.0 is.1

pieces_are : (entries : List EntryValue) → HaveIds entries → flat_map line_pieces (map entry_text entries) ≡ map entry_text entries
pieces_are [] have = refl
pieces_are (entry ∷ entries) have =
    ap₂ (λ front more. front ++ more) (piece_alone (entry_text entry) (entry_piece entry (All-head EntryHasId entry entries have)))
    (pieces_are entries (All-tail EntryHasId entry entries have))

-- the text of a list alone
abbrev list_text : List EntryValue → List ℕ
list_text acl = joined (map entry_text acl)

list_pieces : (first : EntryValue) (more : List EntryValue) → HaveIds (first ∷ more) → pieces (list_text (first ∷ more)) ≡ map entry_text (first ∷ more)
list_pieces first more have =
    ap (flat_map line_pieces) (parts-joined (entry_text first) (map entry_text more) (each_line entry_text entry_line (first ∷ more) have))
    ∙ pieces_are (first ∷ more) have

word_again : (tag : Tag) → tag_word (word_text tag) ≡ Some (word_of tag)
unfolding word_of
word_again UserObj = refl
word_again _ = refl

with_resolved : (tag : ℕ → Tag) (id_of : List ℕ → Option ℕ) (id : ℕ) (written : Option Written)
    → (or_fault Malformed written >>= (λ w. or_fault Unknown (id_of_written id_of w))) ≡ Ok id
    → (or_fault Syntax written >>= (λ w. or_fault UnknownName (id_of_written id_of w) >>= (λ n. Ok (tag n)))) ≡ Ok (tag id)
with_resolved tag id_of id None is = cc
with_resolved tag id_of id (Some written) is = by (id_of_written id_of written) is
  where
    by : (found : Option ℕ) → or_fault Unknown found ≡ Ok id → (or_fault UnknownName found >>= (λ n. Ok (tag n))) ≡ Ok (tag id)
    by None is = cc
    by (Some n) is = let same : n ≡ id = cc in ap (λ n. Ok (tag n)) same

no_acl : IsAcl [] → ⊥
no_acl is = let one = is.valid.user_obj in cc

module _ (names : Names) (numbers : ReadNumbers names) where
  tag_again : (tag : Tag) → HasId tag → tag_by names (word_of tag) (Some (number_text tag)) ≡ Ok tag
  unfolding word_of
  tag_again UserObj has = refl
  tag_again GroupObj has = refl
  tag_again Mask has = refl
  tag_again Other has = refl
  tag_again (User uid) has =
      user_tag names (decimal uid) (decimal_field uid has).1 ∙ with_resolved (λ uid. User uid) names.uid uid (names.written (decimal uid)) (numbers.uids uid has)
  tag_again (Group gid) has =
      group_tag names (decimal gid) (decimal_field gid has).1 ∙ with_resolved (λ gid. Group gid) names.gid gid (names.written (decimal gid)) (numbers.gids gid has)

  entry_again : (entry : EntryValue) → HasId entry.tag → IsPermissions entry.perms → entry_by names (entry_text entry) ≡ Ok entry
  entry_again entry has allowed =
      let fields : Fields = record { tag = word_text entry.tag; qualifier = Some (number_text entry.tag); perms = perms_text entry.perms } in
      let cut : fields_of (entry_text entry) ≡ Some fields = ap as_fields
      (fields_again (word_text entry.tag) (number_text entry.tag ∷ perms_text entry.perms ∷ []) (fields_are entry has)) in
      read_parts names (entry_text entry) fields (word_of entry.tag) entry.perms entry.tag cut (word_again entry.tag) (perms_again entry.perms allowed) (tag_again entry.tag has)

  each_again : (entries : List EntryValue) → HaveIds entries → HavePermissions entries → PiecesSay (entry_by names) (map entry_text entries) entries
  each_again [] have allowed = refl
  each_again (entry ∷ entries) have allowed =
      ap₂ (λ (first : Result EntryValue PieceFault) more. first ∷ more)
      (entry_again entry (All-head EntryHasId entry entries have) (All-head (λ (e : EntryValue). IsPermissions e.perms) entry entries allowed))
      (each_again entries (All-tail EntryHasId entry entries have) (All-tail (λ (e : EntryValue). IsPermissions e.perms) entry entries allowed))

  -- a list, by its pieces
  acl_again : (acl : List EntryValue) → IsAcl acl → HaveIds acl → acl_by names (map entry_text acl) ≡ Ok acl
  acl_again [] is have = absurd (no_acl is)
  acl_again (first ∷ more) is have =
      let acl = first ∷ more in
      let texts = list_pieces first more have in
      let spelt : Spells (entry_by names) MAX_ENTRIES (list_text acl) acl = record { said = ap (map (entry_by names)) texts ∙ each_again acl have is.permissions; within = is.within } in
      ap (acl_by names) (sym texts)
      ∙ listed names (list_text acl) acl None spelt ((valid_iff acl).0 is.valid)
      ∙ ap Ok (in_order-acl acl acl is (IsPermutation-refl acl))

  -- the lists of a block whose lines are these
  module _ (list : List ℕ) (access : List EntryValue) (is : IsAcl access) (have : HaveIds access) where
    access_again : (default : Option (List EntryValue)) → parts newline list ≡ posix_lines access default → acl_by names (pieces_of Access list) ≡ Ok access
    access_again default lines =
        ap (λ those. acl_by names (flat_map line_pieces (filter_map (line_of Access) those))) lines
        ∙ ap (λ those. acl_by names (flat_map line_pieces those))
        (access_kept access (default_lines default) ∙ ap (λ more. map entry_text access ++ more) (no_access_of default) ∙ append-nil (map entry_text access))
        ∙ ap (acl_by names) (pieces_are access have)
        ∙ acl_again access is have

    default_again : (default : Option (List EntryValue)) → IsPrintableDefault default → parts newline list ≡ posix_lines access default → default_by names list ≡ Ok default
    default_again None printable lines =
        ap (λ b. cond b (if_there (acl_by names (pieces_of Default list))) (Ok None)) (ap (list_any is_default) lines ∙ any_behind access [])
    default_again (Some []) printable lines = absurd (no_acl printable.0)
    default_again (Some (first ∷ more)) printable lines =
        let default = first ∷ more in
        ap (λ b. cond b (if_there (acl_by names (pieces_of Default list))) (Ok None)) (ap (list_any is_default) lines ∙ any_behind access (map default_line default))
        ∙ ap (λ those. if_there (acl_by names (flat_map line_pieces (filter_map (line_of Default) those)))) lines
        ∙ ap (λ those. if_there (acl_by names (flat_map line_pieces those))) (access_left_out access (map default_line default) ∙ default_kept default)
        ∙ ap (λ those. if_there (acl_by names those)) (pieces_are default printable.1)
        ∙ ap if_there (acl_again default printable.0 printable.1)

    posix_again : (default : Option (List EntryValue)) → IsPrintableDefault default → parts newline list ≡ posix_lines access default
        → posix_by names list ≡ Ok (Posix access default)
    posix_again default printable lines =
        ap (λ found. found >>= (λ acl. default_by names list >>= (λ default. Ok (Posix acl default)))) (access_again default lines)
        ∙ ap (λ found. found >>= (λ default. Ok (Posix access default))) (default_again default printable lines)

  form_again : (list : List ℕ) (first : EntryValue) (rest : List (List ℕ)) → HasId first.tag → IsPermissions first.perms → parts newline list ≡ entry_text first ∷ rest
      → form_of list ≡ form.Posix
  form_again list first rest has allowed lines =
      ap (λ those. form_of_pieces (flat_map line_pieces those)) lines
      ∙ ap (λ front. form_of_pieces (front ++ flat_map line_pieces rest)) (piece_alone (entry_text first) (entry_piece first has))
      ∙ form_said names (entry_text first ∷ []) (first ∷ []) (ap (λ (said : Result EntryValue PieceFault). said ∷ []) (entry_again first has allowed))

  pub posix_lists_again : (first : EntryValue) (more : List EntryValue) (default : Option (List EntryValue)) → IsAcl (first ∷ more) → HaveIds (first ∷ more) → IsPrintableDefault default
      → lists_by names (joined (posix_lines (first ∷ more) default)) ≡ Ok (Posix (first ∷ more) default)
  posix_lists_again first more default is have printable =
      let access = first ∷ more in
      let list = joined (posix_lines access default) in
      let rest = map entry_text more ++ default_lines default in
      let lines : parts newline list ≡ posix_lines access default = parts-joined (entry_text first) rest (each_posix access default have printable) in
      ap (λ of. lists_in of names list)
      (form_again list first rest (All-head EntryHasId first more have) (All-head (λ (e : EntryValue). IsPermissions e.perms) first more is.permissions) lines)
      ∙ posix_again list access is have default printable lines

-- no line of them reports for flags
no_flags_line : (tag : Tag) (text : List ℕ) → after_prefix (codes "# flags: ") (word_text tag ++ colon ∷ text) ≡ None
no_flags_line UserObj text = refl
no_flags_line (User uid) text = refl
no_flags_line GroupObj text = refl
no_flags_line (Group gid) text = refl
no_flags_line Mask text = refl
no_flags_line Other text = refl

pub posix_flags_again : (first : EntryValue) (more : List EntryValue) (default : Option (List EntryValue)) → HasId first.tag
    → flags_by (joined (posix_lines (first ∷ more) default)) ≡ no_flags
posix_flags_again first more default has =
    ap (λ line. unwrap_or (option_and_then flags_in (after_prefix (codes "# flags: ") line)) no_flags)
    (first-joined (entry_text first) (map entry_text more ++ default_lines default) (entry_line first has).lacks)
    ∙ ap (λ found. unwrap_or (option_and_then flags_in found) no_flags) (no_flags_line first.tag (fields_behind first))
