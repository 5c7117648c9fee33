-- Files that are printed are read again.
use Rattle.std.proofs.Common.{◌≡◌, ℕ, ◌+◌, ◌<◌, ◌≤◌, ◌||◌, true, false, cond, not, List}
use Rattle.std.proofs.Common.{[], ◌∷◌, ◌++◌, length, map, Option, Some, None, Ok, codes, option_and_then, unwrap_or, ap}
use Rattle.std.proofs.Common.{ap₂, refl, sym, ◌∙◌, append_assoc, append-nil, length-append, arith, subst}
use Rattle.std.proofs.Common.{flat_map, le-leb}
use Rattle.std.specs.List.{All, join_with_byte, list_all, list_any}
use Rattle.std.proofs.lemmas.List.Elements.{All-append, All-cons, All-head, All-nil, All-tail}
use Rattle.std.proofs.lemmas.List.Splits.{slice_split_at, slice_split_none}
use Rattle.acl_names.specs.Bytes.{newline}
use Rattle.acl_names.specs.Directory.{Known, NamesReadBack, gid_of, group_name, uid_of, user_name}
use Rattle.acl_names.specs.Ids.{ReadBack, id_text, written_id}
use Rattle.acl_names.specs.Pieces.{parts, pieces}
use Rattle.acl_names.specs.Steps.{◌>>=◌, map_fault, or_fault}
use Rattle.acl_names.specs.declared.limits.TheConstants.{MAX_ID}
use Rattle.acl_names.proofs.Fields.{field_plain, id_field}
use Rattle.acl_names.proofs.IdTexts.{resolved_again}
use Rattle.acl_names.proofs.PlainLines.{mark_lacks_newline, plain_lacks_newline}
use Rattle.acl_posix.proofs.AclTextLemmas.{entries_of-spelt}
use Rattle.acl_posix.proofs.InOrderLemmas.{in_order-acl}
use Rattle.acl_posix.proofs.ValidityLemmas.{valid_iff}
use Rattle.acl_posix.specs.Validity.{fault_of}
use Rattle.std.proofs.lemmas.List.Sorted.{IsPermutation-refl}
use Rattle.std.proofs.lemmas.Grind.{flat_map-append}
use Rattle.std.proofs.lemmas.Bool.{and_parts, not-true}
use Rattle.acl_names.specs.Names.{names_of, resolved}
use Rattle.acl_posix.proofs.RoundTrip.{IsLine, line_is, text_spells}
use Rattle.acl_posix.specs.Canonical.{IsAcl}
use Rattle.acl_posix.specs.Entry.{EntryValue, perms_of}
use Rattle.acl_posix.specs.PrintedText.{HaveIds, HasId, effective_mark, effective_text, entry_text, qualifier_text, word_text}
use Rattle.acl_posix.specs.PermsText.{perms_text}
use Rattle.acl_posix.specs.declared.entry.Tag.{Tag}
use Rattle.acl_posix.specs.declared.entry.Tag.TheVariants.{UserObj, User, GroupObj, Group, Mask, Other}
use Rattle.acl_names.specs.Bytes.{colon}
use Rattle.acl_forms.specs.Forms.{form_of, form_of_pieces}
use Rattle.acl_forms.specs.declared.form.Form.TheVariants as form
use Rattle.acl_listings.specs.Access.{acl_by, default_by, if_there, list_of}
use Rattle.acl_listings.specs.BlockLists.{lists_by, lists_in}
use Rattle.acl_listings.specs.Block.{FileValue, file_of, owners_of, within_limit}
use Rattle.acl_listings.specs.FileFlags.{flags_by, flags_in, no_flags}
use Rattle.acl_listings.specs.Extent.{HasFullLines, newlines_in}
use Rattle.acl_listings.specs.Header.{Header, after_prefix, as_header, header_of, path_in}
use Rattle.acl_listings.specs.Lines.{after_line, first_line}
use Rattle.acl_listings.specs.ListLines.{is_default, pieces_of}
use Rattle.acl_listings.specs.Listing.{blocks_from}
use Rattle.acl_listings.specs.Printed.{ArePrintable, IsPrintable, block_text, line_text, listing_text}
use Rattle.acl_listings.specs.declared.fault.BlockFault.TheVariants.{TooLong, BadHeader, Acl}
use Rattle.acl_listings.specs.declared.limits.TheConstants.{MAX_BLOCK}
use Rattle.acl_listings.specs.declared.list_lines.ListKind.TheVariants.{Access, Default}
use Rattle.acl_listings.specs.declared.lists.Lists.{Lists}
use Rattle.acl_listings.specs.declared.lists.Lists.TheVariants.{Posix, Nfs4}
use Rattle.acl_listings.proofs.AccessLemmas.{ended, line_pieces, pieces-whole}
use Rattle.acl_listings.proofs.ExtentLemmas.{LacksNewline, full-append, full-line, is_newline}
use Rattle.acl_listings.proofs.FormLemmas.{form_said}
use Rattle.acl_listings.proofs.HandedLemmas.{from_lists, from_block, from_header, from_ids}
use Rattle.acl_listings.proofs.LineLemmas.{after-of, first-alone, first-of}
use Rattle.acl_listings.proofs.ListingLemmas.{blocks-empty_line, blocks-first, parts-append}

-- a line with a byte and without a newline
pub record IsOneLine (line : List ℕ) : Type 0 where
  pub some : 0 < length line
  pub lacks : LacksNewline line

abbrev pub joined : List (List ℕ) → List ℕ
joined lines = join_with_byte newline lines

-- lines that are joined, and the same lines each with its newline
pub ended-joined : (line : List ℕ) (lines : List (List ℕ)) → ended (line ∷ lines) ≡ joined (line ∷ lines) ++ newline ∷ []
ended-joined line [] = append-nil (line ++ newline ∷ [])
ended-joined line (next ∷ lines) =
    append_assoc line (newline ∷ []) (ended (next ∷ lines))
    ∙ ap (λ text. line ++ newline ∷ text) (ended-joined next lines)
    ∙ sym (append_assoc line (newline ∷ joined (next ∷ lines)) (newline ∷ []))

pub full-joined : (line : List ℕ) (lines : List (List ℕ)) → All IsOneLine (line ∷ lines) → HasFullLines (joined (line ∷ lines))
full-joined line [] each = let is = All-head IsOneLine line [] each in full-line line is.some is.lacks
full-joined line (next ∷ lines) each =
    let is = All-head IsOneLine line (next ∷ lines) each in
    full-append false line (newline ∷ joined (next ∷ lines)) (full-line line is.some is.lacks)
    ∙ full-joined next lines (All-tail IsOneLine line (next ∷ lines) each)

pub parts-joined : (line : List ℕ) (lines : List (List ℕ)) → All IsOneLine (line ∷ lines) → parts newline (joined (line ∷ lines)) ≡ line ∷ lines
parts-joined line [] each = slice_split_none is_newline line (All-head IsOneLine line [] each).lacks
parts-joined line (next ∷ lines) each =
    slice_split_at is_newline line newline (joined (next ∷ lines)) (All-head IsOneLine line (next ∷ lines) each).lacks refl
    ∙ ap (λ more. line ∷ more) (parts-joined next lines (All-tail IsOneLine line (next ∷ lines) each))

-- a newline at the end adds no piece
pub pieces-ended : (text : List ℕ) → pieces (text ++ newline ∷ []) ≡ pieces text
pieces-ended text =
    ap (flat_map line_pieces) (parts-append newline text []) ∙ flat_map-append line_pieces (parts newline text) ([] ∷ []) ∙ append-nil (pieces text)

-- the lines of entries

abbrev entry_line : Known → Option ℕ → EntryValue → List ℕ
entry_line known mask entry = entry_text known entry ++ effective_mark mask entry

effective_lines : (known : Known) (mask : Option ℕ) (entries : List EntryValue) → effective_text known mask entries ≡ ended (map (entry_line known mask) entries)
effective_lines known mask [] = refl
effective_lines known mask (entry ∷ entries) =
    ap₂ (λ line more. line ++ more) (sym (append_assoc (entry_text known entry) (effective_mark mask entry) (newline ∷ []))) (effective_lines known mask entries)

one_line : (known : Known) (mask : Option ℕ) (entry : EntryValue) → NamesReadBack known → HasId entry.tag → IsOneLine (entry_line known mask entry)
one_line known mask entry names has =
    let is : IsLine known mask entry = line_is known mask entry names has in
    record {
      some = omega (arith, is.0, length-append (entry_text known entry) (effective_mark mask entry));
      lacks = All-append (λ x. is_newline x ≡ false) (entry_text known entry) (effective_mark mask entry)
          (plain_lacks_newline (entry_text known entry) is.1) (mark_lacks_newline (effective_mark mask entry) is.2);
    }

entry_lines : (known : Known) (mask : Option ℕ) (entries : List EntryValue) → NamesReadBack known → HaveIds entries → All IsOneLine (map (entry_line known mask) entries)
entry_lines known mask [] names ids = All-nil IsOneLine
entry_lines known mask (entry ∷ entries) names ids =
    All-cons IsOneLine (entry_line known mask entry) (map (entry_line known mask) entries)
    (one_line known mask entry names (All-head (λ (e : EntryValue). HasId e.tag) entry entries ids))
    (entry_lines known mask entries names (All-tail (λ (e : EntryValue). HasId e.tag) entry entries ids))

-- what holds of each text that begins with the first byte of a tag's word holds of its line
of_line : {X : Type 0} (test : List ℕ → X) (found : X) → ((rest : List ℕ) → test (117 ∷ rest) ≡ found) → ((rest : List ℕ) → test (103 ∷ rest) ≡ found)
    → ((rest : List ℕ) → test (109 ∷ rest) ≡ found) → ((rest : List ℕ) → test (111 ∷ rest) ≡ found)
    → (tag : Tag) (fields : List (List ℕ)) (more : List ℕ) → test (join_with_byte colon (word_text tag ∷ fields) ++ more) ≡ found
of_line test found user group mask other UserObj [] more = user _
of_line test found user group mask other UserObj (field ∷ fields) more = user _
of_line test found user group mask other (User uid) [] more = user _
of_line test found user group mask other (User uid) (field ∷ fields) more = user _
of_line test found user group mask other GroupObj [] more = group _
of_line test found user group mask other GroupObj (field ∷ fields) more = group _
of_line test found user group mask other (Group gid) [] more = group _
of_line test found user group mask other (Group gid) (field ∷ fields) more = group _
of_line test found user group mask other Mask [] more = mask _
of_line test found user group mask other Mask (field ∷ fields) more = mask _
of_line test found user group mask other Other [] more = other _
of_line test found user group mask other Other (field ∷ fields) more = other _

-- none of them is one of a default list
no_default : (tag : Tag) (fields : List (List ℕ)) (more : List ℕ) → is_default (join_with_byte colon (word_text tag ∷ fields) ++ more) ≡ false
no_default = of_line is_default false (λ rest. refl) (λ rest. refl) (λ rest. refl) (λ rest. refl)

no_default_line : (known : Known) (mask : Option ℕ) (entries : List EntryValue) → list_any is_default (map (entry_line known mask) entries) ≡ false
no_default_line known mask [] = refl
no_default_line known mask (entry ∷ entries) =
    ap (λ b. b || list_any is_default (map (entry_line known mask) entries))
    (no_default entry.tag (qualifier_text known entry.tag ∷ perms_text entry.perms ∷ []) (effective_mark mask entry))
    ∙ no_default_line known mask entries

-- the lists of a block
lists_again : (known : Known) (mask : Option ℕ) (first : EntryValue) (more : List EntryValue) → NamesReadBack known → IsAcl (first ∷ more) → HaveIds (first ∷ more)
    → lists_by (names_of known) (joined (map (entry_line known mask) (first ∷ more))) ≡ Ok (Posix (first ∷ more) None)
lists_again known mask first more names is ids =
    let acl = first ∷ more in
    let lines = map (entry_line known mask) more in
    let list = joined (entry_line known mask first ∷ lines) in
    let each : All IsOneLine (entry_line known mask first ∷ lines) = entry_lines known mask acl names ids in
    let none : list_any is_default (parts newline list) ≡ false = ap (list_any is_default) (parts-joined (entry_line known mask first) lines each) ∙ no_default_line known mask acl in
    let same : pieces list ≡ pieces (effective_text known mask acl) =
    sym (pieces-ended list) ∙ ap pieces (sym (effective_lines known mask acl ∙ ended-joined (entry_line known mask first) lines)) in
    let same_pieces : pieces_of Access list ≡ pieces (effective_text known mask acl) = sym (pieces-whole list none) ∙ same in
    let spelt = text_spells known mask acl names ids is.permissions is.within in
    let access : acl_by (names_of known) (pieces_of Access list) ≡ Ok acl =
    ap (acl_by (names_of known)) same_pieces
    ∙ ap (λ found. map_fault (λ fault. Acl fault) found >>= (λ entries. list_of (fault_of entries) entries))
    (entries_of-spelt (names_of known) (effective_text known mask acl) acl spelt)
    ∙ ap (λ fault. list_of fault acl) ((valid_iff acl).0 is.valid)
    ∙ ap Ok (in_order-acl acl acl is (IsPermutation-refl acl)) in
    let form : form_of list ≡ form.Posix = ap form_of_pieces same ∙ form_said (names_of known) (pieces (effective_text known mask acl)) acl spelt.said in
    ap (λ of. lists_in of (names_of known) list) form
    ∙ ap (λ found. found >>= (λ acl. default_by (names_of known) list >>= (λ default. Ok (Posix acl default)))) access
    ∙ ap (λ b. cond b (if_there (acl_by (names_of known) (pieces_of Default list))) (Ok None) >>= (λ default. Ok (Posix acl default))) none

-- and no line of it reports for flags
no_flags_line : (tag : Tag) (fields : List (List ℕ)) (more : List ℕ) → after_prefix (codes "# flags: ") (join_with_byte colon (word_text tag ∷ fields) ++ more) ≡ None
no_flags_line = of_line (after_prefix (codes "# flags: ")) None (λ rest. refl) (λ rest. refl) (λ rest. refl) (λ rest. refl)

pub first-joined : (line : List ℕ) (lines : List (List ℕ)) → LacksNewline line → first_line (joined (line ∷ lines)) ≡ line
first-joined line [] lacks = first-alone line lacks
first-joined line (next ∷ lines) lacks = first-of line (joined (next ∷ lines)) lacks

flags_again : (known : Known) (mask : Option ℕ) (first : EntryValue) (more : List EntryValue) → NamesReadBack known → HaveIds (first ∷ more)
    → flags_by (joined (map (entry_line known mask) (first ∷ more))) ≡ no_flags
flags_again known mask first more names ids =
    let lacks = (All-head IsOneLine (entry_line known mask first) (map (entry_line known mask) more) (entry_lines known mask (first ∷ more) names ids)).lacks in
    ap (λ line. unwrap_or (option_and_then flags_in (after_prefix (codes "# flags: ") line)) no_flags) (first-joined (entry_line known mask first) (map (entry_line known mask) more) lacks)
    ∙ ap (λ found. unwrap_or (option_and_then flags_in found) no_flags)
    (no_flags_line first.tag (qualifier_text known first.tag ∷ perms_text first.perms ∷ []) (effective_mark mask first))

-- the header of a block

abbrev pub file_word : List ℕ
file_word = codes "# file: "

abbrev pub owner_word : List ℕ
owner_word = codes "# owner: "

abbrev pub group_word : List ℕ
group_word = codes "# group: "

pub path_again : (path : List ℕ) → 0 < length path → path_in (file_word ++ path) ≡ Some path
path_again [] some = absurd (omega arith)
path_again (byte ∷ bytes) some = refl

-- three lines, and a list behind them
abbrev pub headed : List ℕ → List ℕ → List ℕ → List ℕ → List ℕ
headed first second third list = first ++ newline ∷ (second ++ newline ∷ (third ++ newline ∷ list))

pub header-headed : (first second third list : List ℕ) → LacksNewline first → LacksNewline second → LacksNewline third
    → header_of (headed first second third list) ≡ as_header (path_in first) (after_prefix owner_word second) (after_prefix group_word third) list
header-headed first second third list one two three =
    let rest = third ++ newline ∷ list in
    let behind = second ++ newline ∷ rest in
    let text = first ++ newline ∷ behind in
    ap (λ line. as_header (path_in line) (after_prefix owner_word (first_line (after_line text)))
    (after_prefix group_word (first_line (after_line (after_line text))))
    (after_line (after_line (after_line text)))) (first-of first behind one)
    ∙ ap (λ more. as_header (path_in first) (after_prefix owner_word (first_line more)) (after_prefix group_word (first_line (after_line more))) (after_line (after_line more))) (after-of first behind one)
    ∙ ap (λ line. as_header (path_in first) (after_prefix owner_word line) (after_prefix group_word (first_line (after_line behind))) (after_line (after_line behind))) (first-of second rest two)
    ∙ ap (λ more. as_header (path_in first) (after_prefix owner_word second) (after_prefix group_word (first_line more)) (after_line more)) (after-of second rest two)
    ∙ ap (λ line. as_header (path_in first) (after_prefix owner_word second) (after_prefix group_word line) (after_line rest)) (first-of third list three)
    ∙ ap (λ more. as_header (path_in first) (after_prefix owner_word second) (after_prefix group_word third) more) (after-of third list three)

-- a test that computes
pub lacking : (text : List ℕ) → list_all (λ x. not (is_newline x)) text ≡ true → LacksNewline text
lacking [] e = All-nil (λ x. is_newline x ≡ false)
lacking (byte ∷ bytes) e =
    let both = and_parts (not (is_newline byte)) (list_all (λ x. not (is_newline x)) bytes) e in
    All-cons (λ x. is_newline x ≡ false) byte bytes (not-true (is_newline byte) both.0) (lacking bytes both.1)

pub word_line : (word text : List ℕ) → 0 < length word → LacksNewline word → LacksNewline text → IsOneLine (word ++ text)
word_line word text some lacks more = record {
  some = omega (arith, some, length-append word text);
  lacks = All-append (λ x. is_newline x ≡ false) word text lacks more;
}

id_line : (word : List ℕ) (id_of_name : List ℕ → Option ℕ) (name_of : ℕ → Option (List ℕ)) (id : ℕ) → 0 < length word → LacksNewline word → ReadBack id_of_name name_of → id ≤ MAX_ID
    → IsOneLine (word ++ id_text name_of id)
id_line word id_of_name name_of id some lacks back small =
    word_line word (id_text name_of id) some lacks (plain_lacks_newline (id_text name_of id) (field_plain (id_text name_of id) (id_field id_of_name name_of id back small).0))

-- a file's block, without the newline of its last line and the empty line
record IsBlockOf (known : Known) (file : FileValue) : Type 0 where
  pub block : List ℕ
  pub cut : block_text known file ≡ block ++ newline ∷ newline ∷ []
  pub full : HasFullLines block
  pub says : file_of known block ≡ Ok file

regrouped : (one text two more three last list rest : List ℕ) → line_text one text ++ (line_text two more ++ (line_text three last ++ (list ++ rest)))
    ≡ (((one ++ text) ++ newline ∷ []) ++ (((two ++ more) ++ newline ∷ []) ++ (((three ++ last) ++ newline ∷ []) ++ list))) ++ rest
regrouped one text two more three last list rest = simp append_assoc

module _ (known : Known) (names : NamesReadBack known) (path : List ℕ) (owner group : ℕ) (first : EntryValue) (more : List EntryValue) where
  abbrev file : FileValue
  file = record { path = path; owner = owner; group = group; flags = no_flags; lists = Posix (first ∷ more) None }

  abbrev mask : Option ℕ
  mask = perms_of Mask (first ∷ more)

  abbrev file_line : List ℕ
  file_line = file_word ++ path

  abbrev owner_line : List ℕ
  owner_line = owner_word ++ id_text (user_name known) owner

  abbrev group_line : List ℕ
  group_line = group_word ++ id_text (group_name known) group

  abbrev list_lines : List (List ℕ)
  list_lines = map (entry_line known mask) (first ∷ more)

  abbrev body : List ℕ
  body = headed file_line owner_line group_line (joined list_lines)

  printed_cut : block_text known file ≡ body ++ newline ∷ newline ∷ []
  printed_cut =
      regrouped file_word path owner_word (id_text (user_name known) owner) group_word (id_text (group_name known) group) (effective_text known mask (first ∷ more)) (newline ∷ [])
      ∙ ap (λ list. ((file_line ++ newline ∷ []) ++ ((owner_line ++ newline ∷ []) ++ ((group_line ++ newline ∷ []) ++ list))) ++ newline ∷ []) (effective_lines known mask (first ∷ more))
      ∙ ap (λ text. text ++ newline ∷ []) (ended-joined file_line (owner_line ∷ group_line ∷ list_lines))
      ∙ append_assoc body (newline ∷ []) (newline ∷ [])

  module _ (is : IsPrintable known file) where
    file_is : IsOneLine file_line
    file_is = word_line file_word path (omega arith) (lacking file_word refl) is.one_line

    owner_is : IsOneLine owner_line
    owner_is = id_line owner_word (uid_of known) (user_name known) owner (omega arith) (lacking owner_word refl) names.users is.owner

    group_is : IsOneLine group_line
    group_is = id_line group_word (gid_of known) (group_name known) group (omega arith) (lacking group_word refl) names.groups is.group

    each_is : All IsOneLine (file_line ∷ owner_line ∷ group_line ∷ list_lines)
    each_is =
        All-cons IsOneLine file_line (owner_line ∷ group_line ∷ list_lines) file_is
        (All-cons IsOneLine owner_line (group_line ∷ list_lines) owner_is
        (All-cons IsOneLine group_line list_lines group_is (entry_lines known mask (first ∷ more) names is.lists.1)))

    within : within_limit body ≡ Some body
    within =
        let two : length (newline ∷ newline ∷ []) ≡ 2 = refl in
        let short : length body ≤ MAX_BLOCK = omega (arith, is.short, ap length printed_cut, length-append body (newline ∷ newline ∷ []), two) in
        ap (λ b. cond b (Some body) None) (le-leb (length body) MAX_BLOCK short)

    owner_again : resolved written_id (uid_of known) (id_text (user_name known) owner) ≡ Ok owner
    owner_again = resolved_again (uid_of known) (user_name known) owner names.users is.owner

    group_again : resolved written_id (gid_of known) (id_text (group_name known) group) ≡ Ok group
    group_again = resolved_again (gid_of known) (group_name known) group names.groups is.group

    abbrev header : Header
    header = record { path = path; owner = id_text (user_name known) owner; group = id_text (group_name known) group; list = joined list_lines }

    header_is : header_of body ≡ Some header
    header_is =
        header-headed file_line owner_line group_line (joined list_lines) file_is.lacks owner_is.lacks group_is.lacks
        ∙ ap (λ p. as_header p (Some (id_text (user_name known) owner)) (Some (id_text (group_name known) group)) (joined list_lines)) (path_again path is.path)

    printed_says : file_of known body ≡ Ok file
    printed_says =
        ap (λ limited. or_fault TooLong limited >>= from_block (names_of known)) within
        ∙ ap (λ found. or_fault BadHeader found >>= from_header (names_of known)) header_is
        ∙ ap₂ (λ o g. owners_of o g >>= from_ids (names_of known) header) owner_again group_again
        ∙ ap (λ lists. lists >>= from_lists header (owner, group)) (lists_again known mask first more names is.lists.0 is.lists.1)
        ∙ ap (λ flags. Ok (record file { flags = flags })) (flags_again known mask first more names is.lists.1)

    printed_block : IsBlockOf known file
    printed_block = record { block = body; cut = printed_cut; full = full-joined file_line (owner_line ∷ group_line ∷ list_lines) each_is; says = printed_says }

no_acl : IsAcl [] → ⊥
no_acl is = let one = is.valid.user_obj in cc

block_of_file : (known : Known) → NamesReadBack known → (file : FileValue) → IsPrintable known file → IsBlockOf known file
block_of_file known names file is = by_lists file.lists refl (is.lists)
  where
    by_lists : (lists : Lists) → file.lists ≡ lists → ArePrintable lists → IsBlockOf known file
    by_lists (Posix [] None) none are = absurd (no_acl are.0)
    by_lists (Posix (first ∷ more) None) some are =
        let printed : FileValue = record { path = file.path; owner = file.owner; group = file.group; flags = no_flags; lists = Posix (first ∷ more) None } in
        let same : file ≡ printed = ap₂ (λ flags lists. record file { flags = flags; lists = lists }) is.flags some in
        subst (IsBlockOf known) (sym same) (printed_block known names file.path file.owner file.group first more (subst (IsPrintable known) same is))
    by_lists (Posix access (Some default)) some are = absurd are
    by_lists (Nfs4 acl) some are = absurd are

pub files_again : (known : Known) → NamesReadBack known → (number : ℕ) (files : List FileValue) → All (IsPrintable known) files
    → map (λ block. file_of known block.text) (blocks_from number (listing_text known files)) ≡ map Ok files
files_again known names number [] each = refl
files_again known names number (file ∷ files) each =
    let is = block_of_file known names file (All-head (IsPrintable known) file files each) in
    let rest = listing_text known files in
    let next = number + newlines_in is.block + 1 + 1 in
    ap (λ text. map (λ block. file_of known block.text) (blocks_from number text))
    (ap (λ text. text ++ rest) is.cut ∙ append_assoc is.block (newline ∷ newline ∷ []) rest)
    ∙ ap (map (λ block. file_of known block.text)) (blocks-first number is.block is.full (newline ∷ newline ∷ rest) (refl, refl))
    ∙ ap (λ blocks. file_of known is.block ∷ map (λ block. file_of known block.text) blocks)
    (blocks-empty_line (number + newlines_in is.block) (newline ∷ rest) ∙ blocks-empty_line (number + newlines_in is.block + 1) rest)
    ∙ ap₂ (λ read more. read ∷ more) is.says (files_again known names next files (All-tail (IsPrintable known) file files each))
