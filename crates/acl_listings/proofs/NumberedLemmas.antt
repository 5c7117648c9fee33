-- Files that are printed with their ids in decimal are read again, whoever there is.
use Rattle.std.proofs.Common.{◌≡◌, ◌∙◌, ℕ, ◌+◌, ◌*◌, ◌<◌, ◌≤◌, ◌==◌, Bool, true, false, cond, not, List, [], ◌∷◌, ◌++◌, Option, Some, None, Result, Ok, Err, All, ap, ap₂, append_assoc, arith, bit_and, codes, decimal, filter, length, length-append, map, option_and_then, refl, sym, le-leb}
use Rattle.std.proofs.lemmas.Fmt.{length-decimal-le}
use Rattle.std.proofs.lemmas.Grind.{flat_map-append}
use Rattle.std.proofs.lemmas.List.Elements.{All-cons, All-head, All-nil, All-tail}
use Rattle.acl_names.specs.Bytes.{colon, newline}
use Rattle.acl_names.specs.Letters.{letters_text}
use Rattle.acl_names.specs.Ids.{id_of_written, written_id}
use Rattle.acl_names.specs.Names.{Names, resolved}
use Rattle.acl_names.specs.ReadList.{at_most_read}
use Rattle.acl_names.specs.Steps.{◌>>=◌, or_fault}
use Rattle.acl_names.specs.declared.directory.resolve.NameFault.TheVariants.{Malformed, Unknown}
use Rattle.acl_names.specs.declared.limits.TheConstants.{MAX_ID}
use Rattle.acl_names.specs.declared.text.letters.Letter.{Letter}
use Rattle.acl_names.proofs.DecimalIds.{decimal_field}
use Rattle.acl_names.proofs.Fields.{field_plain}
use Rattle.acl_names.proofs.IdTexts.{written_decimal}
use Rattle.acl_names.proofs.PlainLines.{plain_lacks_newline}
use Rattle.acl_posix.specs.Canonical.{IsAcl}
use Rattle.acl_posix.specs.Entry.{EntryValue}
use Rattle.acl_posix.specs.PermsText.{perms_text}
use Rattle.acl_posix.specs.PrintedText.{HasId, HaveIds, number_text, word_text}
use Rattle.acl_posix.specs.declared.entry.Tag.{Tag}
use Rattle.acl_posix.specs.declared.entry.Tag.TheVariants.{UserObj, User, GroupObj, Group, Mask, Other}
use Rattle.acl_nfs4.specs.Ace.{Nfsace4}
use Rattle.acl_nfs4.specs.Letters.{flag_table, mask_table}
use Rattle.acl_nfs4.specs.NamedAces.{ReadNumbers}
use Rattle.acl_nfs4.specs.PrintedText as nfs4
use Rattle.acl_nfs4.specs.PrintedText.{short_ace, short_who, type_text}
use Rattle.acl_nfs4.specs.Who as one
use Rattle.acl_nfs4.specs.declared.ace.AceType.{AceType}
use Rattle.acl_nfs4.specs.declared.ace.AceType.TheVariants.{Allow, Deny, Audit, Alarm}
use Rattle.acl_nfs4.specs.declared.who.Who.{Who}
use Rattle.acl_nfs4.specs.declared.who.Who.TheVariants as who
use Rattle.acl_listings.specs.Block.{FileValue, file_by, owners_of, path_of, within_limit}
use Rattle.acl_listings.specs.BlockLists.{lists_by}
use Rattle.acl_listings.specs.Extent.{HasFullLines, newlines_in}
use Rattle.acl_listings.specs.FileFlags.{flags_by, no_flags}
use Rattle.acl_listings.specs.Header.{Header, after_prefix, as_header, header_of, path_in}
use Rattle.acl_listings.specs.Lines.{after_line, first_line}
use Rattle.acl_listings.specs.Listing.{blocks_from}
use Rattle.acl_listings.specs.Nfs4Block.{aces_lines}
use Rattle.acl_listings.specs.Numbered.{ArePrintable, IsPrintable, IsPrintableDefault, default_text, entries_text, entry_text, file_text, files_text, header_text, lists_text, said_of, said_with}
use Rattle.acl_listings.specs.Printed.{line_text}
use Rattle.acl_listings.specs.declared.fault.BlockFault.{BlockFault}
use Rattle.acl_listings.specs.declared.fault.BlockFault.TheVariants.{BadHeader, InvalidAcl, TooLong}
use Rattle.acl_listings.specs.declared.limits.TheConstants.{MAX_BLOCK}
use Rattle.acl_listings.specs.declared.lists.Lists.{Lists}
use Rattle.acl_listings.specs.declared.lists.Lists.TheVariants.{Posix, Nfs4}
use Rattle.acl_listings.specs.declared.rule.Rule.TheVariants.{NoOwner}
use Rattle.acl_listings.proofs.AccessLemmas.{ended}
use Rattle.acl_listings.proofs.AceForms.{nfs4_form}
use Rattle.acl_listings.proofs.ExtentLemmas.{LacksNewline}
use Rattle.acl_listings.proofs.HandedLemmas.{from_block, from_header, from_ids}
use Rattle.acl_listings.proofs.LineLemmas.{after-alone, after-of, first-alone, first-of}
use Rattle.acl_listings.proofs.ListingLemmas.{blocks-empty_line, blocks-first}
use Rattle.acl_listings.proofs.Nfs4Lemmas as block
use Rattle.acl_listings.proofs.NumberedEntries.{access_ended, default_ended, default_lines, each_posix, posix_flags_again, posix_lines, posix_lists_again}
use Rattle.acl_listings.proofs.PrintedLemmas.{IsOneLine, ended-joined, file_word, full-joined, group_word, header-headed, joined, lacking, owner_word, path_again, word_line}

-- ---- the lines of lists

abbrev list_lines : Lists → List (List ℕ)
list_lines (Posix access default) = posix_lines access default
list_lines (Nfs4 aces) = map short_ace aces

aces_ended : (aces : List Nfsace4) → aces_lines short_ace aces ≡ ended (map short_ace aces)
aces_ended [] = refl
aces_ended (ace ∷ aces) = ap (λ rest. (short_ace ace ++ newline ∷ []) ++ rest) (aces_ended aces)

lists_ended : (lists : Lists) → lists_text lists ≡ ended (list_lines lists)
lists_ended (Posix access default) =
    ap₂ (λ front back. front ++ back) (access_ended access) (default_ended default)
    ∙ sym (flat_map-append (λ (line : List ℕ). line ++ newline ∷ []) (map entry_text access) (default_lines default))
lists_ended (Nfs4 aces) = aces_ended aces

abbrev AceHasId : Nfsace4 → Type 0
AceHasId ace = one.HasId ace.who

-- no lines say no list
no_lists : (names : Names) → lists_by names [] ≡ Err (InvalidAcl NoOwner)
unfolding at_most_read
no_lists names = refl

module _ (names : Names) (numbers : ReadNumbers names) where
  each_ace : (aces : List Nfsace4) → nfs4.HaveIds aces → All IsOneLine (map short_ace aces)
  each_ace [] have = All-nil IsOneLine
  each_ace (ace ∷ aces) have =
      let piece = (nfs4_form names numbers).piece ace (All-head AceHasId ace aces have) in
      All-cons IsOneLine (short_ace ace) (map short_ace aces) (record { some = piece.0; lacks = plain_lacks_newline (short_ace ace) piece.1 })
      (each_ace aces (All-tail AceHasId ace aces have))

  each_of_lists : (lists : Lists) → ArePrintable lists → All IsOneLine (list_lines lists)
  each_of_lists (Posix access default) are = each_posix access default are.1 are.2
  each_of_lists (Nfs4 aces) are = each_ace aces are.1

  -- ---- what they are read as

  no_acl : IsAcl [] → ⊥
  no_acl is = let one = is.valid.user_obj in cc

  module _ (file : FileValue) (flagless : file.flags ≡ no_flags) where
    abbrev read_from : List ℕ → Result FileValue BlockFault
    read_from list = lists_by names list >>= (λ lists. Ok (record file { flags = flags_by list; lists = lists }))

    said_again : (list : List ℕ) (lists : Lists) → file.lists ≡ lists → lists_by names list ≡ Ok lists → flags_by list ≡ no_flags → read_from list ≡ Ok file
    said_again list lists same read none =
        ap (λ found. found >>= (λ lists. Ok (record file { flags = flags_by list; lists = lists }))) read
        ∙ ap₂ (λ flags lists. Ok (record file { flags = flags; lists = lists })) (none ∙ sym flagless) (sym same)

    lists_again : (lists : Lists) → file.lists ≡ lists → ArePrintable lists → read_from (joined (list_lines lists)) ≡ said_with file lists
    lists_again (Posix [] default) same are = absurd (no_acl are.0)
    lists_again (Posix (first ∷ more) default) same are =
        said_again (joined (posix_lines (first ∷ more) default)) (Posix (first ∷ more) default) same
        (posix_lists_again names numbers first more default are.0 are.1 are.2)
        (posix_flags_again first more default (All-head (λ (e : EntryValue). HasId e.tag) first more are.1))
    lists_again (Nfs4 []) same are = ap (λ found. found >>= (λ lists. Ok (record file { flags = flags_by []; lists = lists }))) (no_lists names)
    lists_again (Nfs4 (first ∷ more)) same are =
        let form = nfs4_form names numbers in
        said_again (joined (map short_ace (first ∷ more))) (Nfs4 (first ∷ more)) same
        (block.lists_again names short_ace form first more are.0 are.1 [] false refl)
        (block.flags_again names short_ace form first more are.0 are.1 [] false refl)

  -- ---- a file's block

  -- without the newline of its last line and the empty line
  record IsBlockOf (file : FileValue) : Type 0 where
    pub block : List ℕ
    pub cut : file_text file ≡ block ++ newline ∷ newline ∷ []
    pub full : HasFullLines block
    pub says : file_by names block ≡ said_of file
    pub path : path_of block ≡ Some file.path

  number_line : (word : List ℕ) (id : ℕ) → 0 < length word → LacksNewline word → id ≤ MAX_ID → IsOneLine (word ++ decimal id)
  number_line word id some lacks small = word_line word (decimal id) some lacks (plain_lacks_newline (decimal id) (field_plain (decimal id) (decimal_field id small).0))

  -- three lines and what is behind them
  header-three : (first second third : List ℕ) (lines : List (List ℕ)) → LacksNewline first → LacksNewline second → LacksNewline third
      → header_of (joined (first ∷ second ∷ third ∷ lines)) ≡ as_header (path_in first) (after_prefix owner_word second) (after_prefix group_word third) (joined lines)
  header-three first second third (line ∷ lines) one two three = header-headed first second third (joined (line ∷ lines)) one two three
  header-three first second third [] one two three =
      let behind = second ++ newline ∷ third in
      let text = first ++ newline ∷ behind in
      ap₂ (λ line rest. as_header (path_in line) (after_prefix owner_word (first_line rest)) (after_prefix group_word (first_line (after_line rest))) (after_line (after_line rest)))
      (first-of first behind one) (after-of first behind one)
      ∙ ap₂ (λ line rest. as_header (path_in first) (after_prefix owner_word line) (after_prefix group_word (first_line rest)) (after_line rest)) (first-of second third two) (after-of second third two)
      ∙ ap₂ (λ line rest. as_header (path_in first) (after_prefix owner_word second) (after_prefix group_word line) rest) (first-alone third three) (after-alone third three)

  regrouped : (one text two more three last list rest : List ℕ) → (line_text one text ++ (line_text two more ++ line_text three last)) ++ (list ++ rest)
      ≡ (((one ++ text) ++ newline ∷ []) ++ (((two ++ more) ++ newline ∷ []) ++ (((three ++ last) ++ newline ∷ []) ++ list))) ++ rest
  regrouped one text two more three last list rest = simp append_assoc

  module _ (file : FileValue) (is : IsPrintable file) where
    abbrev file_line : List ℕ
    file_line = file_word ++ file.path

    abbrev owner_line : List ℕ
    owner_line = owner_word ++ decimal file.owner

    abbrev group_line : List ℕ
    group_line = group_word ++ decimal file.group

    abbrev body_lines : List (List ℕ)
    body_lines = owner_line ∷ group_line ∷ list_lines file.lists

    abbrev body : List ℕ
    body = joined (file_line ∷ body_lines)

    body_cut : file_text file ≡ body ++ newline ∷ newline ∷ []
    body_cut =
        regrouped file_word file.path owner_word (decimal file.owner) group_word (decimal file.group) (lists_text file.lists) (newline ∷ [])
        ∙ ap (λ list. ((file_line ++ newline ∷ []) ++ ((owner_line ++ newline ∷ []) ++ ((group_line ++ newline ∷ []) ++ list))) ++ newline ∷ []) (lists_ended file.lists)
        ∙ ap (λ text. text ++ newline ∷ []) (ended-joined file_line body_lines)
        ∙ append_assoc body (newline ∷ []) (newline ∷ [])

    file_is : IsOneLine file_line
    file_is = word_line file_word file.path (omega arith) (lacking file_word refl) is.one_line

    owner_is : IsOneLine owner_line
    owner_is = number_line owner_word file.owner (omega arith) (lacking owner_word refl) is.owner

    group_is : IsOneLine group_line
    group_is = number_line group_word file.group (omega arith) (lacking group_word refl) is.group

    each_is : All IsOneLine (file_line ∷ body_lines)
    each_is =
        All-cons IsOneLine file_line body_lines file_is
        (All-cons IsOneLine owner_line (group_line ∷ list_lines file.lists) owner_is
        (All-cons IsOneLine group_line (list_lines file.lists) group_is (each_of_lists file.lists is.lists)))

    short : length body ≤ MAX_BLOCK
    short =
        let two : length (newline ∷ newline ∷ []) ≡ 2 = refl in
        omega (arith, is.short, ap length body_cut, length-append body (newline ∷ newline ∷ []), two)

    within : within_limit body ≡ Some body
    within = ap (λ b. cond b (Some body) None) (le-leb (length body) MAX_BLOCK short)

    abbrev header : Header
    header = record { path = file.path; owner = decimal file.owner; group = decimal file.group; list = joined (list_lines file.lists) }

    header_is : header_of body ≡ Some header
    header_is =
        header-three file_line owner_line group_line (list_lines file.lists) file_is.lacks owner_is.lacks group_is.lacks
        ∙ ap (λ p. as_header p (Some (decimal file.owner)) (Some (decimal file.group)) (joined (list_lines file.lists))) (path_again file.path is.path)

    body_says : file_by names body ≡ said_of file
    body_says =
        ap (λ limited. or_fault TooLong limited >>= from_block names) within
        ∙ ap (λ found. or_fault BadHeader found >>= from_header names) header_is
        ∙ ap₂ (λ o g. owners_of o g >>= from_ids names header) (numbers.uids file.owner is.owner) (numbers.gids file.group is.group)
        ∙ lists_again file is.flags file.lists refl is.lists

    body_path : path_of body ≡ Some file.path
    body_path =
        let few : length file_line ≤ MAX_BLOCK = omega (arith, short, length-append file_line (newline ∷ joined body_lines)) in
        ap (λ line. option_and_then path_in (within_limit line)) (first-of file_line (joined body_lines) file_is.lacks)
        ∙ ap (λ b. option_and_then path_in (cond b (Some file_line) None)) (le-leb (length file_line) MAX_BLOCK few)
        ∙ path_again file.path is.path

    block_of_file : IsBlockOf file
    block_of_file = record { block = body; cut = body_cut; full = full-joined file_line body_lines each_is; says = body_says; path = body_path }

  -- what is read of each block, if it is so of a file's
  each_again : {A : Type 0} (read : List ℕ → A) (of_file : FileValue → A) → ((file : FileValue) (is : IsBlockOf file) → read is.block ≡ of_file file)
      → (number : ℕ) (files : List FileValue) → All IsPrintable files → map (λ block. read block.text) (blocks_from number (files_text files)) ≡ map of_file files
  each_again read of_file says number [] each = refl
  each_again read of_file says number (file ∷ files) each =
      let is = block_of_file file (All-head IsPrintable file files each) in
      let rest = files_text files in
      let next = number + newlines_in is.block + 1 + 1 in
      ap (λ text. map (λ block. read block.text) (blocks_from number text))
      (ap (λ text. text ++ rest) is.cut ∙ append_assoc is.block (newline ∷ newline ∷ []) rest)
      ∙ ap (map (λ block. read block.text)) (blocks-first number is.block is.full (newline ∷ newline ∷ rest) (refl, refl))
      ∙ ap (λ blocks. read is.block ∷ map (λ block. read block.text) blocks)
      (blocks-empty_line (number + newlines_in is.block) (newline ∷ rest) ∙ blocks-empty_line (number + newlines_in is.block + 1) rest)
      ∙ ap₂ (λ first more. first ∷ more) (says file is) (each_again read of_file says next files (All-tail IsPrintable file files each))

  pub numbered_again : (number : ℕ) (files : List FileValue) → All IsPrintable files
      → map (λ block. file_by names block.text) (blocks_from number (files_text files)) ≡ map said_of files
  numbered_again = each_again (file_by names) said_of (λ file is. is.says)

  each_path : (number : ℕ) (files : List FileValue) → All IsPrintable files
      → map (λ block. path_of block.text) (blocks_from number (files_text files)) ≡ map (λ file. Some file.path) files
  each_path = each_again path_of (λ file. Some file.path) (λ file is. is.path)

-- the path of each block is its file's, whether or not the block is refused; so whoever there is
number_read : (id_of : List ℕ → Option ℕ) (id : ℕ) → id ≤ MAX_ID → resolved written_id id_of (decimal id) ≡ Ok id
number_read id_of id small =
    ap (λ written. or_fault Malformed written >>= (λ w. or_fault Unknown (id_of_written id_of w))) (written_decimal id small)
    ∙ ap (λ b. or_fault Unknown (cond b (Some id) None)) (le-leb id MAX_ID small)

abbrev nobody : Names
nobody = record { written = written_id; uid = λ name. None; gid = λ name. None }

nobody_numbers : ReadNumbers nobody
nobody_numbers = record { uids = number_read (λ name. None); gids = number_read (λ name. None) }

pub paths_again : (number : ℕ) (files : List FileValue) → All IsPrintable files
    → map (λ block. path_of block.text) (blocks_from number (files_text files)) ≡ map (λ file. Some file.path) files
paths_again = each_path nobody nobody_numbers

-- ---- how long a block is

id_length : (id : ℕ) → id ≤ MAX_ID → length (decimal id) ≤ 10
id_length id small = length-decimal-le 10 id (omega arith) (omega arith) (omega arith)

word_length : (tag : Tag) → length (word_text tag) ≤ 5
word_length UserObj = omega arith
word_length (User uid) = omega arith
word_length GroupObj = omega arith
word_length (Group gid) = omega arith
word_length Mask = omega arith
word_length Other = omega arith

number_length : (tag : Tag) → HasId tag → length (number_text tag) ≤ 10
number_length (User uid) has = id_length uid has
number_length (Group gid) has = id_length gid has
number_length UserObj has = omega arith
number_length GroupObj has = omega arith
number_length Mask has = omega arith
number_length Other has = omega arith

line_length : (word : List ℕ) (entry : EntryValue) → HasId entry.tag → length word ≤ 8 → length (line_text word (entry_text entry)) ≤ 29
line_length word entry has few =
    let perms = perms_text entry.perms in
    let three : length perms ≡ 3 = refl in
    let rest = number_text entry.tag ++ colon ∷ perms in
    omega (
      arith,
      three,
      word_length entry.tag,
      number_length entry.tag has,
      length-append word (entry_text entry ++ newline ∷ []),
      length-append (entry_text entry) (newline ∷ []),
      length-append (word_text entry.tag) (colon ∷ rest),
      length-append (number_text entry.tag) (colon ∷ perms),
    )

entries_length : (word : List ℕ) → length word ≤ 8 → (entries : List EntryValue) → HaveIds entries → length (entries_text word entries) ≤ length entries * 29
entries_length word few [] have = omega arith
entries_length word few (entry ∷ entries) have =
    let here = line_length word entry (All-head (λ (e : EntryValue). HasId e.tag) entry entries have) few in
    let more = entries_length word few entries (All-tail (λ (e : EntryValue). HasId e.tag) entry entries have) in
    omega (arith, here, more, length-append (line_text word (entry_text entry)) (entries_text word entries))

letters_length : (table : List Letter) (bits : ℕ) → length (letters_text table bits) ≤ length table
letters_length [] bits = omega arith
letters_length (row ∷ rows) bits = by (not (bit_and bits row.bit == 0)) (letters_length rows bits)
  where
    by : (b : Bool) → length (letters_text rows bits) ≤ length rows
        → length (map (λ (r : Letter). r.letter) (cond b (row ∷ filter (λ (r : Letter). not (bit_and bits r.bit == 0)) rows) (filter (λ (r : Letter). not (bit_and bits r.bit == 0)) rows))) ≤ length (row ∷ rows)
    by true rest = omega (arith, rest)
    by false rest = omega (arith, rest)

type_length : (kind : AceType) → length (type_text kind) ≡ 1
type_length Allow = refl
type_length Deny = refl
type_length Audit = refl
type_length Alarm = refl

who_length : (who : Who) → one.HasId who → length (short_who who) ≤ 10
who_length who.Owner has = omega arith
who_length who.Group has = omega arith
who_length who.Everyone has = omega arith
who_length (who.User uid) has = id_length uid has
who_length (who.NamedGroup gid) has = id_length gid has

ace_length : (ace : Nfsace4) → one.HasId ace.who → length (short_ace ace ++ newline ∷ []) ≤ 36
ace_length ace has =
    let kind = type_text ace.kind in
    let flags = letters_text flag_table ace.flags in
    let mask = letters_text mask_table ace.mask in
    let whom = short_who ace.who in
    let seven : length flag_table ≡ 7 = refl in
    let fourteen : length mask_table ≡ 14 = refl in
    omega (
      arith,
      seven,
      fourteen,
      type_length ace.kind,
      letters_length flag_table ace.flags,
      letters_length mask_table ace.mask,
      who_length ace.who has,
      length-append (short_ace ace) (newline ∷ []),
      length-append kind (colon ∷ (flags ++ colon ∷ (whom ++ colon ∷ mask))),
      length-append flags (colon ∷ (whom ++ colon ∷ mask)),
      length-append whom (colon ∷ mask),
    )

aces_length : (aces : List Nfsace4) → nfs4.HaveIds aces → length (aces_lines short_ace aces) ≤ length aces * 36
aces_length [] have = omega arith
aces_length (ace ∷ aces) have =
    let here = ace_length ace (All-head AceHasId ace aces have) in
    let more = aces_length aces (All-tail AceHasId ace aces have) in
    omega (arith, here, more, length-append (short_ace ace ++ newline ∷ []) (aces_lines short_ace aces))

default_length : (default : Option (List EntryValue)) → IsPrintableDefault default → length (default_text default) ≤ 1856
default_length None is = omega arith
default_length (Some default) is =
    let few = is.0.within in
    let lines = entries_length (codes "default:") (omega arith) default is.1 in
    omega (arith, few, lines)

lists_length : (lists : Lists) → ArePrintable lists → length (lists_text lists) ≤ 4608
lists_length (Posix access default) are =
    let few = are.0.within in
    let lines = entries_length [] (omega arith) access are.1 in
    omega (arith, few, lines, default_length default are.2, length-append (entries_text [] access) (default_text default))
lists_length (Nfs4 aces) are =
    let few = are.0.within in
    let lines = aces_length aces are.1 in
    omega (arith, few, lines)

text_length : (word text : List ℕ) → length (line_text word text) ≡ length word + length text + 1
text_length word text = omega (arith, length-append word (text ++ newline ∷ []), length-append text (newline ∷ []))

-- a block is short enough if its path is
pub short_block : (file : FileValue) → length file.path ≤ 60000 → file.owner ≤ MAX_ID → file.group ≤ MAX_ID → ArePrintable file.lists → length (file_text file) ≤ MAX_BLOCK + 2
short_block file path owner group are =
    let first = line_text (codes "# file: ") file.path in
    let second = line_text (codes "# owner: ") (decimal file.owner) in
    let third = line_text (codes "# group: ") (decimal file.group) in
    let front = header_text file.path file.owner file.group in
    let words : length (codes "# file: ") + length (codes "# owner: ") + length (codes "# group: ") ≡ 26 = refl in
    omega (
      arith,
      path,
      words,
      id_length file.owner owner,
      id_length file.group group,
      lists_length file.lists are,
      text_length (codes "# file: ") file.path,
      text_length (codes "# owner: ") (decimal file.owner),
      text_length (codes "# group: ") (decimal file.group),
      length-append first (second ++ third),
      length-append second third,
      length-append front (lists_text file.lists ++ newline ∷ []),
      length-append (lists_text file.lists) (newline ∷ []),
    )
