-- The block of a file that is created is read again, by whatever names.
use Rattle.std.proofs.Common.{◌≡◌, ◌∙◌, ◌≤◌, ◌<◌, ◌+◌, ℕ, Bool, true, false, cond, List, [], ◌∷◌, ◌++◌, All, Option, Some, None, Result, Ok, ap, ap₂, append_assoc, arith, codes, decimal, filter_map, flat_map, length, length-append, le-leb, map, option_and_then, refl, sym, unwrap_or}
use Rattle.std.specs.List.{list_any}
use Rattle.std.proofs.lemmas.Grind.{flat_map-append}
use Rattle.std.proofs.lemmas.List.Elements.{All-cons, All-head, All-nil, All-tail}
use Rattle.std.proofs.lemmas.List.Splits.{slice_split_at}
use Rattle.acl_names.specs.Bytes.{newline}
use Rattle.acl_names.specs.Names.{Names}
use Rattle.acl_names.specs.Pieces.{parts, pieces}
use Rattle.acl_names.specs.Steps.{◌>>=◌, or_fault}
use Rattle.acl_names.specs.declared.limits.TheConstants.{MAX_ID}
use Rattle.acl_names.proofs.DecimalIds.{decimal_field}
use Rattle.acl_names.proofs.Fields.{field_plain}
use Rattle.acl_names.proofs.PlainLines.{plain_lacks_newline}
use Rattle.acl_posix.specs.Canonical.{IsAcl}
use Rattle.acl_posix.specs.Entry.{EntryValue}
use Rattle.acl_posix.specs.EntryText as posix
use Rattle.acl_posix.specs.PrintedText.{HasId}
use Rattle.acl_nfs4.specs.Ace.{Nfsace4}
use Rattle.acl_nfs4.specs.NamedAces.{ReadNumbers, ace_by}
use Rattle.acl_nfs4.specs.PrintedText as nfs4
use Rattle.acl_nfs4.specs.PrintedText.{short_ace}
use Rattle.acl_nfs4.specs.Who as one
use Rattle.acl_forms.specs.FormText.{entry_by}
use Rattle.acl_forms.specs.Forms.{form_of, form_of_pieces}
use Rattle.acl_forms.specs.declared.form.Form.{Form}
use Rattle.acl_forms.specs.declared.form.Form.TheVariants as form
use Rattle.acl_listings.specs.Access.{acl_by, if_there, posix_by}
use Rattle.acl_listings.specs.Block.{FileValue, file_by, owners_of}
use Rattle.acl_listings.specs.BlockLists.{lists_by, lists_in, nfs4_by}
use Rattle.acl_listings.specs.Extent.{HasFullLines}
use Rattle.acl_listings.specs.FaultyLine.{kind_at_fault}
use Rattle.acl_listings.specs.FileFlags.{flags_by, flags_in, no_flags}
use Rattle.acl_listings.specs.Header.{Header, after_prefix, as_header}
use Rattle.acl_listings.specs.ListLines.{is_default, line_of}
use Rattle.acl_listings.specs.Numbered.{ArePrintable, entry_text, header_text, lists_text, said_with}
use Rattle.acl_listings.specs.Printed.{line_text}
use Rattle.acl_listings.specs.declared.fault.BlockFault.{BlockFault}
use Rattle.acl_listings.specs.declared.fault.BlockFault.TheVariants.{BadHeader, TooLong}
use Rattle.acl_listings.specs.declared.file_flags.FileFlags.{FileFlags}
use Rattle.acl_listings.specs.declared.limits.TheConstants.{MAX_BLOCK}
use Rattle.acl_listings.specs.declared.lists.Lists.{Lists}
use Rattle.acl_listings.specs.declared.lists.Lists.TheVariants.{Posix, Nfs4}
use Rattle.acl_listings.proofs.AccessLemmas.{ended, line_pieces}
use Rattle.acl_listings.proofs.AceForms.{nfs4_form}
use Rattle.acl_listings.proofs.ExtentLemmas.{LacksNewline, is_newline}
use Rattle.acl_listings.proofs.HandedLemmas.{from_block, from_header, from_ids, from_lists}
use Rattle.acl_listings.proofs.LineLemmas.{first-of}
use Rattle.acl_listings.proofs.Nfs4Lemmas as block
use Rattle.acl_listings.proofs.NumberedEntries.{access_ended, default_ended, default_lines, each_posix, posix_flags_again, posix_lists_again}
use Rattle.acl_listings.proofs.PrintedLemmas.{IsOneLine, ended-joined, file_word, full-joined, group_word, headed, header-headed, joined, lacking, owner_word, path_again, word_line}
use Rattle.acl_listing_creation.specs.Created.{created_text, flags_text}
use Rattle.acl_listing_creation.specs.NextLaws.{IsPrintable}

-- ---- the line of the flags

abbrev flag_line : List ℕ
flag_line = codes "# flags: -s-"

flag_lacks : LacksNewline flag_line
flag_lacks = lacking flag_line refl

flag_is : IsOneLine flag_line
flag_is = record { some = omega arith; lacks = flag_lacks }

lines_behind : (list : List ℕ) → parts newline (flag_line ++ newline ∷ list) ≡ flag_line ∷ parts newline list
lines_behind list = slice_split_at is_newline flag_line newline list flag_lacks refl

-- it says no entry
pieces_behind : (list : List ℕ) → pieces (flag_line ++ newline ∷ list) ≡ pieces list
pieces_behind list = ap (flat_map line_pieces) (lines_behind list)

-- what lines say, of kinds of which the first says the access list, and the second the default list
abbrev posix_in : {K : Type 0} → (K → List ℕ → Option (List ℕ)) → K → K → Names → List (List ℕ) → Result Lists BlockFault
posix_in of access default names lines =
    acl_by names (flat_map line_pieces (filter_map (of access) lines)) >>= (λ access.
    cond (list_any is_default lines) (if_there (acl_by names (flat_map line_pieces (filter_map (of default) lines)))) (Ok None) >>= (λ default.
    Ok (Posix access default)))

module _ (names : Names) (list : List ℕ) where
  -- no entry is one of the access list that doesn't read, and where all read the default list is at fault
  posix_behind : posix_by names (flag_line ++ newline ∷ list) ≡ posix_by names list
  unfolding posix.entry_by
  posix_behind = ap (posix_in line_of (kind_at_fault names form.Posix (codes "?" ∷ [])) (kind_at_fault names form.Posix []) names) (lines_behind list)

  in_form : (form : Form) → lists_in form names (flag_line ++ newline ∷ list) ≡ lists_in form names list
  in_form form.Posix = posix_behind
  in_form form.Nfs4 = ap (nfs4_by (ace_by names)) (pieces_behind list)
  in_form form.Freebsd = ap (nfs4_by (entry_by names)) (pieces_behind list)

  lists_behind : lists_by names (flag_line ++ newline ∷ list) ≡ lists_by names list
  lists_behind = ap (λ form. lists_in form names (flag_line ++ newline ∷ list)) (ap form_of_pieces (pieces_behind list)) ∙ in_form (form_of list)

abbrev pub only_group : Bool → FileFlags
only_group b = record no_flags { set_group_id = b }

flags_behind : (list : List ℕ) → flags_by (flag_line ++ newline ∷ list) ≡ only_group true
flags_behind list = ap (λ line. unwrap_or (option_and_then flags_in (after_prefix (codes "# flags: ") line)) no_flags) (first-of flag_line list flag_lacks)

-- ---- the lines of lists

abbrev AceHasId : Nfsace4 → Type 0
AceHasId ace = one.HasId ace.who

no_acl : IsAcl [] → ⊥
no_acl is = let one = is.valid.user_obj in cc

module _ (names : Names) (numbers : ReadNumbers names) where
  -- lists as lines, which say them
  record AreLines (lists : Lists) : Type 0 where
    pub first : List ℕ
    pub more : List (List ℕ)
    pub text : lists_text lists ≡ ended (first ∷ more)
    pub each : All IsOneLine (first ∷ more)
    pub said : lists_by names (joined (first ∷ more)) ≡ Ok lists
    pub flagless : flags_by (joined (first ∷ more)) ≡ no_flags

  each_ace : (aces : List Nfsace4) → nfs4.HaveIds aces → All IsOneLine (map short_ace aces)
  each_ace [] have = All-nil IsOneLine
  each_ace (ace ∷ aces) have =
      let piece = (nfs4_form names numbers).piece ace (All-head AceHasId ace aces have) in
      All-cons IsOneLine (short_ace ace) (map short_ace aces) (record { some = piece.0; lacks = plain_lacks_newline (short_ace ace) piece.1 })
      (each_ace aces (All-tail AceHasId ace aces have))

  lines_of : (file : FileValue) (lists : Lists) → file.lists ≡ lists → IsPrintable file → ArePrintable lists → AreLines lists
  lines_of file (Posix [] default) same is are = absurd (no_acl are.0)
  lines_of file (Posix (entry ∷ entries) default) same is are = record {
    first = entry_text entry;
    more = map entry_text entries ++ default_lines default;
    text = ap₂ (λ front back. front ++ back) (access_ended (entry ∷ entries)) (default_ended default)
        ∙ sym (flat_map-append (λ (line : List ℕ). line ++ newline ∷ []) (map entry_text (entry ∷ entries)) (default_lines default));
    each = each_posix (entry ∷ entries) default are.1 are.2;
    said = posix_lists_again names numbers entry entries default are.0 are.1 are.2;
    flagless = posix_flags_again entry entries default (All-head (λ (e : EntryValue). HasId e.tag) entry entries are.1);
  }
  lines_of file (Nfs4 []) same is are =
      let some : said_with file (Nfs4 []) ≡ Ok file = ap (said_with file) (sym same) ∙ is.some in
      absurd cc
  lines_of file (Nfs4 (ace ∷ aces)) same is are =
      let form = nfs4_form names numbers in
      record {
        first = short_ace ace;
        more = map short_ace aces;
        text = block.lines_ended names short_ace form (ace ∷ aces);
        each = each_ace (ace ∷ aces) are.1;
        said = block.lists_again names short_ace form ace aces are.0 are.1 [] false refl;
        flagless = block.flags_again names short_ace form ace aces are.0 are.1 [] false refl;
      }

  -- ---- the block

  -- without the newline of its last line and the empty line
  pub record IsBlockOf (file : FileValue) : Type 0 where
    pub block : List ℕ
    pub cut : created_text file ≡ block ++ newline ∷ newline ∷ []
    pub full : HasFullLines block
    pub says : file_by names block ≡ Ok file

  number_line : (word : List ℕ) (id : ℕ) → 0 < length word → LacksNewline word → id ≤ MAX_ID → IsOneLine (word ++ decimal id)
  number_line word id some lacks small = word_line word (decimal id) some lacks (plain_lacks_newline (decimal id) (field_plain (decimal id) (decimal_field id small).0))

  module _ (file : FileValue) (is : IsPrintable file) where
    abbrev file_line : List ℕ
    file_line = file_word ++ file.path

    abbrev owner_line : List ℕ
    owner_line = owner_word ++ decimal file.owner

    abbrev group_line : List ℕ
    group_line = group_word ++ decimal file.group

    file_is : IsOneLine file_line
    file_is = word_line file_word file.path (omega arith) (lacking file_word refl) is.one_line

    owner_is : IsOneLine owner_line
    owner_is = number_line owner_word file.owner (omega arith) (lacking owner_word refl) is.owner

    group_is : IsOneLine group_line
    group_is = number_line group_word file.group (omega arith) (lacking group_word refl) is.group

    abbrev body : List ℕ → List ℕ
    body list = headed file_line owner_line group_line list

    abbrev header : List ℕ → Header
    header list = record { path = file.path; owner = decimal file.owner; group = decimal file.group; list = list }

    says_body : (list : List ℕ) → length (body list) ≤ MAX_BLOCK → lists_by names list ≡ Ok file.lists → flags_by list ≡ file.flags → file_by names (body list) ≡ Ok file
    says_body list short said flags =
        ap (λ limited. or_fault TooLong limited >>= from_block names) (ap (λ b. cond b (Some (body list)) None) (le-leb (length (body list)) MAX_BLOCK short))
        ∙ ap (λ found. or_fault BadHeader found >>= from_header names)
        (header-headed file_line owner_line group_line list file_is.lacks owner_is.lacks group_is.lacks
        ∙ ap (λ p. as_header p (Some (decimal file.owner)) (Some (decimal file.group)) list) (path_again file.path is.path))
        ∙ ap₂ (λ o g. owners_of o g >>= from_ids names (header list)) (numbers.uids file.owner is.owner) (numbers.gids file.group is.group)
        ∙ ap (λ found. found >>= from_lists (header list) (file.owner, file.group)) said
        ∙ ap (λ flags. Ok (record file { flags = flags })) flags

    cut_body : (flags list text : List ℕ) → flags_text file.flags ≡ flags → lists_text file.lists ≡ text ++ newline ∷ [] → list ≡ flags ++ text
        → created_text file ≡ body list ++ newline ∷ newline ∷ []
    cut_body flags list text flags_are text_is list_is =
        ap₂ (λ flags text. header_text file.path file.owner file.group ++ (flags ++ (text ++ newline ∷ []))) flags_are text_is
        ∙ regrouped file_word file.path owner_word (decimal file.owner) group_word (decimal file.group) flags text
        ∙ ap (λ list. body list ++ newline ∷ newline ∷ []) (sym list_is)
      where
        regrouped : (one text two more three last flags list : List ℕ)
            → (line_text one text ++ (line_text two more ++ line_text three last)) ++ (flags ++ ((list ++ newline ∷ []) ++ newline ∷ []))
            ≡ headed (one ++ text) (two ++ more) (three ++ last) (flags ++ list) ++ newline ∷ newline ∷ []
        regrouped one text two more three last flags list = simp append_assoc

    short_body : (list : List ℕ) → created_text file ≡ body list ++ newline ∷ newline ∷ [] → length (created_text file) ≤ MAX_BLOCK + 2 → length (body list) ≤ MAX_BLOCK
    short_body list cut short =
        let two : length (newline ∷ newline ∷ []) ≡ 2 = refl in
        omega (arith, short, ap length cut, length-append (body list) (newline ∷ newline ∷ []), two)

    full_body : (first : List ℕ) (more : List (List ℕ)) → All IsOneLine (first ∷ more) → HasFullLines (body (joined (first ∷ more)))
    full_body first more each = full-joined file_line (owner_line ∷ group_line ∷ first ∷ more)
        (All-cons IsOneLine file_line (owner_line ∷ group_line ∷ first ∷ more) file_is
        (All-cons IsOneLine owner_line (group_line ∷ first ∷ more) owner_is (All-cons IsOneLine group_line (first ∷ more) group_is each)))

    pub block_by : (b : Bool) → file.flags ≡ only_group b → length (created_text file) ≤ MAX_BLOCK + 2 → IsBlockOf file
    block_by false flags short =
        let lines = lines_of file file.lists refl is is.lists in
        let list = joined (lines.first ∷ lines.more) in
        let cut = cut_body [] list list (ap flags_text flags) (lines.text ∙ ended-joined lines.first lines.more) refl in
        record {
          block = body list;
          cut = cut;
          full = full_body lines.first lines.more lines.each;
          says = says_body list (short_body list cut short) lines.said (lines.flagless ∙ sym flags);
        }
    block_by true flags short =
        let lines = lines_of file file.lists refl is is.lists in
        let text = joined (lines.first ∷ lines.more) in
        let list = flag_line ++ newline ∷ text in
        let cut = cut_body (flag_line ++ newline ∷ []) list text (ap flags_text flags) (lines.text ∙ ended-joined lines.first lines.more) (sym (append_assoc flag_line (newline ∷ []) text)) in
        record {
          block = body list;
          cut = cut;
          full = full_body flag_line (lines.first ∷ lines.more) (All-cons IsOneLine flag_line (lines.first ∷ lines.more) flag_is lines.each);
          says = says_body list (short_body list cut short) (lists_behind names text ∙ lines.said) (flags_behind text ∙ sym flags);
        }
