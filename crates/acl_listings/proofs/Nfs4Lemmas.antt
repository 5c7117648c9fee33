-- A block with NFSv4 entries in the place of its lists says the same file with these.
use Rattle.std.proofs.Common.{◌≡◌, ◌∙◌, ◌≤◌, ◌<◌, ◌+◌, ℕ, Bool, true, false, cond, nat_le, List, [], ◌∷◌, ◌++◌, length, map, Option, Some, None, Result, Ok, Err, All, ap, arith, append_assoc, codes, drop, flat_map, length-append, option_and_then, refl, subst, sym, take, unwrap_or}
use Rattle.std.proofs.lemmas.Bool.{true≢false}
use Rattle.std.proofs.lemmas.Bool.Decides.{nat_tests}
use Rattle.std.proofs.lemmas.List.Elements.{All-cons, All-head, All-nil, All-tail}
use Rattle.std.proofs.lemmas.List.Splits.{slice_split_at}
use Rattle.std.proofs.lemmas.Slice.Eq.{bytes_eq-Decides}
use Rattle.std.proofs.lemmas.Option.{cond_some}
use Rattle.acl_names.specs.Bytes.{newline}
use Rattle.acl_names.specs.ListText.{PiecesSay, Spells}
use Rattle.acl_names.specs.Names.{Names}
use Rattle.acl_names.specs.Pieces.{pieces}
use Rattle.acl_names.specs.Plain.{IsPlain, is_plain}
use Rattle.acl_names.specs.Steps.{◌>>=◌, or_fault}
use Rattle.acl_names.proofs.PlainJoined.{IsPlainPiece}
use Rattle.acl_names.proofs.PlainLines.{IsMark, nothing, pieces_of_lines, plain_lacks_newline}
use Rattle.acl_names.proofs.StepLemmas.{bind_ok, given}
use Rattle.acl_nfs4.specs.Ace.{Nfsace4}
use Rattle.acl_nfs4.specs.Acl.{AreAces}
use Rattle.acl_nfs4.specs.PrintedText.{HaveIds}
use Rattle.acl_nfs4.specs.Who.{HasId}
use Rattle.acl_nfs4.specs.declared.limits.TheConstants.{MAX_ACES}
use Rattle.acl_nfs4.proofs.ReadLemmas.{IsRead}
use Rattle.acl_forms.specs.Forms.{form_of_pieces}
use Rattle.acl_listings.specs.Block.{FileValue, file_by, owners_by, within_limit}
use Rattle.acl_listings.specs.BlockLists.{lists_by, lists_in}
use Rattle.acl_listings.specs.FileFlags.{flags_by, flags_in, no_flags}
use Rattle.acl_listings.specs.Guess.{begins}
use Rattle.acl_listings.specs.Header.{Header, after_prefix, as_header, header_of}
use Rattle.acl_listings.specs.Lines.{after_line, first_line}
use Rattle.acl_listings.specs.Nfs4Block.{aces_lines, flags_line, front_of, nfs4_block}
use Rattle.acl_listings.specs.declared.fault.BlockFault.{BlockFault}
use Rattle.acl_listings.specs.declared.fault.BlockFault.TheVariants.{TooLong, BadHeader}
use Rattle.acl_listings.specs.declared.file_flags.FileFlags.{FileFlags}
use Rattle.acl_listings.specs.declared.limits.TheConstants.{MAX_BLOCK}
use Rattle.acl_listings.specs.declared.lists.Lists.TheVariants.{Nfs4}
use Rattle.acl_listings.proofs.AccessLemmas.{ended, line_pieces}
use Rattle.acl_listings.proofs.AceForms.{IsAceForm}
use Rattle.acl_listings.proofs.ExtentLemmas.{LacksNewline, is_newline}
use Rattle.acl_listings.proofs.HandedLemmas.{from_block, from_header, from_ids, from_lists}
use Rattle.acl_listings.proofs.LineLemmas.{first-alone, first-of, first_line-cons}
use Rattle.acl_listings.proofs.ListsLemmas.{nfs4_read}
use Rattle.acl_listings.proofs.PrintedLemmas.{ended-joined, header-headed, headed, joined, pieces-ended}
use Rattle.acl_listings.proofs.RefusedLemmas.{headed_list}

-- ---- lines

-- the first line of a text is one line
first-lacks : (text : List ℕ) → LacksNewline (first_line text)
first-lacks [] = All-nil (λ x. is_newline x ≡ false)
first-lacks (byte ∷ bytes) = go (is_newline byte) refl (first-lacks bytes)
  where
    go : (b : Bool) → is_newline byte ≡ b → LacksNewline (first_line bytes) → LacksNewline (first_line (byte ∷ bytes))
    go true is rest = subst LacksNewline (sym (first_line-cons byte bytes true is)) (All-nil (λ x. is_newline x ≡ false))
    go false is rest = subst LacksNewline (sym (first_line-cons byte bytes false is)) (All-cons (λ x. is_newline x ≡ false) byte (first_line bytes) is rest)

-- the line of the flags is a comment
flags_no_piece : (line : List ℕ) → begins (codes "# flags: ") line ≡ true → line_pieces line ≡ []
flags_no_piece [] is = cc
flags_no_piece (byte ∷ bytes) is =
    let same : take 9 (byte ∷ bytes) ≡ codes "# flags: " = (bytes_eq-Decides (take 9 (byte ∷ bytes)) (codes "# flags: ")).0 is in
    let hash_first : byte ≡ 35 = cc in
    subst (λ x. line_pieces (x ∷ bytes) ≡ []) (sym hash_first) refl

-- a plain piece is no line of the flags
plain_no_flags : (piece : List ℕ) → IsPlainPiece piece → after_prefix (codes "# flags: ") piece ≡ None
plain_no_flags [] is = absurd (omega (arith, is.0))
plain_no_flags (byte ∷ bytes) is = go (begins (codes "# flags: ") (byte ∷ bytes)) refl
  where
    go : (b : Bool) → begins (codes "# flags: ") (byte ∷ bytes) ≡ b → cond b (Some (drop (length (codes "# flags: ")) (byte ∷ bytes))) None ≡ None
    go false other = refl
    go true same =
        let front : take 9 (byte ∷ bytes) ≡ codes "# flags: " = (bytes_eq-Decides (take 9 (byte ∷ bytes)) (codes "# flags: ")).0 same in
        let hash_first : byte ≡ 35 = cc in
        absurd (true≢false (sym (All-head (λ (x : ℕ). is_plain x ≡ true) byte bytes is.1) ∙ ap is_plain hash_first))

-- ---- the entries

are_read : (aces : List Nfsace4) → AreAces aces → All IsRead aces
are_read aces are = λ k d inside. record { is_ace = are.each k d inside; effective = are.effective k d inside }

abbrev HasIdOf : Nfsace4 → Type 0
HasIdOf ace = HasId ace.who

module _ (names : Names) (print : Nfsace4 → List ℕ) (of : IsAceForm names print) where
  each_again : (aces : List Nfsace4) → All IsRead aces → HaveIds aces → PiecesSay of.said (map print aces) aces
  each_again [] are have = refl
  each_again (ace ∷ aces) are have =
      rw (
        of.again ace (All-head IsRead ace aces are) (All-head HasIdOf ace aces have),
        each_again aces (All-tail IsRead ace aces are) (All-tail HasIdOf ace aces have),
      ) refl

  abbrev IsLine : Nfsace4 → Type 0
  IsLine ace = (0 < length (print ace)) × IsPlain (print ace) × IsMark []

  are_lines : (aces : List Nfsace4) → HaveIds aces → All IsLine aces
  are_lines [] have = All-nil IsLine
  are_lines (ace ∷ aces) have =
      let piece = of.piece ace (All-head HasIdOf ace aces have) in
      All-cons IsLine ace aces (piece.0, piece.1, nothing) (are_lines aces (All-tail HasIdOf ace aces have))

  pub lines_ended : (aces : List Nfsace4) → aces_lines print aces ≡ ended (map print aces)
  lines_ended [] = refl
  lines_ended (ace ∷ aces) = ap (λ rest. (print ace ++ newline ∷ []) ++ rest) (lines_ended aces)

  module _ (first : Nfsace4) (more : List Nfsace4) (are : AreAces (first ∷ more)) (have : HaveIds (first ∷ more)) where
    abbrev pub aces : List Nfsace4
    aces = first ∷ more

    abbrev pub lines : List ℕ
    lines = joined (map print (first ∷ more))

    lines-pieces : pieces lines ≡ map print aces
    lines-pieces =
        sym (pieces-ended lines)
        ∙ ap pieces (sym (lines_ended aces ∙ ended-joined (print first) (map print more)))
        ∙ pieces_of_lines print (λ _. []) aces (are_lines aces have)

    first_has : HasId first.who
    first_has = All-head HasIdOf first more have

    first_is : LacksNewline (print first)
    first_is = plain_lacks_newline (print first) (of.piece first first_has).1

    -- behind the flags of another list
    abbrev pub behind : Bool → List ℕ → List ℕ
    behind b list = cond b (first_line list ++ newline ∷ []) [] ++ lines

    behind-pieces : (list : List ℕ) (b : Bool) → begins (codes "# flags: ") (first_line list) ≡ b → pieces (behind b list) ≡ map print aces
    behind-pieces list false is = lines-pieces
    behind-pieces list true is =
        ap pieces (append_assoc (first_line list) (newline ∷ []) lines)
        ∙ ap (flat_map line_pieces) (slice_split_at is_newline (first_line list) newline lines (first-lacks list) refl)
        ∙ ap (λ front. front ++ pieces lines) (flags_no_piece (first_line list) is)
        ∙ lines-pieces

    pub lists_again : (list : List ℕ) (b : Bool) → begins (codes "# flags: ") (first_line list) ≡ b → lists_by names (behind b list) ≡ Ok (Nfs4 aces)
    lists_again list b is =
        let texts = behind-pieces list b is in
        let spelt : Spells of.said MAX_ACES (behind b list) aces =
        record { said = ap (map of.said) texts ∙ each_again aces (are_read aces are) have; within = are.within } in
        ap (λ form. lists_in form names (behind b list)) (ap form_of_pieces texts ∙ of.form_is first first_has)
        ∙ of.lists_are (behind b list)
        ∙ nfs4_read of.said (behind b list) aces spelt

    first-lines : first_line lines ≡ print first
    first-lines = by_more more
      where
        by_more : (more : List Nfsace4) → first_line (joined (map print (first ∷ more))) ≡ print first
        by_more [] = first-alone (print first) first_is
        by_more (next ∷ more) = first-of (print first) (joined (map print (next ∷ more))) first_is

    abbrev pub flags_at : List ℕ → FileFlags
    flags_at line = unwrap_or (option_and_then flags_in (after_prefix (codes "# flags: ") line)) no_flags

    pub flags_again : (list : List ℕ) (b : Bool) → begins (codes "# flags: ") (first_line list) ≡ b → flags_by (behind b list) ≡ flags_by list
    flags_again list true is =
        ap flags_at (ap first_line (append_assoc (first_line list) (newline ∷ []) lines) ∙ first-of (first_line list) lines (first-lacks list))
    flags_again list false is =
        ap flags_at first-lines
        ∙ ap (λ found. unwrap_or (option_and_then flags_in found) no_flags) (plain_no_flags (print first) (of.piece first first_has))
        ∙ sym (ap (λ b. unwrap_or (option_and_then flags_in (cond b (Some (drop (length (codes "# flags: ")) (first_line list))) None)) no_flags) is)

    other_list : (path owner group : Option (List ℕ)) (list other : List ℕ) (header : Header) → as_header path owner group list ≡ Some header
        → as_header path owner group other ≡ Some (record header { list = other })
    other_list (Some path) (Some owner) (Some group) list other header is = ap (λ found. with_other found) is
      where
        with_other : Option Header → Option Header
        with_other (Some header) = Some (record header { list = other })
        with_other None = None
    other_list (Some path) (Some owner) None list other header is = cc
    other_list (Some path) None group list other header is = cc
    other_list None owner group list other header is = cc

    abbrev with_lists : Result FileValue BlockFault → Result FileValue BlockFault
    with_lists (Ok file) = Ok (record file { lists = Nfs4 aces })
    with_lists (Err fault) = Err fault

    module _ (text : List ℕ) where
      abbrev second : List ℕ
      second = after_line text

      abbrev third : List ℕ
      third = after_line second

      abbrev list : List ℕ
      list = after_line third

      abbrev has_flags : Bool
      has_flags = begins (codes "# flags: ") (first_line list)

      -- the block, without its last newline
      abbrev pub body : List ℕ
      body = headed (first_line text) (first_line second) (first_line third) (behind has_flags list)

      pub body-cut : nfs4_block print text aces ≡ body ++ newline ∷ []
      body-cut = ap (λ rest. front_of text ++ rest) (lines_ended aces ∙ ended-joined (print first) (map print more)) ∙ regrouped (first_line text) (first_line second) (first_line third) (flags_line list) lines (newline ∷ [])
        where
          regrouped : (one two three flags rest end : List ℕ) → ((one ++ newline ∷ []) ++ ((two ++ newline ∷ []) ++ ((three ++ newline ∷ []) ++ flags))) ++ (rest ++ end)
              ≡ (one ++ newline ∷ (two ++ newline ∷ (three ++ newline ∷ (flags ++ rest)))) ++ end
          regrouped one two three flags rest end = simp append_assoc

      pub body_again : (file : FileValue) → file_by names text ≡ Ok file → length body ≤ MAX_BLOCK → file_by names body ≡ Ok (record file { lists = Nfs4 aces })
      body_again file is short =
          let (block, taken, of_block) = bind_ok (or_fault TooLong (within_limit text)) (from_block names) file is in
          let (_, own) = cond_some (nat_le (length text) MAX_BLOCK) text block (given TooLong (within_limit text) block taken) in
          let (header, read, of_header) = bind_ok (or_fault BadHeader (header_of block)) (from_header names) file of_block in
          let (ids, its, of_ids) = bind_ok (owners_by names header) (from_ids names header) file of_header in
          let (lists, listed, made) = bind_ok (lists_by names header.list) (from_lists header ids) file of_ids in
          let header_is : header_of text ≡ Some header = ap header_of own ∙ given BadHeader (header_of block) header read in
          let list_is : header.list ≡ list = headed_list names _ _ _ list header header_is in
          let other : Header = record header { list = behind has_flags list } in
          let other_is : header_of body ≡ Some other =
          header-headed (first_line text) (first_line second) (first_line third) (behind has_flags list) (first-lacks text) (first-lacks second) (first-lacks third)
          ∙ other_list _ _ _ list (behind has_flags list) header header_is in
          let fits : nat_le (length body) MAX_BLOCK ≡ true = grind (arith, nat_tests) in
          ap (λ b. or_fault TooLong (cond b (Some body) None) >>= from_block names) fits
          ∙ ap (λ found. or_fault BadHeader found >>= from_header names) other_is
          ∙ ap (λ ids. ids >>= from_ids names other) its
          ∙ ap (λ found. found >>= from_lists other ids) (lists_again list has_flags refl)
          ∙ ap (λ flags. Ok (record { path = header.path; owner = ids.0; group = ids.1; flags = flags; lists = Nfs4 aces })) (flags_again list has_flags refl ∙ ap flags_by (sym list_is))
          ∙ ap with_lists made

-- a block of entries says the file with them
pub block_again : (names : Names) (print : Nfsace4 → List ℕ) → IsAceForm names print → (text : List ℕ) (file : FileValue) (aces : List Nfsace4) → AreAces aces → HaveIds aces
    → 0 < length aces → file_by names text ≡ Ok file → length (nfs4_block print text aces) ≤ MAX_BLOCK + 1
    → (block : List ℕ) × (nfs4_block print text aces ≡ block ++ newline ∷ []) × (file_by names block ≡ Ok (record file { lists = Nfs4 aces }))
block_again names print of text file [] are have some is short = absurd (omega arith)
block_again names print of text file (first ∷ more) are have some is short =
    let cut = body-cut names print of first more are have text in
    let whole = body names print of first more are have text in
    let one : length (newline ∷ []) ≡ 1 = refl in
    let fits : length whole ≤ MAX_BLOCK = omega (arith, short, ap length cut, length-append whole (newline ∷ []), one) in
    (whole, cut, body_again names print of first more are have text file is fits)
