-- What is reported for a listing is read again: its files, and behind each folder what is created in it.
use Rattle.std.proofs.Common.{◌≡◌, ◌∙◌, ◌≤◌, ◌+◌, ℕ, Bool, true, false, cond, nat_le, List, [], ◌∷◌, ◌++◌, All, IfOk, Result, Ok, Err, ap, append_assoc, arith, length, map, refl, subst, sym}
use Rattle.std.specs.List.{cons_option}
use Rattle.std.proofs.lemmas.Bool.Decides.{nat_tests}
use Rattle.std.proofs.lemmas.List.Elements.{All-cons, All-head, All-nil, All-tail}
use Rattle.acl_names.specs.Bytes.{newline}
use Rattle.acl_names.specs.Steps.{◌>>=◌}
use Rattle.acl_names.proofs.StepLemmas.{bind_ok}
use Rattle.acl_nfs4.specs.NamedAces.{ReadNumbers}
use Rattle.acl_nfs4.specs.declared.inheritance.Kind.{Kind}
use Rattle.acl_nfs4.specs.declared.inheritance.Kind.TheVariants.{File, Dir}
use Rattle.acl_listings.specs.Block.{FileValue, file_by}
use Rattle.acl_listings.specs.Extent.{HasFullLines, newlines_in}
use Rattle.acl_listings.specs.FileFlags.{no_flags}
use Rattle.acl_listings.specs.Listing.{Block, blocks_from}
use Rattle.acl_listings.specs.declared.fault.BlockFault.{BlockFault}
use Rattle.acl_listings.specs.declared.fault.BlockFault.TheVariants.{TooLong}
use Rattle.acl_listings.specs.declared.file_flags.FileFlags.{FileFlags}
use Rattle.acl_listings.specs.declared.limits.TheConstants.{MAX_BLOCK}
use Rattle.acl_listings.proofs.ListingLemmas.{blocks-empty_line, blocks-first}
use Rattle.acl_listing_creation.specs.Created.{created_in, created_text, flags_in, group_in, if_short, lists_in, next_block, next_in}
use Rattle.acl_listing_creation.specs.Next.{NextAsking, Reading, reading_of}
use Rattle.acl_listing_creation.specs.NextLaws.{Answered, IsPrintable, SaysEachFolder, answered, files_reported, if_answered, is_folder, with_next}
use Rattle.acl_listing_creation.proofs.CreatedLemmas.{IsBlockOf, block_by, only_group}

-- a block that is reported is no longer than one may be
short_reported : (text reported : List ℕ) → if_short text ≡ Ok reported → (length text ≤ MAX_BLOCK + 2) × (reported ≡ text)
short_reported text reported is = go (nat_le (length text) (MAX_BLOCK + 2)) refl is
  where
    go : (b : Bool) → nat_le (length text) (MAX_BLOCK + 2) ≡ b → cond b (Ok text) (Err TooLong) ≡ Ok reported → (length text ≤ MAX_BLOCK + 2) × (reported ≡ text)
    go true fits is = (grind (arith, nat_tests, fits), cc)
    go false fits is = cc

-- of the flags of what is created the group's alone may be set
flags_are : (kind : Kind) (flags : FileFlags) → (b : Bool) × (flags_in kind flags ≡ only_group b)
flags_are Dir flags = (flags.set_group_id, refl)
flags_are File flags = (false, refl)

abbrev flags_or : Result FileValue BlockFault → FileFlags
flags_or (Ok file) = file.flags
flags_or (Err fault) = no_flags

module _ (asking : NextAsking) (numbers : ReadNumbers asking.names) where
  -- a block that is answered, as it is known
  record IsKnown (block : Answered) : Type 0 where
    pub is : reading_of asking block.text ≡ Ok block.reading
    pub full : HasFullLines block.text
    pub printable : IfOk (created_in asking.creation block.reading.file) IsPrintable

  abbrev Full : Block → Type 0
  Full block = HasFullLines block.text

  abbrev Printable : Answered → Type 0
  Printable block = IfOk (created_in asking.creation block.reading.file) IsPrintable

  one_known : (text : List ℕ) (behind : List Answered) → HasFullLines text → (All Printable behind → All IsKnown behind) → (read : Result Reading BlockFault) → reading_of asking text ≡ read
      → All Printable (cons_option (if_answered text read) behind) → All IsKnown (cons_option (if_answered text read) behind)
  one_known text behind full rest (Err fault) is created = rest created
  one_known text behind full rest (Ok reading) is created =
      let here : Answered = record { text = text; reading = reading } in
      All-cons IsKnown here behind (record { is = is; full = full; printable = All-head Printable here behind created }) (rest (All-tail Printable here behind created))

  each_known : (blocks : List Block) → All Full blocks → All Printable (answered asking blocks) → All IsKnown (answered asking blocks)
  each_known [] full created = All-nil IsKnown
  each_known (block ∷ blocks) full created =
      one_known block.text (answered asking blocks) (All-head Full block blocks full) (λ created. each_known blocks (All-tail Full block blocks full) created) (reading_of asking block.text) refl created

  -- what a block that is answered says, and what is created in its folder
  record IsMade (block : Answered) : Type 0 where
    pub file : file_by asking.names block.text ≡ Ok block.reading.file
    pub created : FileValue
    pub created_is : created_in asking.creation block.reading.file ≡ Ok created
    pub reported : IsBlockOf asking.names numbers created
    pub next : block.reading.next ≡ reported.block ++ newline ∷ newline ∷ []

  made : (block : Answered) → IsKnown block → IsMade block
  made block known =
      let creation = asking.creation in
      let (file, said, of_file) = bind_ok (file_by asking.names block.text) (λ file. next_block creation file >>= (λ next. Ok (record { file = file; next = next }))) block.reading known.is in
      let (next, reported, of_next) = bind_ok (next_block creation file) (λ next. Ok (record { file = file; next = next })) block.reading of_file in
      let file_is : file ≡ block.reading.file = cc in
      let next_is : next ≡ block.reading.next = cc in
      let (created, created_is, short_is) = bind_ok (created_in creation file) (λ file. if_short (created_text file)) next reported in
      let (lists, listed, of_lists) = bind_ok (lists_in creation file.lists) (λ lists. Ok (record {
        path = next_in file.path;
        owner = creation.owner;
        group = group_in creation file;
        flags = flags_in creation.kind file.flags;
        lists = lists;
      })) created created_is in
      let short = short_reported (created_text created) next short_is in
      let flags = flags_are creation.kind file.flags in
      let there : created_in creation block.reading.file ≡ Ok created = ap (created_in creation) (sym file_is) ∙ created_is in
      let printable : IsPrintable created = subst (λ (made : Result FileValue BlockFault). IfOk made IsPrintable) there known.printable in
      let reported_block = block_by asking.names numbers created printable flags.0 (sym (ap flags_or of_lists) ∙ flags.1) short.0 in
      record {
        file = said ∙ ap (λ (file : FileValue). Ok file) file_is;
        created = created;
        created_is = there;
        reported = reported_block;
        next = sym next_is ∙ short.1 ∙ reported_block.cut;
      }

  read : Block → Result FileValue BlockFault
  read block = file_by asking.names block.text

  -- the first block of a text, and what is read behind it
  read_first : (n : ℕ) (block rest : List ℕ) → HasFullLines block
      → map (λ block. file_by asking.names block.text) (blocks_from n ((block ++ newline ∷ newline ∷ []) ++ rest))
      ≡ file_by asking.names block ∷ map (λ block. file_by asking.names block.text) (blocks_from (n + newlines_in block + 1 + 1) rest)
  read_first n block rest full =
      ap (λ text. map (λ block. file_by asking.names block.text) (blocks_from n text)) (append_assoc block (newline ∷ newline ∷ []) rest)
      ∙ ap (map (λ block. file_by asking.names block.text)) (blocks-first n block full (newline ∷ newline ∷ rest) (refl, refl))
      ∙ ap (λ blocks. file_by asking.names block ∷ map (λ block. file_by asking.names block.text) blocks)
      (blocks-empty_line (n + newlines_in block) (newline ∷ rest) ∙ blocks-empty_line (n + newlines_in block + 1) rest)

  -- what stands behind a block
  says_behind : (block : Answered) (is : IsMade block) (behind : List Answered)
      → ((n : ℕ) → map (λ block. file_by asking.names block.text) (blocks_from n (with_next asking behind)) ≡ files_reported asking behind)
      → (b : Bool) (n : ℕ) → map (λ block. file_by asking.names block.text) (blocks_from n (cond b block.reading.next [] ++ with_next asking behind))
      ≡ cond b (created_in asking.creation block.reading.file ∷ []) [] ++ files_reported asking behind
  says_behind block is behind rest false n = rest n
  says_behind block is behind rest true n =
      let after = n + newlines_in is.reported.block + 1 + 1 in
      ap (λ next. map (λ block. file_by asking.names block.text) (blocks_from n (next ++ with_next asking behind))) is.next
      ∙ read_first n is.reported.block (with_next asking behind) is.reported.full
      ∙ ap (λ (read : Result FileValue BlockFault). read ∷ map (λ block. file_by asking.names block.text) (blocks_from after (with_next asking behind))) (is.reported.says ∙ sym is.created_is)
      ∙ ap (λ more. created_in asking.creation block.reading.file ∷ more) (rest after)

  says : (n : ℕ) (blocks : List Answered) → All IsKnown blocks → map (λ block. file_by asking.names block.text) (blocks_from n (with_next asking blocks)) ≡ files_reported asking blocks
  says n [] each = refl
  says n (block ∷ behind) each =
      let known = All-head IsKnown block behind each in
      let is = made block known in
      let after = n + newlines_in block.text + 1 + 1 in
      let b = is_folder asking block.reading behind in
      read_first n block.text (cond b block.reading.next [] ++ with_next asking behind) known.full
      ∙ ap (λ (read : Result FileValue BlockFault). read ∷ map (λ block. file_by asking.names block.text) (blocks_from after (cond b block.reading.next [] ++ with_next asking behind))) is.file
      ∙ ap (λ more. Ok block.reading.file ∷ more) (says_behind block is behind (λ n. says n behind (All-tail IsKnown block behind each)) b after)

pub said_again : (asking : NextAsking) (blocks : List Block) → SaysEachFolder asking blocks
said_again asking blocks numbers full created = says asking numbers 1 (answered asking blocks) (each_known asking numbers blocks full created)
