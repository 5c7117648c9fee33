-- Whether a piece of a block's lines passes a test, by its lists.
use Rattle.std.proofs.Common.{◌≡◌, ◌==◌, ◌∙◌, ◌||◌, ℕ, Bool, true, false, cond, List, [], ◌∷◌, Option, Some, None, Ok, ap, ap₂, append-nil, drop, flat_map, refl, sym}
use Rattle.std.specs.List.{All, cons_option, filter_map, list_any}
use Rattle.std.specs.Option.{option_map_or}
use Rattle.std.proofs.lemmas.List.Elements.{All-drop, All-head, All-tail}
use Rattle.std.proofs.lemmas.List.Folds.{list_any-append}
use Rattle.std.proofs.lemmas.List.Splits.{slice_split_none}
use Rattle.acl_names.specs.Bytes.{newline}
use Rattle.acl_names.specs.Names.{Names}
use Rattle.acl_names.specs.Pieces.{parts, pieces}
use Rattle.acl_names.specs.Steps.{◌>>=◌}
use Rattle.acl_names.proofs.StepLemmas.{bind_ok}
use Rattle.acl_posix.specs.Entry.{EntryValue}
use Rattle.acl_listings.specs.Access.{acl_by, default_by, if_there, posix_by}
use Rattle.acl_listings.specs.ListLines.{is_default, line_of, pieces_in, pieces_of}
use Rattle.acl_listings.specs.declared.list_lines.ListKind.TheVariants.{Access, Default}
use Rattle.acl_listings.specs.declared.lists.Lists.{Lists}
use Rattle.acl_listings.specs.declared.lists.Lists.TheVariants.{Posix}
use Rattle.acl_listings.proofs.AccessLemmas.{LacksNewline, line_pieces, parts-lack}

-- the pieces of one line
line-pieces : (line : List ℕ) → LacksNewline line → pieces line ≡ line_pieces line
line-pieces line lacks = ap (flat_map line_pieces) (slice_split_none (λ byte. byte == newline) line lacks) ∙ append-nil (line_pieces line)

-- those of lines
whole_lines : (test : List ℕ → Bool) (each : List (List ℕ)) → All LacksNewline each
    → list_any (λ line. list_any test (pieces line)) each ≡ list_any test (flat_map line_pieces each)
whole_lines test [] lack = refl
whole_lines test (line ∷ more) lack =
    ap₂ (λ one rest. list_any test one || rest) (line-pieces line (All-head LacksNewline line more lack)) (whole_lines test more (All-tail LacksNewline line more lack))
    ∙ sym (list_any-append test (line_pieces line) (flat_map line_pieces more))

-- those of lines that belong to either list
either_list : (test : List ℕ → Bool) (each : List (List ℕ)) → All LacksNewline each
    → list_any (λ line. list_any test (pieces (cond (is_default line) (drop 8 line) line))) each ≡ (list_any test (pieces_in Access each) || list_any test (pieces_in Default each))
either_list test [] lack = refl
either_list test (line ∷ more) lack =
    ap (λ rest. list_any test (pieces (cond (is_default line) (drop 8 line) line)) || rest) (either_list test more (All-tail LacksNewline line more lack))
    ∙ by_kind (is_default line) (list_any test (pieces_in Access more)) refl
  where
    lacks : LacksNewline line
    lacks = All-head LacksNewline line more lack

    own : (text : List ℕ) → LacksNewline text → list_any test (pieces text) ≡ list_any test (line_pieces text)
    own text lacks = ap (list_any test) (line-pieces text lacks)

    between : (a b c : Bool) → (a || (b || c)) ≡ (b || (a || c))
    between true true c = refl
    between true false c = refl
    between false b c = refl

    joined : (a b c : Bool) → (a || (b || c)) ≡ ((a || b) || c)
    joined true b c = refl
    joined false b c = refl

    by_kind : (b access : Bool) → list_any test (pieces_in Access more) ≡ access
        → (list_any test (pieces (cond b (drop 8 line) line)) || (access || list_any test (pieces_in Default more)))
        ≡ (list_any test (flat_map line_pieces (cons_option (cond b None (Some line)) (filter_map (line_of Access) more)))
        || list_any test (flat_map line_pieces (cons_option (cond b (Some (drop 8 line)) None) (filter_map (line_of Default) more))))
    by_kind true access is =
        ap (λ one. one || (access || list_any test (pieces_in Default more))) (own (drop 8 line) (All-drop (λ byte. (byte == newline) ≡ false) 8 line lacks))
        ∙ between (list_any test (line_pieces (drop 8 line))) access (list_any test (pieces_in Default more))
        ∙ ap₂ (λ one other. one || other) (sym is) (sym (list_any-append test (line_pieces (drop 8 line)) (pieces_in Default more)))
    by_kind false access is =
        ap (λ one. one || (access || list_any test (pieces_in Default more))) (own line lacks)
        ∙ joined (list_any test (line_pieces line)) access (list_any test (pieces_in Default more))
        ∙ ap (λ one. one || list_any test (pieces_in Default more))
        (ap (λ rest. list_any test (line_pieces line) || rest) (sym is) ∙ sym (list_any-append test (line_pieces line) (pieces_in Access more)))

-- lines of which none is a default list's have no piece of one
no_default : (each : List (List ℕ)) → list_any is_default each ≡ false → pieces_in Default each ≡ []
no_default [] none = refl
no_default (line ∷ more) none = by_first (is_default line) none (no_default more)
  where
    by_first : (b : Bool) → (b || list_any is_default more) ≡ false → (list_any is_default more ≡ false → pieces_in Default more ≡ [])
        → flat_map line_pieces (cons_option (cond b (Some (drop 8 line)) None) (filter_map (line_of Default) more)) ≡ []
    by_first true none rest = cc
    by_first false none rest = rest none

-- a piece of the text passes if one of its lines does
pub pieces-any : (test : List ℕ → Bool) (text : List ℕ) → list_any (λ line. list_any test (pieces line)) (parts newline text) ≡ list_any test (pieces text)
pieces-any test text = whole_lines test (parts newline text) (parts-lack text)

-- where what a list says passes if a piece does, what the lists of a block say passes if a piece of
-- a line does, without the word of a default list
module _ (names : Names) (test_acl : List EntryValue → Bool) (test : List ℕ → Bool)
    (says : (texts : List (List ℕ)) (acl : List EntryValue) → acl_by names texts ≡ Ok acl → test_acl acl ≡ list_any test texts) where
  default-any : (list : List ℕ) (default : Option (List EntryValue)) → default_by names list ≡ Ok default → option_map_or test_acl default false ≡ list_any test (pieces_of Default list)
  default-any list default is = by_some (list_any is_default (parts newline list)) refl is
    where
      by_some : (b : Bool) → list_any is_default (parts newline list) ≡ b → cond b (if_there (acl_by names (pieces_of Default list))) (Ok None) ≡ Ok default
          → option_map_or test_acl default false ≡ list_any test (pieces_of Default list)
      by_some true some is =
          let (acl, read, made) = bind_ok (acl_by names (pieces_of Default list)) (λ acl. Ok (Some acl)) default is in
          let same : Some acl ≡ default = cc in
          ap (λ default. option_map_or test_acl default false) (sym same) ∙ says (pieces_of Default list) acl read
      by_some false none is =
          let same : None ≡ default = cc in
          ap (λ default. option_map_or test_acl default false) (sym same) ∙ sym (ap (list_any test) (no_default (parts newline list) none))

  pub posix-any : (list : List ℕ) (found : Lists) → posix_by names list ≡ Ok found
      → (access : List EntryValue) × (default : Option (List EntryValue)) × (Posix access default ≡ found)
      × ((test_acl access || option_map_or test_acl default false) ≡ list_any (λ line. list_any test (pieces (cond (is_default line) (drop 8 line) line))) (parts newline list))
  posix-any list found is =
      let (access, read, rest) = bind_ok (acl_by names (pieces_of Access list)) (λ access. default_by names list >>= (λ default. Ok (Posix access default))) found is in
      let (default, read_too, made) = bind_ok (default_by names list) (λ default. Ok (Posix access default)) found rest in
      let same : Posix access default ≡ found = cc in
      let any = ap₂ (λ one other. one || other) (says (pieces_of Access list) access read) (default-any list default read_too)
      ∙ sym (either_list test (parts newline list) (parts-lack list)) in
      (access, default, same, any)
