-- A text whose pieces are all entries has no line of a default list.
use Rattle.std.proofs.Common.{◌≡◌, ◌∙◌, ℕ, ◌==◌, ◌||◌, Bool, true, false, cond, not, List, [], ◌∷◌, ◌++◌, None, Some, Ok, ap, refl, sym, subst}
use Rattle.std.proofs.Common.{codes, drop, flat_map, is_some, map, reverse, take}
use Rattle.std.specs.List.{All, before_first, list_all, list_any, onto_first}
use Rattle.std.proofs.lemmas.Bool.{and_parts, false≢true, not-true}
use Rattle.std.proofs.lemmas.List.{reverse-append, take-append-drop}
use Rattle.std.proofs.lemmas.List.Elements.{All-cons, All-head, All-nil, All-tail}
use Rattle.std.proofs.lemmas.Slice.Eq.{bytes_eq-Decides}
use Rattle.acl_names.specs.Bytes.{colon, comma, hash, newline}
use Rattle.acl_names.specs.ListText.{PiecesSay, Spells}
use Rattle.acl_names.specs.Names.{Names}
use Rattle.acl_names.specs.Pieces.{content, is_blank, parts, pieces, pieces_of_content, trim, trim_start}
use Rattle.acl_posix.specs.Entry.{EntryValue}
use Rattle.acl_posix.specs.EntryText.{Fields, entry_by, tag_word}
use Rattle.acl_posix.specs.InOrder.{in_order}
use Rattle.acl_posix.specs.Validity.{fault_of}
use Rattle.acl_posix.specs.declared.limits.TheConstants.{MAX_ENTRIES}
use Rattle.acl_listings.specs.BlockLists.{lists_by, lists_in}
use Rattle.acl_listings.specs.ListLines.{is_default}
use Rattle.acl_listings.specs.declared.lists.Lists.TheVariants.{Posix}
use Rattle.acl_listings.proofs.AccessLemmas.{line_pieces, listed, posix_alone}
use Rattle.acl_listings.proofs.ExtentLemmas.{before-later}
use Rattle.acl_listings.proofs.FormLemmas.{Read, form_said, read_of}

-- the word that a line of a default list begins with
abbrev pub word : List ℕ
word = codes "default:"

-- blanks are taken up to another byte
record Stopped (byte : ℕ) (back text : List ℕ) : Type 0 where
  pub kept : List ℕ
  pub is : text ≡ kept ++ byte ∷ back

stopped : (front : List ℕ) (byte : ℕ) (back : List ℕ) → is_blank byte ≡ false → Stopped byte back (trim_start (front ++ byte ∷ back))
stopped [] byte back is = record { kept = []; is = ap (λ b. cond b (trim_start back) (byte ∷ back)) is }
stopped (first ∷ front) byte back is = by_first (is_blank first) (stopped front byte back is)
  where
    by_first : (b : Bool) → Stopped byte back (trim_start (front ++ byte ∷ back))
        → Stopped byte back (cond b (trim_start (front ++ byte ∷ back)) (first ∷ front ++ byte ∷ back))
    by_first true more = more
    by_first false more = record { kept = first ∷ front; is = refl }

-- a text that begins with the word
record BeginsSo (text : List ℕ) : Type 0 where
  pub rest : List ℕ
  pub is : text ≡ word ++ rest

trimmed : (more : List ℕ) → BeginsSo (trim (word ++ more))
trimmed more =
    let found = stopped (reverse more) colon (codes "tluafed") refl in
    record {
      rest = reverse found.kept;
      is = ap (λ text. reverse (trim_start text)) (reverse-append word more) ∙ ap reverse found.is ∙ reverse-append found.kept (colon ∷ codes "tluafed");
    }

before_behind : (p : ℕ → Bool) (front back : List ℕ) → list_all (λ byte. not (p byte)) front ≡ true → before_first p (front ++ back) ≡ front ++ before_first p back
before_behind p [] back lacks = refl
before_behind p (byte ∷ front) back lacks =
    let parts = and_parts (not (p byte)) (list_all (λ byte. not (p byte)) front) lacks in
    before-later p byte (front ++ back) (not-true (p byte) parts.0) ∙ ap (λ rest. byte ∷ rest) (before_behind p front back parts.1)

-- the parts of a text that begins so, round a separator that the word lacks
record FirstPart (texts : List (List ℕ)) : Type 0 where
  pub part : List ℕ
  pub more : List (List ℕ)
  pub is : texts ≡ (word ++ part) ∷ more

first_part : (rest : List ℕ) → FirstPart (parts comma (word ++ rest))
first_part rest = by_parts (parts comma rest)
  where
    by_parts : (each : List (List ℕ)) → FirstPart (onto_first 100 (onto_first 101 (onto_first 102 (onto_first 97 (onto_first 117 (onto_first 108 (onto_first 116 (onto_first 58 each))))))))
    by_parts [] = record { part = []; more = []; is = refl }
    by_parts (part ∷ more) = record { part = part; more = more; is = refl }

-- no entry begins so
no_entry : (names : Names) (rest : List ℕ) (entry : EntryValue) → entry_by names (word ++ rest) ≡ Ok entry → ⊥
no_entry names rest entry is = by_parts (parts colon rest) (read_of names (word ++ rest) entry is)
  where
    other : (fields : Fields) → fields.tag ≡ trim (codes "default") → is_some (tag_word fields.tag) ≡ true → ⊥
    other fields tag some = false≢true (sym (ap (λ text. is_some (tag_word text)) tag) ∙ some)

    by_parts : (each : List (List ℕ)) → Read names (codes "default" ∷ each) → ⊥
    by_parts [] read = let none : None ≡ Some read.fields = read.cut in cc
    by_parts (a ∷ []) read =
        let two : Some (record { tag = trim (codes "default"); qualifier = None; perms = trim a }) ≡ Some read.fields = read.cut in
        let fields : record { tag = trim (codes "default"); qualifier = None; perms = trim a } ≡ read.fields = cc in
        other read.fields (sym (ap (λ (f : Fields). f.tag) fields)) read.word_is
    by_parts (a ∷ b ∷ []) read =
        let three : Some (record { tag = trim (codes "default"); qualifier = Some (trim a); perms = trim b }) ≡ Some read.fields = read.cut in
        let fields : record { tag = trim (codes "default"); qualifier = Some (trim a); perms = trim b } ≡ read.fields = cc in
        other read.fields (sym (ap (λ (f : Fields). f.tag) fields)) read.word_is
    by_parts (a ∷ b ∷ c ∷ more) read = let none : None ≡ Some read.fields = read.cut in cc

-- the pieces of a line of a default list
line_begun : (line : List ℕ) → is_default line ≡ true → BeginsSo line
line_begun line is = record { rest = drop 8 line; is = sym (take-append-drop 8 line) ∙ ap (λ front. front ++ drop 8 line) (sym ((bytes_eq-Decides word (take 8 line)).0 is)) }

content_begun : (line : List ℕ) → BeginsSo line → BeginsSo (content line)
content_begun line begun =
    let found = trimmed (before_first (λ byte. byte == hash) begun.rest) in
    record { rest = found.rest; is = ap content begun.is ∙ ap trim (before_behind (λ byte. byte == hash) word begun.rest refl) ∙ found.is }

first_piece : (line : List ℕ) → is_default line ≡ true → FirstPart (line_pieces line)
first_piece line is =
    let found = content_begun line (line_begun line is) in
    let cut = first_part found.rest in
    let begun = trimmed cut.part in
    record { part = begun.rest; more = map trim cut.more; is = ap pieces_of_content found.is ∙ ap (map trim) cut.is ∙ ap (λ piece. piece ∷ map trim cut.more) begun.is }

module _ (names : Names) where
  abbrev pub IsEntry : List ℕ → Type 0
  IsEntry piece = (entry : EntryValue) × (entry_by names piece ≡ Ok entry)

  are_entries : (texts : List (List ℕ)) (entries : List EntryValue) → PiecesSay (entry_by names) texts entries → All IsEntry texts
  are_entries [] entries said = All-nil IsEntry
  are_entries (text ∷ texts) [] said = cc
  are_entries (text ∷ texts) (entry ∷ entries) said =
      let first : entry_by names text ≡ Ok entry = cc in
      let rest : map (entry_by names) texts ≡ map Ok entries = cc in
      All-cons IsEntry text texts (entry, first) (are_entries texts entries rest)

  behind : (front back : List (List ℕ)) → All IsEntry (front ++ back) → All IsEntry back
  behind [] back each = each
  behind (text ∷ front) back each = behind front back (All-tail IsEntry text (front ++ back) each)

  lines_lack : (lines : List (List ℕ)) → All IsEntry (flat_map line_pieces lines) → list_any is_default lines ≡ false
  lines_lack [] each = refl
  lines_lack (line ∷ lines) each = by_first (is_default line) refl (lines_lack lines (behind (line_pieces line) (flat_map line_pieces lines) each))
    where
      by_first : (b : Bool) → is_default line ≡ b → list_any is_default lines ≡ false → (b || list_any is_default lines) ≡ false
      by_first true is more =
          let found = first_piece line is in
          let first : IsEntry (word ++ found.part) = All-head IsEntry (word ++ found.part) (found.more ++ flat_map line_pieces lines) (subst (λ texts. All IsEntry (texts ++ flat_map line_pieces lines)) found.is each) in
          absurd (no_entry names found.part first.0 first.1)
      by_first false is more = more

  pub no_default : (list : List ℕ) (entries : List EntryValue) → PiecesSay (entry_by names) (pieces list) entries → list_any is_default (parts newline list) ≡ false
  no_default list entries said = lines_lack (parts newline list) (are_entries (pieces list) entries said)

  -- so they spell an access list alone
  pub lists_alone : (list : List ℕ) (entries access : List EntryValue) → Spells (entry_by names) MAX_ENTRIES list entries → fault_of entries ≡ None → access ≡ in_order entries
      → lists_by names list ≡ Ok (Posix access None)
  lists_alone list entries access spelt valid is =
      ap (λ form. lists_in form names list) (form_said names (pieces list) entries spelt.said)
      ∙ posix_alone names list access (no_default list entries spelt.said) (listed names list entries None spelt valid ∙ ap Ok (sym is))
