-- The first block of a text, and the blocks behind it.
use Rattle.std.proofs.Common.{◌≡◌, ℕ, ◌+◌, ◌==◌, ◌<◌, ◌&&◌, Bool, true, false, cond, List, [], ◌∷◌, ◌++◌, length, map, suc, ap, ap₂, refl, sym, ◌∙◌, append-nil, arith}
use Rattle.std.specs.List.{All, enumerate_from, filter_map, join_with_byte, onto_first, slice_split}
use Rattle.std.proofs.lemmas.List.Elements.{All-cons, All-head, All-nil, All-tail}
use Rattle.std.proofs.lemmas.List.Splits.{join_with_byte-slice_split, length-slice_split, slice_split_at, slice_split_none}
use Rattle.std.proofs.Math.Dec.{eqb-suc-zero}
use Rattle.std.proofs.lemmas.Bool.{and_parts}
use Rattle.std.proofs.lemmas.Bool.Decides.{Decides-eqb}
use Rattle.acl_names.specs.Bytes.{newline}
use Rattle.acl_names.specs.Pieces.{lines_of, parts, without_empty_last}
use Rattle.acl_listings.specs.Extent.{EndsBlock, HasFullLines, has_full_lines, newlines_in}
use Rattle.acl_listings.specs.Listing.{Block, block_of, blocks_from, is_empty_line}
use Rattle.acl_listings.proofs.ExtentLemmas.{is_newline}

abbrev IsFull : List ℕ → Type 0
IsFull line = 0 < length line

-- the parts of a text are a first one and others; begun: the first has a byte that went before
record HasParts (begun : Bool) (text : List ℕ) : Type 0 where
  pub first : List ℕ
  pub more : List (List ℕ)
  pub are : parts newline text ≡ first ∷ more
  pub fresh : begun ≡ false → IsFull first
  pub each : All IsFull more

full_parts : (begun : Bool) (text : List ℕ) → has_full_lines begun text ≡ true → HasParts begun text
full_parts begun [] is = record { first = []; more = []; are = refl; fresh = λ not. cc; each = All-nil IsFull }
full_parts begun (byte ∷ bytes) is = by_first (is_newline byte) refl is (full_parts false bytes) (full_parts true bytes)
  where
    by_first : (b : Bool) → is_newline byte ≡ b → cond b (begun && has_full_lines false bytes) (has_full_lines true bytes) ≡ true
        → (has_full_lines false bytes ≡ true → HasParts false bytes) → (has_full_lines true bytes ≡ true → HasParts true bytes) → HasParts begun (byte ∷ bytes)
    by_first true at is fresh going =
        let both = and_parts begun (has_full_lines false bytes) is in
        let rest = fresh both.1 in
        record {
          first = [];
          more = rest.first ∷ rest.more;
          are = ap (λ b. cond b ([] ∷ parts newline bytes) (onto_first byte (parts newline bytes))) at ∙ ap (λ more. [] ∷ more) rest.are;
          fresh = λ not. cc;
          each = All-cons IsFull rest.first rest.more (rest.fresh refl) rest.each;
        }
    by_first false at is fresh going =
        let rest = going is in
        record {
          first = byte ∷ rest.first;
          more = rest.more;
          are = ap (λ b. cond b ([] ∷ parts newline bytes) (onto_first byte (parts newline bytes))) at ∙ ap (onto_first byte) rest.are;
          fresh = λ not. omega arith;
          each = rest.each;
        }

-- the parts of any text
record SomeParts (separator : ℕ) (text : List ℕ) : Type 0 where
  pub first : List ℕ
  pub more : List (List ℕ)
  pub are : parts separator text ≡ first ∷ more

some_parts : (separator : ℕ) (text : List ℕ) → SomeParts separator text
some_parts separator [] = record { first = []; more = []; are = refl }
some_parts separator (byte ∷ bytes) = by_first (byte == separator) refl (some_parts separator bytes)
  where
    by_first : (b : Bool) → (byte == separator) ≡ b → SomeParts separator bytes → SomeParts separator (byte ∷ bytes)
    by_first true at rest = record {
      first = [];
      more = parts separator bytes;
      are = ap (λ b. cond b ([] ∷ parts separator bytes) (onto_first byte (parts separator bytes))) at;
    }
    by_first false at rest = record {
      first = byte ∷ rest.first;
      more = rest.more;
      are = ap (λ b. cond b ([] ∷ parts separator bytes) (onto_first byte (parts separator bytes))) at ∙ ap (onto_first byte) rest.are;
    }

-- the parts on both sides of a separator
pub parts-append : (separator : ℕ) (front back : List ℕ) → parts separator (front ++ separator ∷ back) ≡ parts separator front ++ parts separator back
parts-append separator [] back =
    ap (λ b. cond b ([] ∷ parts separator back) (onto_first separator (parts separator back))) ((Decides-eqb separator separator).1 refl)
parts-append separator (byte ∷ front) back = by_first (byte == separator) (some_parts separator front) (parts-append separator front back)
  where
    by_first : (b : Bool) → SomeParts separator front → parts separator (front ++ separator ∷ back) ≡ parts separator front ++ parts separator back
        → cond b ([] ∷ parts separator (front ++ separator ∷ back)) (onto_first byte (parts separator (front ++ separator ∷ back)))
        ≡ cond b ([] ∷ parts separator front) (onto_first byte (parts separator front)) ++ parts separator back
    by_first true some rest = ap (λ more. [] ∷ more) rest
    by_first false some rest = ap (onto_first byte) (rest ∙ ap (λ lines. lines ++ parts separator back) some.are)
        ∙ ap (λ lines. onto_first byte lines ++ parts separator back) (sym some.are)

-- lines of which the last isn't empty
all_full : (lines : List (List ℕ)) → All IsFull lines → without_empty_last lines ≡ lines
all_full [] each = refl
all_full ([] ∷ []) each = absurd (omega (arith, All-head IsFull [] [] each))
all_full ((byte ∷ bytes) ∷ []) each = refl
all_full ([] ∷ next ∷ more) each = ap (λ rest. [] ∷ rest) (all_full (next ∷ more) (All-tail IsFull [] (next ∷ more) each))
all_full ((byte ∷ bytes) ∷ next ∷ more) each = ap (λ rest. (byte ∷ bytes) ∷ rest) (all_full (next ∷ more) (All-tail IsFull (byte ∷ bytes) (next ∷ more) each))

before_more : (line next : List ℕ) (more : List (List ℕ)) → without_empty_last (line ∷ next ∷ more) ≡ line ∷ without_empty_last (next ∷ more)
before_more [] next more = refl
before_more (byte ∷ bytes) next more = refl

before_lines : (lines : List (List ℕ)) (next : List ℕ) (more : List (List ℕ)) → without_empty_last (lines ++ next ∷ more) ≡ lines ++ without_empty_last (next ∷ more)
before_lines [] next more = refl
before_lines (line ∷ []) next more = before_more line next more
before_lines (line ∷ other ∷ lines) next more = before_more line other (lines ++ next ∷ more) ∙ ap (λ rest. line ∷ rest) (before_lines (other ∷ lines) next more)

-- the lines of a text behind a newline
lines_of-behind : (front back : List ℕ) → lines_of (front ++ newline ∷ back) ≡ parts newline front ++ lines_of back
lines_of-behind front back =
    let some = some_parts newline back in
    ap without_empty_last (parts-append newline front back ∙ ap (λ lines. parts newline front ++ lines) some.are)
    ∙ before_lines (parts newline front) some.first some.more
    ∙ ap (λ lines. parts newline front ++ without_empty_last lines) (sym some.are)

-- numbered lines

enumerate-append : (n : ℕ) (front back : List (List ℕ)) → enumerate_from n (front ++ back) ≡ enumerate_from n front ++ enumerate_from (n + length front) back
enumerate-append n [] back = ap (λ k. enumerate_from k back) (omega arith)
enumerate-append n (line ∷ front) back =
    let moved : n + 1 + length front ≡ n + suc (length front) = omega arith in
    ap (λ rest. (n, line) ∷ rest) (enumerate-append (n + 1) front back ∙ ap (λ k. enumerate_from (n + 1) front ++ enumerate_from k back) moved)

enumerated : (n : ℕ) (lines : List (List ℕ)) → map (λ each. each.1) (enumerate_from n lines) ≡ lines
enumerated n [] = refl
enumerated n (line ∷ lines) = ap (λ rest. line ∷ rest) (enumerated (n + 1) lines)

has_byte : (line : List ℕ) → IsFull line → (length line == 0) ≡ false
has_byte [] some = absurd (omega arith)
has_byte (byte ∷ bytes) some = eqb-suc-zero (length bytes)

abbrev IsNoEmptyLine : ℕ × List ℕ → Type 0
IsNoEmptyLine line = is_empty_line line ≡ false

none_empty : (n : ℕ) (lines : List (List ℕ)) → All IsFull lines → All IsNoEmptyLine (enumerate_from n lines)
none_empty n [] each = All-nil IsNoEmptyLine
none_empty n (line ∷ lines) each =
    All-cons IsNoEmptyLine (n, line) (enumerate_from (n + 1) lines) (has_byte line (All-head IsFull line lines each)) (none_empty (n + 1) lines (All-tail IsFull line lines each))

abbrev blocks_of_lines : ℕ → List (List ℕ) → List Block
blocks_of_lines n lines = filter_map block_of (slice_split is_empty_line (enumerate_from n lines))

abbrev block_at : ℕ → List ℕ → Block
block_at n text = record { line = n; text = text }

module _ (n : ℕ) (first : List ℕ) (more : List (List ℕ)) (each : All IsFull (first ∷ more)) where
  text_of : join_with_byte newline (map (λ each. each.1) (enumerate_from n (first ∷ more))) ≡ join_with_byte newline (first ∷ more)
  text_of = ap (join_with_byte newline) (enumerated n (first ∷ more))

  alone : blocks_of_lines n (first ∷ more) ≡ block_at n (join_with_byte newline (first ∷ more)) ∷ []
  alone = ap (filter_map block_of) (slice_split_none is_empty_line (enumerate_from n (first ∷ more)) (none_empty n (first ∷ more) each))
      ∙ ap (λ text. block_at n text ∷ []) text_of

  followed : (rest : List (List ℕ)) → blocks_of_lines n ((first ∷ more) ++ [] ∷ rest)
      ≡ block_at n (join_with_byte newline (first ∷ more)) ∷ blocks_of_lines (n + length (first ∷ more) + 1) rest
  followed rest =
      let k = n + length (first ∷ more) in
      ap (λ lines. filter_map block_of (slice_split is_empty_line lines)) (enumerate-append n (first ∷ more) ([] ∷ rest))
      ∙ ap (filter_map block_of) (slice_split_at is_empty_line (enumerate_from n (first ∷ more)) (k, []) (enumerate_from (k + 1) rest) (none_empty n (first ∷ more) each) refl)
      ∙ ap (λ text. block_at n text ∷ blocks_of_lines (k + 1) rest) text_of

-- an empty line belongs to no block
pub blocks-empty_line : (n : ℕ) (rest : List ℕ) → blocks_from n (newline ∷ rest) ≡ blocks_from (n + 1) rest
blocks-empty_line n rest = ap (blocks_of_lines n) (lines_of-behind [] rest)

module _ (n : ℕ) (block : List ℕ) (full : HasFullLines block) where
  abbrev lines : HasParts false block
  lines = full_parts false block full

  each_line : All IsFull (lines.first ∷ lines.more)
  each_line = All-cons IsFull lines.first lines.more (lines.fresh refl) lines.each

  joined : join_with_byte newline (lines.first ∷ lines.more) ≡ block
  joined = ap (join_with_byte newline) (sym lines.are) ∙ join_with_byte-slice_split newline block

  count_of : length (lines.first ∷ lines.more) ≡ newlines_in block + 1
  count_of = ap length (sym lines.are) ∙ length-slice_split is_newline block

  alone_text : blocks_of_lines n (parts newline block) ≡ block_at n block ∷ []
  alone_text = ap (blocks_of_lines n) lines.are ∙ alone n lines.first lines.more each_line ∙ ap (λ text. block_at n text ∷ []) joined

  -- the first block of a text, and those behind it
  pub blocks-first : (rest : List ℕ) → EndsBlock rest → blocks_from n (block ++ rest) ≡ block_at n block ∷ blocks_from (n + newlines_in block) rest
  blocks-first [] ends =
      ap (blocks_from n) (append-nil block)
      ∙ ap (λ lines. blocks_of_lines n (without_empty_last lines)) lines.are
      ∙ ap (blocks_of_lines n) (all_full (lines.first ∷ lines.more) each_line ∙ sym lines.are) ∙ alone_text
  blocks-first (byte ∷ []) ends =
      ap (λ b. blocks_from n (block ++ b ∷ [])) ends
      ∙ ap (blocks_of_lines n) (lines_of-behind block [] ∙ append-nil (parts newline block)) ∙ alone_text
      ∙ ap (λ b. block_at n block ∷ blocks_from (n + newlines_in block) (b ∷ [])) (sym ends)
  blocks-first (byte ∷ next ∷ more) ends =
      let k = n + newlines_in block in
      let lines_are : lines_of (block ++ newline ∷ newline ∷ more) ≡ (lines.first ∷ lines.more) ++ [] ∷ lines_of more =
      lines_of-behind block (newline ∷ more) ∙ ap₂ (λ front back. front ++ back) lines.are (lines_of-behind [] more) in
      let behind : n + length (lines.first ∷ lines.more) + 1 ≡ k + 1 + 1 = omega (arith, count_of) in
      ap₂ (λ b c. blocks_from n (block ++ b ∷ c ∷ more)) ends.0 ends.1
      ∙ ap (blocks_of_lines n) lines_are
      ∙ followed n lines.first lines.more each_line (lines_of more)
      ∙ ap₂ (λ text m. block_at n text ∷ blocks_from m more) joined behind
      ∙ ap (λ rest. block_at n block ∷ rest) (sym (blocks-empty_line k (newline ∷ more) ∙ blocks-empty_line (k + 1) more))
      ∙ ap₂ (λ b c. block_at n block ∷ blocks_from k (b ∷ c ∷ more)) (sym ends.0) (sym ends.1)
