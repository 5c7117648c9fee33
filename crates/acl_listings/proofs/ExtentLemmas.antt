-- How a block's lines go on, line by line.
use Rattle.std.proofs.Common.{◌≡◌, ◌≢◌, ℕ, ◌+◌, ◌==◌, ◌<◌, ◌&&◌, Bool, true, false, cond, not, List, [], ◌∷◌}
use Rattle.std.proofs.Common.{◌++◌, length, drop, take, ap, refl, sym, ◌∙◌, ◌⊎◌, inl, inr, subst}
use Rattle.std.proofs.Common.{append_assoc, length-append, arith, one-add}
use Rattle.std.specs.List.{All, before_first, position_or_len, slice_index}
use Rattle.std.proofs.lemmas.Bool.Decides.{eqb_tells}
use Rattle.std.proofs.lemmas.List.{get_or-append-add}
use Rattle.std.proofs.lemmas.List.Elements.{All-cons, All-head, All-nil, All-tail}
use Rattle.std.proofs.lemmas.List.Sums.{sum_by-append, sum_by-cons}
use Rattle.std.proofs.Math.Seq.{drop-append-add}
use Rattle.std.proofs.lemmas.Bool.{and_parts}
use Rattle.acl_names.specs.Bytes.{newline}
use Rattle.acl_listings.specs.Extent.{BeginsLine, EndsBlock, HasFullLines, IsExtent, has_full_lines, newlines_in}

abbrev pub is_newline : ℕ → Bool
is_newline byte = byte == newline

abbrev pub LacksNewline : List ℕ → Type 0
LacksNewline line = All (λ byte. is_newline byte ≡ false) line

-- it begins with a newline, or there is nothing
abbrev pub EndsLine : List ℕ → Type 0
EndsLine [] = Unit {0}
EndsLine (byte ∷ bytes) = byte ≡ newline

pub full-append : (begun : Bool) (front back : List ℕ) → has_full_lines begun front ≡ true → has_full_lines begun (front ++ back) ≡ has_full_lines true back
full-append begun [] back is = ap (λ b. has_full_lines b back) is
full-append begun (byte ∷ front) back is = by_first (is_newline byte) is (full-append false front back) (full-append true front back)
  where
    by_first : (b : Bool) → cond b (begun && has_full_lines false front) (has_full_lines true front) ≡ true
        → (has_full_lines false front ≡ true → has_full_lines false (front ++ back) ≡ has_full_lines true back)
        → (has_full_lines true front ≡ true → has_full_lines true (front ++ back) ≡ has_full_lines true back)
        → cond b (begun && has_full_lines false (front ++ back)) (has_full_lines true (front ++ back)) ≡ has_full_lines true back
    by_first true is fresh going =
        let parts = and_parts begun (has_full_lines false front) is in
        ap (λ b. b && has_full_lines false (front ++ back)) parts.0 ∙ fresh parts.1
    by_first false is fresh going = going is

pub full-lacking : (line : List ℕ) → LacksNewline line → has_full_lines true line ≡ true
full-lacking [] lacks = refl
full-lacking (byte ∷ line) lacks =
    ap (λ b. cond b (true && has_full_lines false line) (has_full_lines true line)) (All-head (λ x. is_newline x ≡ false) byte line lacks)
    ∙ full-lacking line (All-tail (λ x. is_newline x ≡ false) byte line lacks)

pub full-line : (line : List ℕ) → 0 < length line → LacksNewline line → HasFullLines line
full-line [] some lacks = absurd (omega arith)
full-line (byte ∷ line) some lacks =
    ap (λ b. cond b (false && has_full_lines false line) (has_full_lines true line)) (All-head (λ x. is_newline x ≡ false) byte line lacks)
    ∙ full-lacking line (All-tail (λ x. is_newline x ≡ false) byte line lacks)

pub newlines-lacking : (line : List ℕ) → LacksNewline line → newlines_in line ≡ 0
newlines-lacking [] lacks = refl
newlines-lacking (byte ∷ line) lacks =
    let none = newlines-lacking line (All-tail (λ x. is_newline x ≡ false) byte line lacks) in
    sum_by-cons (λ x. cond (is_newline x) 1 0) byte line
    ∙ ap (λ b. cond b 1 0 + newlines_in line) (All-head (λ x. is_newline x ≡ false) byte line lacks) ∙ omega arith

pub newlines-append : (front back : List ℕ) → newlines_in (front ++ back) ≡ newlines_in front + newlines_in back
newlines-append front back = sum_by-append (λ byte. cond (is_newline byte) 1 0) front back

-- what stands before a byte that isn't the first
pub before-later : (p : ℕ → Bool) (byte : ℕ) (bytes : List ℕ) → p byte ≡ false → before_first p (byte ∷ bytes) ≡ byte ∷ before_first p bytes
before-later p byte bytes is =
    ap (λ b. take (cond (not b) (1 + position_or_len p bytes) 0) (byte ∷ bytes)) is
    ∙ ap (λ n. take n (byte ∷ bytes)) (one-add (position_or_len p bytes))

-- a text as its first line and what stands behind that
pub record FrontLine (text : List ℕ) : Type 0 where
  pub line : List ℕ
  pub rest : List ℕ
  pub is : before_first is_newline text ≡ line
  pub cut : text ≡ line ++ rest
  pub lacks : LacksNewline line
  pub ends : EndsLine rest

front_line : (text : List ℕ) → FrontLine text
front_line [] = record { line = []; rest = []; is = refl; cut = refl; lacks = All-nil (λ x. is_newline x ≡ false); ends = tt }
front_line (byte ∷ bytes) = by_first (eqb_tells byte newline) (front_line bytes)
  where
    by_first : ((is_newline byte ≡ true) × (byte ≡ newline)) ⊎ ((is_newline byte ≡ false) × (byte ≢ newline)) → FrontLine bytes → FrontLine (byte ∷ bytes)
    by_first (inl here) more = record {
      line = [];
      rest = byte ∷ bytes;
      is = ap (λ b. take (cond (not b) (1 + position_or_len is_newline bytes) 0) (byte ∷ bytes)) here.0;
      cut = refl;
      lacks = All-nil (λ x. is_newline x ≡ false);
      ends = here.1;
    }
    by_first (inr other) more = record {
      line = byte ∷ more.line;
      rest = more.rest;
      is = before-later is_newline byte bytes other.0 ∙ ap (λ line. byte ∷ line) more.is;
      cut = ap (λ rest. byte ∷ rest) more.cut;
      lacks = All-cons (λ x. is_newline x ≡ false) byte more.line other.0 more.lacks;
      ends = more.ends;
    }

-- a line that begins has a byte
begun_line : (line rest : List ℕ) (text : List ℕ) → text ≡ line ++ rest → EndsLine rest → BeginsLine text → 0 < length line
begun_line [] [] text cut ends begins = absurd (subst BeginsLine cut begins)
begun_line [] (byte ∷ rest) text cut ends begins = let begun : BeginsLine (byte ∷ rest) = subst BeginsLine cut begins in absurd (begun ends)
begun_line (byte ∷ line) rest text cut ends begins = omega arith

-- the lines so far are full, and a line ends behind them
pub record AreLines (text : List ℕ) (len newlines : ℕ) : Type 0 where
  pub block : List ℕ
  pub rest : List ℕ
  pub cut : text ≡ block ++ rest
  pub bytes : length block ≡ len
  pub full : HasFullLines block
  pub counted : newlines_in block ≡ newlines
  pub ends : EndsLine rest

-- the first line of a text
pub first_line_are : (text line : List ℕ) → line ≡ before_first is_newline text → BeginsLine text → AreLines text (length line) 0
first_line_are text line is begins =
    let front = front_line text in
    record {
      block = front.line;
      rest = front.rest;
      cut = front.cut;
      bytes = ap length (sym (is ∙ front.is));
      full = full-line front.line (begun_line front.line front.rest text front.cut front.ends begins) front.lacks;
      counted = newlines-lacking front.line front.lacks;
      ends = front.ends;
    }

module _ (text : List ℕ) (len newlines : ℕ) where
  -- the line behind a newline
  next_from : (block more line : List ℕ) (byte : ℕ) → text ≡ block ++ byte ∷ more → byte ≡ newline → length block ≡ len → HasFullLines block → newlines_in block ≡ newlines
      → line ≡ before_first is_newline more → BeginsLine more → AreLines text (len + (1 + length line)) (newlines + 1)
  next_from block more line byte cut ends bytes full counted is begins =
      let front = front_line more in
      let fresh : HasFullLines front.line = full-line front.line (begun_line front.line front.rest more front.cut front.ends begins) front.lacks in
      let behind : has_full_lines true (newline ∷ front.line) ≡ true = fresh in
      let none = newlines-lacking front.line front.lacks in
      let one : newlines_in (newline ∷ front.line) ≡ 1 + newlines_in front.line = sum_by-cons (λ x. cond (is_newline x) 1 0) newline front.line in
      let added = newlines-append block (newline ∷ front.line) in
      let long : length line ≡ length front.line = ap length (is ∙ front.is) in
      record {
        block = block ++ newline ∷ front.line;
        rest = front.rest;
        cut = cut ∙ ap (λ b. block ++ b ∷ more) ends ∙ ap (λ rest. block ++ newline ∷ rest) front.cut ∙ sym (append_assoc block (newline ∷ front.line) front.rest);
        bytes = length-append block (newline ∷ front.line) ∙ omega (arith, bytes, long);
        full = full-append false block (newline ∷ front.line) full ∙ behind;
        counted = added ∙ omega (arith, one, none, counted);
        ends = front.ends;
      }

  pub next_line : AreLines text len newlines → len + 1 < length text → (line : List ℕ) → line ≡ before_first is_newline (drop (len + 1) text) → slice_index text (len + 1) ≢ newline
      → AreLines text (len + (1 + length line)) (newlines + 1)
  next_line are inside line is other = by_rest are.rest are.cut are.ends
    where
      by_rest : (rest : List ℕ) → text ≡ are.block ++ rest → EndsLine rest → AreLines text (len + (1 + length line)) (newlines + 1)
      by_rest [] cut ends = absurd (omega (arith, inside, ap length cut, length-append are.block [], are.bytes))
      by_rest (byte ∷ []) cut ends = absurd (omega (arith, inside, ap length cut, length-append are.block (byte ∷ []), are.bytes))
      by_rest (byte ∷ next ∷ more) cut ends =
          let at : slice_index text (len + 1) ≡ next = ap (λ n. slice_index text (n + 1)) (sym are.bytes) ∙ ap (λ t. slice_index t (length are.block + 1)) cut
          ∙ get_or-append-add are.block (byte ∷ next ∷ more) 1 0 in
          let behind : drop (len + 1) text ≡ next ∷ more = ap (λ n. drop (n + 1) text) (sym are.bytes) ∙ ap (λ t. drop (length are.block + 1) t) cut
          ∙ drop-append-add are.block (byte ∷ next ∷ more) 1 in
          next_from are.block (next ∷ more) line byte cut ends are.bytes are.full are.counted (is ∙ ap (before_first is_newline) behind) (λ same. other (at ∙ same))

  -- no line more
  pub extent_ends : AreLines text len newlines → (len + 1 < length text → slice_index text (len + 1) ≡ newline) → IsExtent text len newlines
  extent_ends are stops = record {
    block = are.block;
    rest = are.rest;
    cut = are.cut;
    bytes = are.bytes;
    full = are.full;
    counted = are.counted;
    ends = by_rest are.rest are.cut are.ends;
  }
    where
      by_rest : (rest : List ℕ) → text ≡ are.block ++ rest → EndsLine rest → EndsBlock rest
      by_rest [] cut ends = tt
      by_rest (byte ∷ []) cut ends = ends
      by_rest (byte ∷ next ∷ more) cut ends =
          let at : slice_index text (len + 1) ≡ next = ap (λ n. slice_index text (n + 1)) (sym are.bytes) ∙ ap (λ t. slice_index t (length are.block + 1)) cut
          ∙ get_or-append-add are.block (byte ∷ next ∷ more) 1 0 in
          let inside : len + 1 < length text = omega (arith, ap length cut, length-append are.block (byte ∷ next ∷ more), are.bytes) in
          (ends, sym at ∙ stops inside)
