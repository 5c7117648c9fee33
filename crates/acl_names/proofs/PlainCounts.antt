-- How many pieces a text has at least whose front was read plainly.
use Rattle.std.proofs.Common.{◌≡◌, ℕ, ◌==◌, ◌+◌, ◌<◌, ◌≤◌, suc, true, false, cond, List, [], ◌∷◌, ◌++◌, length, reverse, length-append, inl, inr, Result, refl, sym, ap, ◌∙◌, append_assoc, arith}
use Rattle.std.specs.List.{flat_map, before_first, position_or_len, count_by, onto_first}
use Rattle.std.proofs.lemmas.Bool.{cases_Bool, eqb-true, false≢true}
use Rattle.std.proofs.lemmas.List.{length-map, length-reverse, reverse-append}
use Rattle.std.proofs.lemmas.List.Elements.{All-head, All-tail}
use Rattle.std.proofs.lemmas.List.Sums.{sum_by-append, sum_by-cons}
use Rattle.std.proofs.lemmas.List.Splits.{length-slice_split, slice_split-cons_no}
use Rattle.acl_names.specs.Bytes.{newline, hash, comma}
use Rattle.acl_names.specs.Pieces.{is_blank, trim_start, trim, parts, trimmed_parts, content, pieces_of_content, pieces}
use Rattle.acl_names.specs.Plain.{IsFront}
use Rattle.acl_names.proofs.PlainLines.{Lacks, LacksBlanks}
use Rattle.acl_names.proofs.PlainLists.{IsLineFront, IsReadPlainly, whole_blanks, whole_newlines, whole_hashes}
use Rattle.acl_names.proofs.ReadListLemmas.{length-Say}

abbrev commas : List ℕ → ℕ
commas = count_by (λ x. x == comma)

commas-append : (xs ys : List ℕ) → commas (xs ++ ys) ≡ commas xs + commas ys
commas-append = sum_by-append (λ x. cond (x == comma) 1 0)

commas-cons : (x : ℕ) (xs : List ℕ) → commas (x ∷ xs) ≡ cond (x == comma) 1 0 + commas xs
commas-cons = sum_by-cons (λ x. cond (x == comma) 1 0)

-- a blank is no comma, so trimming takes none away
no_comma : (x : ℕ) → is_blank x ≡ true → (x == comma) ≡ false
no_comma x blank =
    elim (cases_Bool (x == comma)) [
      | inl is_comma ↦ let is : x ≡ comma = eqb-true x comma is_comma in absurd (false≢true (sym (ap is_blank is) ∙ blank))
      | inr other ↦ other
    ]

commas-trim_start : (xs : List ℕ) → commas (trim_start xs) ≡ commas xs
commas-trim_start [] = refl
commas-trim_start (x ∷ xs) =
    elim (cases_Bool (is_blank x)) [
      | inl blank ↦
          let all : commas (x ∷ xs) ≡ 0 + commas xs = commas-cons x xs ∙ ap (λ b. cond b 1 0 + commas xs) (no_comma x blank) in
          let rest = commas-trim_start xs in
          rw blank (omega arith)
      | inr not_blank ↦ rw not_blank refl
    ]

commas-reverse : (xs : List ℕ) → commas (reverse xs) ≡ commas xs
commas-reverse [] = refl
commas-reverse (x ∷ xs) =
    let turned = ap (λ ys. commas ys) (reverse-append (x ∷ []) xs) in
    let both = commas-append (reverse xs) (x ∷ []) in
    let rest = commas-reverse xs in
    let here = commas-cons x xs in
    let only = commas-cons x [] in
    omega arith

commas-trim : (xs : List ℕ) → commas (trim xs) ≡ commas xs
commas-trim xs =
    let front = trim_start xs in
    commas-reverse (trim_start (reverse front)) ∙ commas-trim_start (reverse front) ∙ commas-reverse front ∙ commas-trim_start xs

-- what begins with no blank is not trimmed away
trim_start_keeps : (xs : List ℕ) (x : ℕ) → is_blank x ≡ false → 0 < length (trim_start (xs ++ x ∷ []))
trim_start_keeps [] x not_blank = rw not_blank (omega arith)
trim_start_keeps (y ∷ xs) x not_blank =
    elim (cases_Bool (is_blank y)) [
      | inl blank ↦ rw blank (trim_start_keeps xs x not_blank)
      | inr kept ↦ rw kept (omega arith)
    ]

trim_keeps : (x : ℕ) (xs : List ℕ) → is_blank x ≡ false → 0 < length (trim (x ∷ xs))
trim_keeps x xs not_blank =
    let same : trim_start (x ∷ xs) ≡ x ∷ xs = rw not_blank refl in
    let turned = reverse-append (x ∷ []) xs in
    let some : 0 < length (trim_start (reverse (x ∷ xs))) = rw turned (trim_start_keeps (reverse xs) x not_blank) in
    rw same (omega (arith, length-reverse (trim_start (reverse (x ∷ xs)))))

-- what stands before the first '#' begins with what has none
before_hash_front : (xs ys : List ℕ) → Lacks hash xs → (rest : List ℕ) × (before_first (λ x. x == hash) (xs ++ ys) ≡ xs ++ rest)
before_hash_front [] ys lacks = (before_first (λ x. x == hash) ys, refl)
before_hash_front (x ∷ xs) ys lacks =
    let more = before_hash_front xs ys (All-tail (λ y. (y == hash) ≡ false) x xs lacks) in
    let on : 1 + position_or_len (λ x. x == hash) (xs ++ ys) ≡ suc (position_or_len (λ x. x == hash) (xs ++ ys)) = omega arith in
    (more.0, rw (All-head (λ y. (y == hash) ≡ false) x xs lacks, on) (ap (λ zs. x ∷ zs) more.1))

-- the first line begins with what has no newline
first_line : (xs ys : List ℕ) → Lacks newline xs → (rest : List ℕ) × (lines : List (List ℕ)) × (parts newline (xs ++ ys) ≡ (xs ++ rest) ∷ lines)
first_line [] ys lacks = first_of (parts newline ys) (omega (arith, length-slice_split (λ x. x == newline) ys))
  where
    first_of : (lines : List (List ℕ)) → 0 < length lines → (rest : List ℕ) × (others : List (List ℕ)) × (lines ≡ rest ∷ others)
    first_of [] some = absurd (omega arith)
    first_of (line ∷ lines) some = (line, lines, refl)
first_line (x ∷ xs) ys lacks =
    let more = first_line xs ys (All-tail (λ y. (y == newline) ≡ false) x xs lacks) in (
      more.0,
      more.1,
      slice_split-cons_no (λ y. y == newline) x (xs ++ ys) (All-head (λ y. (y == newline) ≡ false) x xs lacks) ∙ ap (onto_first x) more.2,
    )

count_parts : (bytes : List ℕ) → 0 < length bytes → length (pieces_of_content bytes) ≡ commas bytes + 1
count_parts [] some = absurd (omega arith)
count_parts (byte ∷ bytes) some = length-map (parts comma (byte ∷ bytes)) trim ∙ length-slice_split (λ x. x == comma) (byte ∷ bytes)

-- a line that begins with no blank has a piece more than its front has commas
line_pieces_many : (xs ys : List ℕ) → 0 < length xs → LacksBlanks xs → Lacks hash xs → commas xs + 1 ≤ length (pieces_of_content (content (xs ++ ys)))
line_pieces_many [] ys some blanks hashes = absurd (omega arith)
line_pieces_many (x ∷ xs) ys some blanks hashes =
    let before = before_hash_front (x ∷ xs) ys hashes in
    let bytes = (x ∷ xs) ++ before.0 in
    let is : content ((x ∷ xs) ++ ys) ≡ trim bytes = ap trim before.1 in
    let many = count_parts (trim bytes) (trim_keeps x (xs ++ before.0) (All-head (λ y. is_blank y ≡ false) x xs blanks)) in
    let kept = commas-trim bytes in
    let both = commas-append (x ∷ xs) before.0 in
    rw is (omega arith)

pieces_many : (xs ys : List ℕ) → 0 < length xs → LacksBlanks xs → Lacks newline xs → Lacks hash xs → commas xs + 1 ≤ length (pieces (xs ++ ys))
pieces_many xs ys some blanks newlines hashes =
    let first = first_line xs ys newlines in
    let is : pieces (xs ++ ys) ≡ pieces_of_content (content (xs ++ first.0)) ++ flat_map (λ line. pieces_of_content (content line)) first.1 =
    ap (flat_map (λ line. pieces_of_content (content line))) first.2 in
    let here = line_pieces_many xs first.0 some blanks hashes in
    let both = length-append (pieces_of_content (content (xs ++ first.0))) (flat_map (λ line. pieces_of_content (content line)) first.1) in
    rw is (omega arith)

-- the front of a line has a piece for each comma
commas_of_front : (line : List ℕ) (front : List (List ℕ)) → IsLineFront line front → commas line ≡ length front
commas_of_front line front is =
    let lengths = ap (λ (xs : List (List ℕ)). length xs) (is.split []) in
    let mapped = length-map (parts comma (line ++ [])) trim in
    let counted = length-slice_split (λ x. x == comma) (line ++ []) in
    let both = commas-append line [] in
    let joined = length-append front (trimmed_parts comma []) in
    omega arith

-- a text that has a further front has more pieces than were read
pub one_more_piece : {A F : Type 0} (value_of : List ℕ → Result A F) (text rest : List ℕ) (list : List A) → IsReadPlainly value_of text rest list
    → (value : A) (behind : List ℕ) → IsFront value_of rest value behind → length list < length (pieces text)
one_more_piece {A} {F} value_of text rest list so_far value behind found =
    let line = so_far.line in
    let piece = found.piece in
    let regrouped : line ++ rest ≡ (line ++ piece) ++ behind = ap (λ t. line ++ t) found.cut ∙ sym (append_assoc line piece behind) in
    let whole = length-append line piece in
    let some : 0 < length (line ++ piece) = omega (arith, found.some) in
    let many = pieces_many (line ++ piece) behind some (whole_blanks line so_far.front so_far.is piece
    found.plain) (whole_newlines line so_far.front so_far.is piece found.plain)
    (whole_hashes line so_far.front so_far.is piece found.plain) in
    let counted = commas_of_front line so_far.front so_far.is in
    let both = commas-append line piece in
    let all : pieces text ≡ so_far.before ++ pieces ((line ++ piece) ++ behind) = so_far.cut ∙ ap (λ t. so_far.before ++ pieces t) regrouped in
    let lengths = ap (λ (xs : List (List ℕ)). length xs) all in
    let joined = length-append so_far.before (pieces ((line ++ piece) ++ behind)) in
    let fronts = length-append so_far.before so_far.front in
    let said = length-Say value_of (so_far.before ++ so_far.front) list so_far.said in
    omega arith
