-- The letters of bits are read as those bits.
use Rattle.std.proofs.Common.{◌≡◌, ℕ, ◌==◌, ◌+◌, ◌*◌, ◌^◌, ◌<◌, ◌≤◌, Bool, true, false, not, ◌&&◌, ◌||◌, cond}
use Rattle.std.proofs.Common.{nat_le, min, max, List, [], ◌∷◌, ◌++◌, append_assoc, zero, suc, map, filter}
use Rattle.std.proofs.Common.{take, drop, length, get_or, length-append, Some, None, refl, sym, ap, subst}
use Rattle.std.proofs.Common.{◌∙◌, arith, bit_and, bit_or, fold}
use Rattle.std.specs.List.{AllByRecursion, list_all, list_any}
use Rattle.std.specs.Int.{bit_at}
use Rattle.std.proofs.lemmas.List.{length-map, take-append-drop}
use Rattle.std.proofs.lemmas.List.Elements.{filter-append}
use Rattle.std.proofs.lemmas.List.Filters.{length-filter_more}
use Rattle.std.proofs.lemmas.List.Sums.{sum_by-cons, sum_by-append}
use Rattle.std.proofs.lemmas.Nat.Bits.{bit_at_and, bit_at_or, and_pow, same_from_bits, bit_at-lt, bit_at-zero}
use Rattle.std.proofs.lemmas.Bool.Decides.{nat_tests, Decides-eqb}
use Rattle.std.proofs.lemmas.Bool.{or_parts}
use Rattle.std.proofs.Math.Bool.{or-true}
use Rattle.acl_names.specs.declared.text.letters.Letter.{Letter}
use Rattle.acl_names.specs.Letters.{occurrences, repeats, is_letter_of, is_letters_text, bits_of_rows, rows_in, rows_set, letters_of, letters_text, HasOneBit, LettersDiffer, IsTable, HasBitsOf}

abbrev letters : List Letter → List ℕ
letters rows = map (λ (row : Letter). row.letter) rows

-- ---- numbers that are 0 or 1
max_steps : (whole a b both rest more : ℕ) → whole ≡ max both rest → both ≡ max a b → more ≡ max b rest → whole ≡ max a more
max_steps whole a b both rest more e f g = omega arith

max_zero : (a zero_bit : ℕ) → zero_bit ≡ 0 → a ≡ max a zero_bit
max_zero a zero_bit e = omega arith

min_zero : (a zero_bit : ℕ) → zero_bit ≡ 0 → zero_bit ≡ min a zero_bit
min_zero a zero_bit e = omega arith

bit_kept : (whole bit of rest kept all : ℕ) → whole ≡ max of kept → kept ≡ min bit rest → all ≡ max of rest → min bit of ≡ of → whole ≡ min bit all
bit_kept whole bit of rest kept all e f g h = omega arith

bit_dropped : (bit of rest kept all : ℕ) → kept ≡ min bit rest → all ≡ max of rest → min bit of ≡ 0 → kept ≡ min bit all
bit_dropped bit of rest kept all f g h = omega arith

-- ---- the bits of rows
pub bits_from : (a i : ℕ) (rows : List Letter) → bit_at (fold (λ bits (row : Letter). bit_or bits row.bit) a rows) i ≡ max (bit_at a i) (bit_at (bits_of_rows rows) i)
bits_from a i [] = max_zero (bit_at a i) (bit_at 0 i) (bit_at-zero i)
bits_from a i (row ∷ rows) =
    max_steps _ (bit_at a i) (bit_at row.bit i) (bit_at (bit_or a row.bit) i) (bit_at (bits_of_rows rows) i) _
    (bits_from (bit_or a row.bit) i rows) (bit_at_or a row.bit i) (bits_from row.bit i rows)

-- what is set of a row with one bit is the row's bit
one_bit : (t p x : ℕ) → t < 2 → x ≡ t * p → (x == 0) ≡ false → x ≡ p
one_bit zero p x lt e f = let none : x ≡ 0 = omega arith in let yes : (x == 0) ≡ true = (Decides-eqb x 0).1 none in cc
one_bit (suc zero) p x lt e f = omega arith
one_bit (suc (suc t)) p x lt e f = absurd (omega arith)

row_set : (row : Letter) (bits : ℕ) → HasOneBit row → (bit_and bits row.bit == 0) ≡ false → bit_and bits row.bit ≡ row.bit
row_set row bits one set =
    let same : bit_and bits row.bit ≡ bit_at bits one.0 * 2 ^ one.0 = ap (bit_and bits) one.1 ∙ and_pow bits one.0 in
    one_bit (bit_at bits one.0) (2 ^ one.0) (bit_and bits row.bit) (bit_at-lt bits one.0) same set ∙ sym one.1

-- one more row, if what is set of the others is known
one_row_more : (row : Letter) (rows : List Letter) (bits i : ℕ) → HasOneBit row → bit_at (bits_of_rows (rows_set rows bits)) i ≡ min (bit_at bits i) (bit_at (bits_of_rows rows) i)
    → (t : Bool) → (bit_and bits row.bit == 0) ≡ t → bit_at (bits_of_rows (cond (not t) (row ∷ rows_set rows bits) (rows_set rows bits))) i ≡ min (bit_at bits i) (bit_at (bits_of_rows (row ∷ rows)) i)
one_row_more row rows bits i one others false set =
    let has : min (bit_at bits i) (bit_at row.bit i) ≡ bit_at row.bit i = sym (bit_at_and bits row.bit i) ∙ ap (λ n. bit_at n i) (row_set row bits one set) in
    bit_kept _ (bit_at bits i) (bit_at row.bit i) (bit_at (bits_of_rows rows) i) (bit_at (bits_of_rows (rows_set rows bits)) i) _
    (bits_from row.bit i (rows_set rows bits)) others (bits_from row.bit i rows) has
one_row_more row rows bits i one others true unset =
    let lacks : min (bit_at bits i) (bit_at row.bit i) ≡ 0 = sym (bit_at_and bits row.bit i) ∙ ap (λ n. bit_at n i) ((Decides-eqb (bit_and bits row.bit) 0).0 unset) ∙ bit_at-zero i in
    bit_dropped (bit_at bits i) (bit_at row.bit i) (bit_at (bits_of_rows rows) i) (bit_at (bits_of_rows (rows_set rows bits)) i) _
    others (bits_from row.bit i rows) lacks

-- the bits of the rows that are set are those of the number that the table has
bits_set : (table : List Letter) (bits i : ℕ) → AllByRecursion HasOneBit table → bit_at (bits_of_rows (rows_set table bits)) i ≡ min (bit_at bits i) (bit_at (bits_of_rows table) i)
bits_set [] bits i one = min_zero (bit_at bits i) (bit_at 0 i) (bit_at-zero i)
bits_set (row ∷ rows) bits i one = one_row_more row rows bits i one.0 (bits_set rows bits i one.1) (bit_and bits row.bit == 0) refl

-- bits of the table alone are the bits of the rows that are set
pub bits_again : (table : List Letter) (bits : ℕ) → AllByRecursion HasOneBit table → bit_and bits (bits_of_rows table) ≡ bits → bits_of_rows (rows_set table bits) ≡ bits
bits_again table bits one within = same_from_bits _ bits (λ i. bits_set table bits i one ∙ sym (bit_at_and bits (bits_of_rows table) i) ∙ ap (λ n. bit_at n i) within)

-- ---- the letters of rows
-- as often as in both parts
pub occurrences-append : (letter : ℕ) (a b : List ℕ) → occurrences letter (a ++ b) ≡ occurrences letter a + occurrences letter b
occurrences-append letter a b = sum_by-append (λ x. cond (x == letter) 1 0) a b

other_way : (a b : ℕ) → (a == b) ≡ false → (b == a) ≡ false
other_way a b e = grind (arith, nat_tests)

-- a letter in front of others
pub occurrences-cons : (letter x : ℕ) (xs : List ℕ) → occurrences letter (x ∷ xs) ≡ cond (x == letter) 1 0 + occurrences letter xs
occurrences-cons letter x xs = sum_by-cons (λ y. cond (y == letter) 1 0) x xs

not_in_front : (letter x : ℕ) (xs : List ℕ) → (x == letter) ≡ false → occurrences letter xs ≡ 0 → occurrences letter (x ∷ xs) ≡ 0
not_in_front letter x xs other none = occurrences-cons letter x xs ∙ ap (λ t. cond t 1 0 + occurrences letter xs) other ∙ ap (λ n. 0 + n) none

-- a letter that no row has
absent : (letter : ℕ) (p : Letter → Bool) (rows : List Letter) → list_any (λ (r : Letter). r.letter == letter) rows ≡ false → occurrences letter (letters (filter p rows)) ≡ 0
absent letter p [] none = refl
absent letter p (row ∷ rows) none =
    let parts = or_parts (row.letter == letter) (list_any (λ (r : Letter). r.letter == letter) rows) none in
    let others : occurrences letter (letters (filter p rows)) ≡ 0 = absent letter p rows parts.1 in
    elim (p row) as (λ t. occurrences letter (letters (cond t (row ∷ filter p rows) (filter p rows))) ≡ 0) [
      | true ↦ not_in_front letter row.letter (letters (filter p rows)) parts.0 others
      | false ↦ others
    ]

-- letters that stand nowhere in front are still new after another letter
still_new : (letter : ℕ) (front : List ℕ) (rows : List Letter) → list_any (λ (r : Letter). r.letter == letter) rows ≡ false
    → AllByRecursion (λ (r : Letter). occurrences r.letter front ≡ 0) rows → AllByRecursion (λ (r : Letter). occurrences r.letter (front ++ letter ∷ []) ≡ 0) rows
still_new letter front [] none new = tt
still_new letter front (row ∷ rows) none new =
    let parts = or_parts (row.letter == letter) (list_any (λ (r : Letter). r.letter == letter) rows) none in
    let last : occurrences row.letter (letter ∷ []) ≡ 0 = not_in_front row.letter letter [] (other_way row.letter letter parts.0) refl in (
      occurrences-append row.letter front (letter ∷ []) ∙ ap (λ n. n + occurrences row.letter (letter ∷ [])) new.0 ∙ ap (λ n. 0 + n) last,
      still_new letter front rows parts.1 new.1,
    )

-- how often each row's letter stands in a text: once if the row passes, else not at all
abbrev Counts : (Letter → Bool) → List Letter → List ℕ → Type 0
Counts p rows text = AllByRecursion (λ (r : Letter). occurrences r.letter text ≡ cond (p r) 1 0) rows

first_count : (t : Bool) (row : Letter) (front behind : List ℕ) → occurrences row.letter front ≡ 0 → occurrences row.letter behind ≡ 0
    → occurrences row.letter (front ++ cond t (row.letter ∷ behind) behind) ≡ cond t 1 0
first_count true row front behind new none =
    let itself : (row.letter == row.letter) ≡ true = (Decides-eqb row.letter row.letter).1 refl in
    let one : occurrences row.letter (row.letter ∷ behind) ≡ 1 = occurrences-cons row.letter row.letter behind ∙ ap (λ t. cond t 1 0 + occurrences row.letter behind) itself ∙ ap (λ n. 1 + n) none in
    occurrences-append row.letter front (row.letter ∷ behind) ∙ ap (λ n. n + occurrences row.letter (row.letter ∷ behind)) new ∙ ap (λ n. 0 + n) one
first_count false row front behind new none =
    occurrences-append row.letter front behind ∙ ap (λ n. n + occurrences row.letter behind) new ∙ ap (λ n. 0 + n) none

counts : (p : Letter → Bool) (front : List ℕ) (rows : List Letter) → LettersDiffer rows
    → AllByRecursion (λ (r : Letter). occurrences r.letter front ≡ 0) rows
    → Counts p rows (front ++ letters (filter p rows))
counts p front [] differ new = tt
counts p front (row ∷ rows) differ new =
    let behind = letters (filter p rows) in
    let without : Counts p rows (front ++ behind) = counts p front rows differ.1 new.1 in
    let with_it : Counts p rows ((front ++ row.letter ∷ []) ++ behind) = counts p (front ++ row.letter ∷ []) rows differ.1 (still_new row.letter front rows differ.0 new.1) in
    let none : occurrences row.letter behind ≡ 0 = absent row.letter p rows differ.0 in
    elim (p row) as (λ t. (occurrences row.letter (front
    ++ letters (cond t (row ∷ filter p rows) (filter p rows))) ≡ cond t 1 0)
    × Counts p rows (front ++ letters (cond t (row ∷ filter p rows) (filter p rows)))) [
      | true ↦ (first_count true row front behind new.0 none, subst (Counts p rows) (append_assoc front (row.letter ∷ []) behind) with_it)
      | false ↦ (first_count false row front behind new.0 none, without)
    ]

new_at_first : (rows : List Letter) → AllByRecursion (λ (r : Letter). occurrences r.letter [] ≡ 0) rows
new_at_first [] = tt
new_at_first (row ∷ rows) = (refl, new_at_first rows)

stands : (t : Bool) (n : ℕ) → n ≡ cond t 1 0 → nat_le 1 n ≡ t
stands true n e = ap (nat_le 1) e
stands false n e = ap (nat_le 1) e

stands_once : (t : Bool) (n : ℕ) → n ≡ cond t 1 0 → nat_le 2 n ≡ false
stands_once true n e = ap (nat_le 2) e
stands_once false n e = ap (nat_le 2) e

-- the rows whose letters stand in the text are those that pass
rows_again : (p : Letter → Bool) (text : List ℕ) (rows : List Letter) → Counts p rows text → rows_in rows text ≡ filter p rows
rows_again p text [] counted = refl
rows_again p text (row ∷ rows) counted =
    ap (λ t. cond t (row ∷ rows_in rows text) (rows_in rows text)) (stands (p row) (occurrences row.letter text) counted.0)
    ∙ ap (λ rest. cond (p row) (row ∷ rest) rest) (rows_again p text rows counted.1)

no_repeats : (p : Letter → Bool) (text : List ℕ) (rows : List Letter) → Counts p rows text → list_any (λ (r : Letter). repeats r.letter text) rows ≡ false
no_repeats p text [] counted = refl
no_repeats p text (row ∷ rows) counted =
    ap (λ t. t || list_any (λ (r : Letter). repeats r.letter text) rows) (stands_once (p row) (occurrences row.letter text) counted.0) ∙ no_repeats p text rows counted.1

letter_of_row : (front : List Letter) (row : Letter) (rows : List Letter) → is_letter_of (front ++ row ∷ rows) row.letter ≡ true
letter_of_row [] row rows = ap (λ t. t || is_letter_of rows row.letter) ((Decides-eqb row.letter row.letter).1 refl)
letter_of_row (first ∷ front) row rows = ap (λ t. (first.letter == row.letter) || t) (letter_of_row front row rows) ∙ or-true (first.letter == row.letter)

-- the letters of rows are letters of the table
all_letters : (p : Letter → Bool) (front rows : List Letter) → list_all (is_letter_of (front ++ rows)) (letters (filter p rows)) ≡ true
all_letters p front [] = refl
all_letters p front (row ∷ rows) =
    let later : list_all (is_letter_of (front ++ row ∷ rows)) (letters (filter p rows)) ≡ true =
    subst (λ table. list_all (is_letter_of table) (letters (filter p rows)) ≡ true) (append_assoc front (row ∷ []) rows) (all_letters p (front ++ row ∷ []) rows) in
    elim (p row) as (λ t. list_all (is_letter_of (front ++ row ∷ rows)) (letters (cond t (row ∷ filter p rows) (filter p rows))) ≡ true) [
      | true ↦ ap (λ t. t && list_all (is_letter_of (front ++ row ∷ rows)) (letters (filter p rows))) (letter_of_row front row rows) ∙ later
      | false ↦ later
    ]

-- what is printed of bits is read as those bits
pub letters_again : (table : List Letter) (bits : ℕ) → IsTable table → HasBitsOf table bits → letters_of table (letters_text table bits) ≡ Some bits
unfolding letters_of
letters_again table bits is within =
    let set : Letter → Bool = λ row. not (bit_and bits row.bit == 0) in
    let text = letters_text table bits in
    let counted : Counts set table text = counts set [] table is.letters (new_at_first table) in
    let shaped : is_letters_text table text ≡ true =
    ap (λ t. t && not (list_any (λ (r : Letter). repeats r.letter text) table)) (all_letters set [] table) ∙ ap not (no_repeats set text table counted) in
    ap (λ t. cond t (Some (bits_of_rows (rows_in table text))) None) shaped
    ∙ ap (λ rows. Some (bits_of_rows rows)) (rows_again set text table counted)
    ∙ ap Some (bits_again table bits is.bits within)

-- what is not 0 counts
counted : (n : ℕ) (t : Bool) → (n == 0) ≡ t → (n ≡ 0 → ⊥) → cond (not t) (suc zero) zero ≡ suc zero
counted n true e some = absurd (some ((Decides-eqb n 0).0 e))
counted n false e some = refl

-- if a row comes whose bits are set, the letters so far are fewer than all
pub letter_to_come : (table : List Letter) (bits i : ℕ) (row : Letter) → i < length table → (bit_and bits (get_or table i row).bit ≡ 0 → ⊥)
    → length (letters_text (take i table) bits) + 1 ≤ length (letters_text table bits)
letter_to_come table bits i row inside set =
    let p = λ (r : Letter). not (bit_and bits r.bit == 0) in
    let one : cond (p (get_or table i row)) (suc zero) zero ≡ suc zero = counted (bit_and bits (get_or table i row).bit) _ refl set in
    let parted = ap (filter p) (sym (take-append-drop (i + 1) table)) ∙ filter-append p (take (i + 1) table) (drop (i + 1) table) in
    let lengths = ap length parted ∙ length-append (filter p (take (i + 1) table)) (filter p (drop (i + 1) table)) in
    let so_far = length-map (rows_set (take i table) bits) (λ (r : Letter). r.letter) in
    let all = length-map (rows_set table bits) (λ (r : Letter). r.letter) in
    omega (arith, so_far, all, lengths, length-filter_more p table i row inside, one)
