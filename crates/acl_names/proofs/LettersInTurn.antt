-- Letters that are read one after the other.
use Rattle.std.proofs.Common.{◌≡◌, ℕ, ◌==◌, ◌+◌, ◌<◌, Bool, true, false, not, ◌&&◌, ◌||◌, cond, nat_le}
use Rattle.std.proofs.Common.{nat_lt, max, List, [], ◌∷◌, length, take, drop, get_or, filter, Some, None}
use Rattle.std.proofs.Common.{refl, sym, ap, ◌∙◌, arith, bit_or, inl, inr}
use Rattle.std.specs.List.{list_all, list_any}
use Rattle.std.specs.Int.{bit_at}
use Rattle.std.proofs.lemmas.Bool.{cases_Bool, eqb-true}
use Rattle.std.proofs.lemmas.Bool.Decides.{nat_tests}
use Rattle.std.proofs.lemmas.List.{take_more, take-append-drop}
use Rattle.std.proofs.lemmas.List.Folds.{list_all_more, list_all_at}
use Rattle.std.proofs.lemmas.Nat.Bits.{bit_at_or, same_from_bits}
use Rattle.std.proofs.Math.Bool.{and-false, or-true}
use Rattle.acl_names.specs.declared.text.letters.Letter.{Letter}
use Rattle.acl_names.specs.Letters.{occurrences, occurs, repeats, is_letter_of, is_letters_text, bits_of_rows, rows_in, letters_of}
use Rattle.acl_names.proofs.LettersAgain.{bits_from, occurrences-append, occurrences-cons}
use Rattle.acl_names.proofs.Counting.{list_any-count_by}

-- ---- one more letter
counted_more : (letter : ℕ) (text : List ℕ) (i : ℕ) → i < length text
    → occurrences letter (take (i + 1) text) ≡ occurrences letter (take i text) + cond (get_or text i 0 == letter) 1 0
counted_more letter text i inside =
    let b = get_or text i 0 in
    let last : occurrences letter (b ∷ []) ≡ cond (b == letter) 1 0 = occurrences-cons letter b [] ∙ omega arith in
    ap (occurrences letter) (take_more text i 0 inside) ∙ occurrences-append letter (take i text) (b ∷ []) ∙ ap (λ n. occurrences letter (take i text) + n) last

pub same_either_way : (a b : ℕ) → (a == b) ≡ (b == a)
same_either_way a b = grind (arith, nat_tests)

some_more : (n : ℕ) (c : Bool) → nat_le 1 (n + cond c 1 0) ≡ (nat_le 1 n || c)
some_more n true = grind (arith, nat_tests)
some_more n false = grind (arith, nat_tests)

occurs_more : (letter : ℕ) (text : List ℕ) (i : ℕ) → i < length text
    → occurs letter (take (i + 1) text) ≡ (occurs letter (take i text) || (letter == get_or text i 0))
occurs_more letter text i inside =
    ap (nat_le 1) (counted_more letter text i inside)
    ∙ some_more (occurrences letter (take i text)) (get_or text i 0 == letter)
    ∙ ap (λ t. occurs letter (take i text) || t) (same_either_way (get_or text i 0) letter)

-- ---- the bits of rows that pass one of two tests
module _ (p q : Letter → Bool) where
  row_more : (row : Letter) (rows : List Letter) (i : ℕ) → bit_at (bits_of_rows (row ∷ rows)) i ≡ max (bit_at row.bit i) (bit_at (bits_of_rows rows) i)
  row_more row rows i = bits_from row.bit i rows

  bits_of_either : (rows : List Letter) (i : ℕ)
      → bit_at (bits_of_rows (filter (λ row. p row || q row) rows)) i ≡ max (bit_at (bits_of_rows (filter p rows)) i) (bit_at (bits_of_rows (filter q rows)) i)
  bits_of_either [] i = omega arith
  bits_of_either (row ∷ rows) i =
      let both = filter (λ (r : Letter). p r || q r) rows in
      let others : bit_at (bits_of_rows both) i ≡ max (bit_at (bits_of_rows (filter p rows)) i) (bit_at (bits_of_rows (filter q rows)) i) = bits_of_either rows i in
      go (p row) (q row) others
    where
      go : (a b : Bool)
          → bit_at (bits_of_rows (filter (λ (r : Letter). p r || q r) rows)) i ≡ max (bit_at (bits_of_rows (filter p rows)) i) (bit_at (bits_of_rows (filter q rows)) i)
          → bit_at (bits_of_rows (cond (a || b) (row ∷ filter (λ (r : Letter). p r || q r) rows) (filter (λ (r : Letter). p r || q r) rows))) i
          ≡ max (bit_at (bits_of_rows (cond a (row ∷ filter p rows) (filter p rows))) i) (bit_at (bits_of_rows (cond b (row ∷ filter q rows) (filter q rows))) i)
      go true true e = omega (arith, row_more row (filter (λ (r : Letter). p r || q r) rows) i, row_more row (filter p rows) i, row_more row (filter q rows) i)
      go true false e = omega (arith, row_more row (filter (λ (r : Letter). p r || q r) rows) i, row_more row (filter p rows) i)
      go false true e = omega (arith, row_more row (filter (λ (r : Letter). p r || q r) rows) i, row_more row (filter q rows) i)
      go false false e = e

pub bits_either : (p q : Letter → Bool) (rows : List Letter)
    → bits_of_rows (filter (λ row. p row || q row) rows) ≡ bit_or (bits_of_rows (filter p rows)) (bits_of_rows (filter q rows))
bits_either p q rows =
    same_from_bits _ _ (λ i. bits_of_either p q rows i ∙ sym (bit_at_or (bits_of_rows (filter p rows)) (bits_of_rows (filter q rows)) i))

pub bits_more : (table : List Letter) (text : List ℕ) (i : ℕ) → i < length text
    → bits_of_rows (rows_in table (take (i + 1) text))
    ≡ bit_or (bits_of_rows (rows_in table (take i text))) (bits_of_rows (filter (λ row. row.letter == get_or text i 0) table))
bits_more table text i inside =
    let tests : (λ (row : Letter). occurs row.letter (take (i + 1) text)) ≡ (λ (row : Letter). occurs row.letter (take i text) || (row.letter == get_or text i 0)) =
    λ j row. occurs_more row.letter text i inside j in
    ap (λ test. bits_of_rows (filter test table)) tests
    ∙ bits_either (λ row. occurs row.letter (take i text)) (λ row. row.letter == get_or text i 0) table

-- ---- what is read so far
pub record AreRead (table : List Letter) (text : List ℕ) (bits : ℕ) : Type 0 where
  pub all : list_all (is_letter_of table) text ≡ true
  pub once : list_any (λ row. repeats row.letter text) table ≡ false
  pub sum : bits ≡ bits_of_rows (rows_in table text)

none_repeats : (table : List Letter) → list_any (λ (row : Letter). repeats row.letter []) table ≡ false
none_repeats [] = refl
none_repeats (row ∷ rows) = none_repeats rows

no_bits_yet : (table : List Letter) → 0 ≡ bits_of_rows (rows_in table [])
no_bits_yet [] = refl
no_bits_yet (row ∷ rows) = no_bits_yet rows

pub nothing_is_read : (table : List Letter) → AreRead table [] 0
nothing_is_read table = record { all = refl; once = none_repeats table; sum = no_bits_yet table }

repeats_no_more : (letter b n : ℕ) (c : Bool) → (c ≡ true → n ≡ 0) → nat_le 2 (n + cond c 1 0) ≡ nat_le 2 n
repeats_no_more letter b n true new = let none = new refl in grind (arith, nat_tests)
repeats_no_more letter b n false new = grind (arith, nat_tests)

pub one_more_read : (table : List Letter) (text : List ℕ) (i bits : ℕ) → i < length text → AreRead table (take i text) bits
    → is_letter_of table (get_or text i 0) ≡ true → list_any (λ x. x == get_or text i 0) (take i text) ≡ false
    → AreRead table (take (i + 1) text) (bit_or bits (bits_of_rows (filter (λ row. row.letter == get_or text i 0) table)))
one_more_read table text i bits inside read is_letter new =
    let b = get_or text i 0 in
    let front = take i text in
    let none : occurrences b front ≡ 0 = no_occurrence b front new in
    let tests : (λ (row : Letter). repeats row.letter (take (i + 1) text)) ≡ (λ (row : Letter). repeats row.letter front) =
    λ j row. (ap (nat_le 2) (counted_more row.letter text i inside)
    ∙ repeats_no_more row.letter b (occurrences row.letter front) (b == row.letter) (λ same. ap (λ l. occurrences l front) (sym (eqb-true b row.letter same)) ∙ none)) j in
    record {
      all = list_all_more (is_letter_of table) text i 0 inside ∙ ap (λ t. t && is_letter_of table b) read.all ∙ is_letter;
      once = ap (λ test. list_any test table) tests ∙ read.once;
      sum = ap (λ n. bit_or n (bits_of_rows (filter (λ (row : Letter). row.letter == b) table))) read.sum ∙ sym (bits_more table text i inside);
    }
  where
    no_occurrence : (b : ℕ) (front : List ℕ) → list_any (λ x. x == b) front ≡ false → occurrences b front ≡ 0
    no_occurrence b front absent = zero_from (occurrences b front) (sym (list_any-count_by (λ x. x == b) front) ∙ absent)
      where
        zero_from : (n : ℕ) → nat_lt 0 n ≡ false → n ≡ 0
        zero_from n none = grind (arith, nat_tests)

-- ---- when the text is refused
refused : (table : List Letter) (text : List ℕ) → is_letters_text table text ≡ false → letters_of table text ≡ None
unfolding letters_of
refused table text unshaped = ap (λ t. cond t (Some (bits_of_rows (rows_in table text))) None) unshaped

pub refused_letter : (table : List Letter) (text : List ℕ) (i : ℕ) → i < length text → is_letter_of table (get_or text i 0) ≡ false → letters_of table text ≡ None
refused_letter table text i inside not_letter =
    refused table text (ap (λ t. t && not (list_any (λ (row : Letter). repeats row.letter text) table)) (list_all_at (is_letter_of table) text i 0 inside not_letter))

some_row_repeats : (b : ℕ) (text : List ℕ) (rows : List Letter) → repeats b text ≡ true → is_letter_of rows b ≡ true
    → list_any (λ (row : Letter). repeats row.letter text) rows ≡ true
some_row_repeats b text [] twice has = cc
some_row_repeats b text (row ∷ rows) twice has = elim (cases_Bool (row.letter == b)) [
  | inl here ↦ ap (λ l. repeats l text || list_any (λ (r : Letter). repeats r.letter text) rows) (eqb-true row.letter b here)
      ∙ ap (λ t. t || list_any (λ (r : Letter). repeats r.letter text) rows) twice
  | inr other ↦
      let later = some_row_repeats b text rows twice (sym (ap (λ t. t || is_letter_of rows b) other) ∙ has) in
      ap (λ t. repeats row.letter text || t) later ∙ or-true (repeats row.letter text)
]

pub refused_repeat : (table : List Letter) (text : List ℕ) (i : ℕ) → i < length text → is_letter_of table (get_or text i 0) ≡ true
    → list_any (λ x. x == get_or text i 0) (take i text) ≡ true → letters_of table text ≡ None
refused_repeat table text i inside is_letter again =
    let b = get_or text i 0 in
    let before : nat_lt 0 (occurrences b (take i text)) ≡ true = sym (list_any-count_by (λ x. x == b) (take i text)) ∙ again in
    let itself : (b == b) ≡ true = grind (arith, nat_tests) in
    let here : occurrences b (take (i + 1) text) ≡ occurrences b (take i text) + 1 = counted_more b text i inside ∙ ap (λ t. occurrences b (take i text) + cond t 1 0) itself in
    let whole : occurrences b text ≡ occurrences b (take (i + 1) text) + occurrences b (drop (i + 1) text) =
    ap (occurrences b) (sym (take-append-drop (i + 1) text)) ∙ occurrences-append b (take (i + 1) text) (drop (i + 1) text) in
    let twice : repeats b text ≡ true = two (occurrences b text) (occurrences b (take i text))
    (occurrences b (drop (i + 1) text)) (whole ∙ ap (λ n. n + occurrences b (drop (i + 1) text)) here) before in
    refused table text (ap (λ t. list_all (is_letter_of table) text && not t) (some_row_repeats b text table twice is_letter) ∙ and-false (list_all (is_letter_of table) text))
  where
    two : (n k m : ℕ) → n ≡ k + 1 + m → nat_lt 0 k ≡ true → nat_le 2 n ≡ true
    two n k m e some = grind (arith, nat_tests)

pub all_read : (table : List Letter) (text : List ℕ) (bits : ℕ) → AreRead table text bits → letters_of table text ≡ Some bits
unfolding letters_of
all_read table text bits read =
    let shaped : is_letters_text table text ≡ true = ap (λ t. t && not (list_any (λ (row : Letter). repeats row.letter text) table)) read.all ∙ ap not read.once in
    ap (λ t. cond t (Some (bits_of_rows (rows_in table text))) None) shaped ∙ ap Some (sym read.sum)
