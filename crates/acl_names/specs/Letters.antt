-- Texts that are sets of letters.
use Rattle.std.specs.Prelude.{◌≡◌, ◌^◌, false, ℕ, Bool, ◌==◌, ◌&&◌, not, nat_le, List, [], ◌∷◌}
use Rattle.std.specs.Prelude.{Option, Some, None, count_by, map, filter, bit_and, bit_or, fold}
use Rattle.std.specs.Prelude.{if◌then◌else◌}
use Rattle.std.specs.List.{AllByRecursion, list_all, list_any}
use Rattle.acl_names.specs.declared.text.letters.Letter.{Letter}

-- how often a text has a byte
abbrev pub occurrences : ℕ → List ℕ → ℕ
occurrences byte text = count_by (λ x. x == byte) text

-- the text has the byte
abbrev pub occurs : ℕ → List ℕ → Bool
occurs byte text = nat_le 1 (occurrences byte text)

-- the text has the byte twice, or more often
abbrev pub repeats : ℕ → List ℕ → Bool
repeats byte text = nat_le 2 (occurrences byte text)

-- the byte is a letter of the table
abbrev pub is_letter_of : List Letter → ℕ → Bool
is_letter_of table byte = list_any (λ row. row.letter == byte) table

-- letters of the table alone, in any order, each at most once, or none
abbrev pub is_letters_text : List Letter → List ℕ → Bool
is_letters_text table text = list_all (is_letter_of table) text
    && not (list_any (λ row. repeats row.letter text) table)

-- the bits of these rows together
abbrev pub bits_of_rows : List Letter → ℕ
bits_of_rows rows = fold (λ bits row. bit_or bits row.bit) 0 rows

-- the rows whose letters the text has
abbrev pub rows_in : List Letter → List ℕ → List Letter
rows_in table text = filter (λ row. occurs row.letter text) table

-- the bits whose letters the text has
unfoldable pub letters_of : List Letter → List ℕ → Option ℕ
letters_of table text = if is_letters_text table text then Some (bits_of_rows (rows_in table text))
    else None

-- the rows whose bits are set
abbrev pub rows_set : List Letter → ℕ → List Letter
rows_set table bits = filter (λ row. not (bit_and bits row.bit == 0)) table

-- the letters of the bits that are set, in the order of the table
abbrev pub letters_text : List Letter → ℕ → List ℕ
letters_text table bits = map (λ row. row.letter) (rows_set table bits)

-- the row stands for one bit
abbrev pub HasOneBit : Letter → Type 0
HasOneBit row = (place : ℕ) × (row.bit ≡ 2 ^ place)

-- no two rows have one letter
abbrev pub LettersDiffer : List Letter → Type 0
LettersDiffer [] = Unit {0}
LettersDiffer (row ∷ rows) = (list_any (λ r. r.letter == row.letter) rows ≡ false)
    × LettersDiffer rows

-- a table of letters: each row has one bit, and a letter of its own
pub record IsTable (table : List Letter) : Type 0 where
  pub bits : AllByRecursion HasOneBit table
  pub letters : LettersDiffer table

-- no bit is set that the table lacks
abbrev pub HasBitsOf : List Letter → ℕ → Type 0
HasBitsOf table bits = bit_and bits (bits_of_rows table) ≡ bits
