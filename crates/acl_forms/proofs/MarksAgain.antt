-- Letters that are printed, alone or in a place for each, are read again.
use Rattle.std.proofs.Common.{◌≡◌, ℕ, ◌+◌, ◌==◌, Bool, true, false, cond, not, ◌&&◌, ◌||◌, List, [], ◌∷◌, Some, None, refl, sym, ap, ◌∙◌, arith, map, filter, bit_and, nat_le}
use Rattle.std.specs.List.{AllByRecursion, list_all}
use Rattle.std.proofs.lemmas.Bool.Decides.{nat_tests}
use Rattle.std.proofs.lemmas.List.Elements.{All-nil, All-cons}
use Rattle.acl_names.specs.Bytes.{hyphen}
use Rattle.acl_names.specs.Letters.{HasBitsOf, IsTable, bits_of_rows, is_letter_of, is_letters_text, letters_of, letters_text, occurrences, occurs, rows_in}
use Rattle.acl_names.specs.Plain.{IsField, is_field_byte}
use Rattle.acl_names.specs.declared.text.letters.Letter.{Letter}
use Rattle.acl_names.proofs.IdTexts.{and_first, and_second}
use Rattle.acl_names.proofs.LettersAgain.{letters_again, occurrences-cons}
use Rattle.acl_names.proofs.StepLemmas.{some_from_cond}
use Rattle.acl_nfs4.proofs.LetterLemmas.{letters-field}
use Rattle.acl_forms.specs.Marks.{is_mark_of, marks_of, mark_table, perm_table}
use Rattle.acl_forms.specs.PrintedForm.{marks_text, place_of, places_text}
use Rattle.acl_forms.specs.declared.printing.Places.{Places}
use Rattle.acl_forms.specs.declared.printing.Places.TheVariants.{Compact, Full}

both : (a b : Bool) → a ≡ true → b ≡ true → (a && b) ≡ true
both true b e f = f
both false b e f = absurd (cc)

or_right : (a b : Bool) → b ≡ true → (a || b) ≡ true
or_right true b e = refl
or_right false b e = e

-- letters alone are marks
all_marks : (table : List Letter) (text : List ℕ) → list_all (is_letter_of table) text ≡ true → list_all (is_mark_of table) text ≡ true
all_marks table [] e = refl
all_marks table (x ∷ xs) e =
    both (is_mark_of table x) (list_all (is_mark_of table) xs)
    (or_right (x == hyphen) (is_letter_of table x) (and_first (is_letter_of table x) (list_all (is_letter_of table) xs) e))
    (all_marks table xs (and_second (is_letter_of table x) (list_all (is_letter_of table) xs) e))

-- a text of letters, each at most once, that has these bits is all marks, whose rows have these bits
record AreMarks (table : List Letter) (text : List ℕ) (bits : ℕ) : Type 0 where
  pub marks : list_all (is_mark_of table) text ≡ true
  pub sum : bits_of_rows (rows_in table text) ≡ bits

letters_are : (table : List Letter) (text : List ℕ) (bits : ℕ) → letters_of table text ≡ Some bits → AreMarks table text bits
unfolding letters_of
letters_are table text bits e =
    let that = some_from_cond (is_letters_text table text) (bits_of_rows (rows_in table text)) bits e in
    record { marks = all_marks table text (and_first (list_all (is_letter_of table) text) _ that.0); sum = that.1 }

said : (table : List Letter) (text : List ℕ) (bits : ℕ) → AreMarks table text bits → marks_of table text ≡ Some bits
unfolding marks_of
said table text bits are = ap (λ b. cond b (Some (bits_of_rows (rows_in table text))) None) are.marks ∙ ap Some are.sum

-- no row's letter is the hyphen
abbrev pub NoHyphen : List Letter → Type 0
NoHyphen table = AllByRecursion (λ (row : Letter). (row.letter == hyphen) ≡ false) table

places_marks : (table : List Letter) (bits : ℕ) (rows : List Letter) → list_all (is_mark_of table) (letters_text rows bits) ≡ true
    → list_all (is_mark_of table) (places_text rows bits) ≡ true
places_marks table bits [] e = refl
places_marks table bits (row ∷ rows) e = go (bit_and bits row.bit == 0) e (places_marks table bits rows)
  where
    go : (t : Bool) → list_all (is_mark_of table) (map (λ (r : Letter). r.letter) (cond (not t) (row ∷ filter (λ (r : Letter). not (bit_and bits r.bit == 0)) rows) (filter (λ (r : Letter). not (bit_and bits r.bit == 0)) rows))) ≡ true
        → (list_all (is_mark_of table) (letters_text rows bits) ≡ true → list_all (is_mark_of table) (places_text rows bits) ≡ true)
        → (is_mark_of table (cond t hyphen row.letter) && list_all (is_mark_of table) (places_text rows bits)) ≡ true
    go true e later = later e
    go false e later =
        both (is_mark_of table row.letter) (list_all (is_mark_of table) (places_text rows bits))
        (and_first (is_mark_of table row.letter) (list_all (is_mark_of table) (letters_text rows bits)) e)
        (later (and_second (is_mark_of table row.letter) (list_all (is_mark_of table) (letters_text rows bits)) e))

other_way : (a b : ℕ) → (a == b) ≡ false → (b == a) ≡ false
other_way a b e = grind (arith, nat_tests)

nothing_more : (n : ℕ) → 0 + n ≡ n
nothing_more n = omega arith

same_occurrences : (letter bits : ℕ) → (hyphen == letter) ≡ false → (rows : List Letter) → occurrences letter (places_text rows bits) ≡ occurrences letter (letters_text rows bits)
same_occurrences letter bits other [] = refl
same_occurrences letter bits other (row ∷ rows) = go (bit_and bits row.bit == 0) (same_occurrences letter bits other rows)
  where
    go : (t : Bool) → occurrences letter (places_text rows bits) ≡ occurrences letter (letters_text rows bits)
        → occurrences letter (cond t hyphen row.letter ∷ places_text rows bits)
        ≡ occurrences letter (map (λ (r : Letter). r.letter) (cond (not t) (row ∷ filter (λ (r : Letter). not (bit_and bits r.bit == 0)) rows) (filter (λ (r : Letter). not (bit_and bits r.bit == 0)) rows)))
    go true same =
        occurrences-cons letter hyphen (places_text rows bits)
        ∙ ap (λ t. cond t 1 0 + occurrences letter (places_text rows bits)) other
        ∙ nothing_more (occurrences letter (places_text rows bits)) ∙ same
    go false same =
        occurrences-cons letter row.letter (places_text rows bits)
        ∙ ap (λ n. cond (row.letter == letter) 1 0 + n) same
        ∙ sym (occurrences-cons letter row.letter (letters_text rows bits))

same_rows : (a b : List ℕ) → ((letter : ℕ) → (letter == hyphen) ≡ false → occurs letter a ≡ occurs letter b)
    → (rows : List Letter) → NoHyphen rows → rows_in rows a ≡ rows_in rows b
same_rows a b same [] each = refl
same_rows a b same (row ∷ rows) each =
    ap (λ t. cond t (row ∷ rows_in rows a) (rows_in rows a)) (same row.letter each.0)
    ∙ ap (λ rest. cond (occurs row.letter b) (row ∷ rest) rest) (same_rows a b same rows each.1)

pub marks_again : (places : Places) (table : List Letter) (bits : ℕ) → IsTable table → NoHyphen table → HasBitsOf table bits
    → marks_of table (marks_text places table bits) ≡ Some bits
marks_again Compact table bits is none within = said table (letters_text table bits) bits (letters_are table (letters_text table bits) bits (letters_again table bits is within))
marks_again Full table bits is none within =
    let letters = letters_are table (letters_text table bits) bits (letters_again table bits is within) in
    said table (places_text table bits) bits
    (record {
      marks = places_marks table bits table letters.marks;
      sum = ap bits_of_rows (same_rows (places_text table bits) (letters_text table bits)
          (λ letter other. ap (nat_le 1) (same_occurrences letter bits (other_way letter hyphen other) table)) table none) ∙ letters.sum;
    })

-- ---- and are fields
abbrev pub HaveFieldLetters : List Letter → Type 0
HaveFieldLetters rows = AllByRecursion (λ (row : Letter). is_field_byte row.letter ≡ true) rows

places-field : (bits : ℕ) (rows : List Letter) → HaveFieldLetters rows → IsField (places_text rows bits)
places-field bits [] each = All-nil (λ byte. is_field_byte byte ≡ true)
places-field bits (row ∷ rows) each = All-cons (λ byte. is_field_byte byte ≡ true) (place_of bits row) (places_text rows bits) (go (bit_and bits row.bit == 0)) (places-field bits rows each.1)
  where
    go : (t : Bool) → is_field_byte (cond t hyphen row.letter) ≡ true
    go true = refl
    go false = each.0

pub marks-field : (places : Places) (table : List Letter) (bits : ℕ) → HaveFieldLetters table → IsField (marks_text places table bits)
marks-field Compact table bits each = letters-field bits table each
marks-field Full table bits each = places-field bits table each

-- ---- the two tables
pub mark_table_is : IsTable mark_table
mark_table_is = record {
  bits = ((0, refl), ((1, refl), ((3, refl), ((2, refl), ((4, refl), ((5, refl), ((7, refl), tt)))))));
  letters = (refl, (refl, (refl, (refl, (refl, (refl, (refl, tt)))))));
}

pub perm_table_is : IsTable perm_table
perm_table_is = record {
  bits = ((0, refl), ((1, refl), ((5, refl), ((2, refl), ((16, refl), ((6, refl), ((7, refl), ((8, refl), ((3, refl), ((4, refl), ((17, refl), ((18, refl), ((19, refl), ((20, refl), tt))))))))))))));
  letters = (refl, (refl, (refl, (refl, (refl, (refl, (refl, (refl, (refl, (refl, (refl, (refl, (refl, (refl, tt))))))))))))));
}

pub mark_no_hyphen : NoHyphen mark_table
mark_no_hyphen = (refl, (refl, (refl, (refl, (refl, (refl, (refl, tt)))))))

pub perm_no_hyphen : NoHyphen perm_table
perm_no_hyphen = (refl, (refl, (refl, (refl, (refl, (refl, (refl, (refl, (refl, (refl, (refl, (refl, (refl, (refl, tt))))))))))))))

pub mark_letters : HaveFieldLetters mark_table
mark_letters = (refl, (refl, (refl, (refl, (refl, (refl, (refl, tt)))))))

pub perm_letters : HaveFieldLetters perm_table
perm_letters = (refl, (refl, (refl, (refl, (refl, (refl, (refl, (refl, (refl, (refl, (refl, (refl, (refl, (refl, tt))))))))))))))
