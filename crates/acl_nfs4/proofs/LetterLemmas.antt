-- What the letters of flags spell.
use Rattle.std.proofs.Common.{◌≡◌, ℕ, ◌≤◌, Bool, true, false, cond, List, [], ◌∷◌, Some, None, refl, sym, subst, map, fold, filter, not, bit_and, ◌==◌}
use Rattle.std.proofs.lemmas.List.Elements.{All-nil, All-cons}
use Rattle.acl_names.specs.Plain.{IsField, is_field_byte}
use Rattle.std.specs.List.{AllByRecursion}
use Rattle.std.proofs.lemmas.Nat.{and_le_r}
use Rattle.acl_names.specs.Bits.{◌∩◌, ◌∪◌}
use Rattle.acl_names.specs.Letters.{letters_of, letters_text, IsTable, is_letters_text, bits_of_rows, rows_in, occurs}
use Rattle.acl_names.specs.declared.text.letters.Letter.{Letter}
use Rattle.acl_nfs4.specs.Flags.{all_flags}
use Rattle.acl_nfs4.specs.Mask.{all_masks}
use Rattle.acl_nfs4.specs.Letters.{flag_table, mask_table}
use Rattle.acl_nfs4.proofs.AceLemmas.{within-or}

-- the bits of these rows, beside those so far
abbrev joined : ℕ → List Letter → ℕ
joined bits rows = fold (λ so_far row. so_far ∪ row.bit) bits rows

rows-within : (all : ℕ) (test : Letter → Bool) (rows : List Letter) → AllByRecursion (λ row. row.bit ∩ all ≡ row.bit) rows
    → (bits : ℕ) → bits ∩ all ≡ bits → joined bits (filter test rows) ∩ all ≡ joined bits (filter test rows)
rows-within all test [] each bits within = within
rows-within all test (row ∷ rows) each bits within = go (test row) (rows-within all test rows each.1)
  where
    go : (b : Bool) → ((so_far : ℕ) → so_far ∩ all ≡ so_far → joined so_far (filter test rows) ∩ all ≡ joined so_far (filter test rows))
        → joined bits (cond b (row ∷ filter test rows) (filter test rows)) ∩ all ≡ joined bits (cond b (row ∷ filter test rows) (filter test rows))
    go true rest = rest (bits ∪ row.bit) (within-or bits row.bit all within each.0)
    go false rest = rest bits within

-- the bits of the letters that stand in a text, if the text is one of letters
pub spelt-known : (table : List Letter) (all : ℕ) → AllByRecursion (λ row. row.bit ∩ all ≡ row.bit) table
    → (text : List ℕ) (is_text : Bool) (bits : ℕ) → Some bits ≡ cond is_text (Some (bits_of_rows (rows_in table text))) None → bits ∩ all ≡ bits
spelt-known table all each text true bits e =
    let same : bits ≡ bits_of_rows (rows_in table text) = cc in
    subst (λ (n : ℕ). n ∩ all ≡ n) (sym same) (rows-within all (λ row. occurs row.letter text) table each 0 refl)
spelt-known table all each text false bits e = absurd (cc)

-- flags and masks that are spelt have names
pub flags-known : (text : List ℕ) (bits : ℕ) → Some bits ≡ letters_of flag_table text → bits ∩ all_flags ≡ bits
unfolding letters_of
flags-known text = spelt-known flag_table all_flags (refl, (refl, (refl, (refl, (refl, (refl, (refl, tt))))))) text (is_letters_text flag_table text)

pub mask-known : (text : List ℕ) (bits : ℕ) → Some bits ≡ letters_of mask_table text → bits ∩ all_masks ≡ bits
unfolding letters_of
mask-known text =
    spelt-known mask_table all_masks
    (refl, (refl, (refl, (refl, (refl, (refl, (refl, (refl, (refl, (refl, (refl, (refl, (refl, (refl, tt))))))))))))))
    text (is_letters_text mask_table text)

pub flags-small : (text : List ℕ) (bits : ℕ) → Some bits ≡ letters_of flag_table text → bits ≤ all_flags
flags-small text bits e = subst (λ (n : ℕ). n ≤ all_flags) (flags-known text bits e) (and_le_r bits all_flags)

-- ---- letters that are printed

pub flag_table_is : IsTable flag_table
flag_table_is = record {
  bits = ((0, refl), ((1, refl), ((2, refl), ((3, refl), ((4, refl), ((5, refl), ((6, refl), tt)))))));
  letters = (refl, (refl, (refl, (refl, (refl, (refl, (refl, tt)))))));
}

pub mask_table_is : IsTable mask_table
mask_table_is = record {
  bits = ((0, refl), ((1, refl), ((2, refl), ((5, refl), ((16, refl), ((6, refl), ((7, refl), ((8, refl), ((3, refl), ((4, refl), ((17, refl), ((18, refl), ((19, refl), ((20, refl), tt))))))))))))));
  letters = (refl, (refl, (refl, (refl, (refl, (refl, (refl, (refl, (refl, (refl, (refl, (refl, (refl, (refl, tt))))))))))))));
}

pub letters-field : (bits : ℕ) (rows : List Letter) → AllByRecursion (λ row. is_field_byte row.letter ≡ true) rows → IsField (letters_text rows bits)
letters-field bits [] each = All-nil (λ byte. is_field_byte byte ≡ true)
letters-field bits (row ∷ rows) each = go (not (bit_and bits row.bit == 0)) (letters-field bits rows each.1)
  where
    go : (b : Bool) → IsField (letters_text rows bits)
        → IsField (map (λ (r : Letter). r.letter) (cond b (row ∷ filter (λ (r : Letter). not (bit_and bits r.bit == 0)) rows) (filter (λ (r : Letter). not (bit_and bits r.bit == 0)) rows)))
    go true rest = All-cons (λ byte. is_field_byte byte ≡ true) row.letter _ each.0 rest
    go false rest = rest

pub flags-field : (flags : ℕ) → IsField (letters_text flag_table flags)
flags-field flags = letters-field flags flag_table (refl, (refl, (refl, (refl, (refl, (refl, (refl, tt)))))))

pub mask-field : (mask : ℕ) → IsField (letters_text mask_table mask)
mask-field mask =
    letters-field mask mask_table
    (refl, (refl, (refl, (refl, (refl, (refl, (refl, (refl, (refl, (refl, (refl, (refl, (refl, (refl, tt))))))))))))))
