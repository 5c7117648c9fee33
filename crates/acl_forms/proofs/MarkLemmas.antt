-- Letters that stand in a text, in any place and any number of times.
use Rattle.std.proofs.Common.{◌≡◌, ◌≤◌, ℕ, ◌==◌, List, Some, nat_le, nat_lt, refl, sym, subst, ◌∙◌, arith}
use Rattle.std.specs.List.{AllByRecursion, list_all, list_any}
use Rattle.std.proofs.lemmas.Bool.Decides.{nat_tests}
use Rattle.std.proofs.lemmas.Nat.{and_le_r}
use Rattle.acl_names.specs.Bits.{◌∩◌}
use Rattle.acl_names.specs.Letters.{occurrences, occurs}
use Rattle.acl_names.specs.declared.text.letters.Letter.{Letter}
use Rattle.acl_names.proofs.Counting.{list_any-count_by}
use Rattle.acl_nfs4.proofs.LetterLemmas.{spelt-known}
use Rattle.acl_forms.specs.Marks.{is_mark_of, mark_table, marks_of, perm_table}
use Rattle.acl_nfs4.specs.Mask.{all_masks}

some_occurs : (n : ℕ) → nat_le 1 n ≡ nat_lt 0 n
some_occurs n = grind (arith, nat_tests)

-- a letter occurs if any byte is this letter
pub occurs_is : (byte : ℕ) (text : List ℕ) → occurs byte text ≡ list_any (λ x. x == byte) text
occurs_is byte text = some_occurs (occurrences byte text) ∙ sym (list_any-count_by (λ x. x == byte) text)

-- ---- flags that are spelt are no more than those of the table

marks-known : (table : List Letter) (all : ℕ) → AllByRecursion (λ row. row.bit ∩ all ≡ row.bit) table
    → (text : List ℕ) (bits : ℕ) → Some bits ≡ marks_of table text → bits ∩ all ≡ bits
unfolding marks_of
marks-known table all each text = spelt-known table all each text (list_all (is_mark_of table) text)

pub flags-small : (text : List ℕ) (bits : ℕ) → Some bits ≡ marks_of mark_table text → bits ≤ 0xBF
flags-small text bits e =
    subst (λ (n : ℕ). n ≤ 0xBF) (marks-known mark_table 0xBF (refl, (refl, (refl, (refl, (refl, (refl, (refl, tt))))))) text bits e) (and_le_r bits 0xBF)

-- a mask that is spelt has names
pub perms-known : (text : List ℕ) (bits : ℕ) → Some bits ≡ marks_of perm_table text → bits ∩ all_masks ≡ bits
perms-known =
    marks-known perm_table all_masks
    (refl, (refl, (refl, (refl, (refl, (refl, (refl, (refl, (refl, (refl, (refl, (refl, (refl, (refl, tt))))))))))))))
