-- Private steps, which no public clause cites: the bit of each letter, in a list by the letter's
-- byte.
use Rattle.std.specs.Prelude.{◌≡◌, ℕ, ◌<◌, ◌==◌, false, List, [], ◌∷◌, filter, slice_index}
use Rattle.std.specs.List.{AllByRecursion}
use Rattle.acl_names.specs.Bits.{◌∩◌}
use Rattle.acl_names.specs.Letters.{bits_of_rows}
use Rattle.acl_names.specs.declared.text.letters.Letter.{Letter}

-- no two rows have a bit in common
abbrev pub BitsDiffer : List Letter → Type 0
BitsDiffer [] = Unit {0}
BitsDiffer (row ∷ rows) = (row.bit ∩ bits_of_rows rows ≡ 0) × BitsDiffer rows

-- the list has for each byte the bit that the table has for it, and no two bits are the same
pub record GivesBitsOf (bits : List ℕ) (table : List Letter) : Type 0 where
  pub each : (byte : ℕ) → byte < 256 → slice_index bits byte
      ≡ bits_of_rows (filter (λ row. row.letter == byte) table)
  pub bits_stand : AllByRecursion (λ row. (row.bit == 0) ≡ false) table
  pub bits_differ : BitsDiffer table
