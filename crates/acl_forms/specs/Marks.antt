-- The letters of the freebsd form, and texts in which each may be at any place, and occur again.
use Rattle.std.specs.Prelude.{ℕ, Bool, ◌==◌, ◌||◌, List, [], ◌∷◌, Option, Some, None}
use Rattle.std.specs.Prelude.{if◌then◌else◌}
use Rattle.std.specs.List.{list_all}
use Rattle.acl_names.specs.Bytes.{hyphen}
use Rattle.acl_names.specs.Letters.{bits_of_rows, is_letter_of, rows_in}
use Rattle.acl_names.specs.declared.text.letters.Letter.{Letter}

-- r w x p d D a A R W c C o s
abbrev pub perm_table : List Letter
perm_table =
    record { letter = 114; bit = 0x1 }
    ∷ record { letter = 119; bit = 0x2 }
    ∷ record { letter = 120; bit = 0x20 }
    ∷ record { letter = 112; bit = 0x4 }
    ∷ record { letter = 100; bit = 0x10000 }
    ∷ record { letter = 68; bit = 0x40 }
    ∷ record { letter = 97; bit = 0x80 }
    ∷ record { letter = 65; bit = 0x100 }
    ∷ record { letter = 82; bit = 0x8 }
    ∷ record { letter = 87; bit = 0x10 }
    ∷ record { letter = 99; bit = 0x20000 }
    ∷ record { letter = 67; bit = 0x40000 }
    ∷ record { letter = 111; bit = 0x80000 }
    ∷ record { letter = 115; bit = 0x100000 } ∷ []

-- f d i n S F I; the last marks an inherited entry, and no entry of a list keeps it
abbrev pub mark_table : List Letter
mark_table =
    record { letter = 102; bit = 0x1 }
    ∷ record { letter = 100; bit = 0x2 }
    ∷ record { letter = 105; bit = 0x8 }
    ∷ record { letter = 110; bit = 0x4 }
    ∷ record { letter = 83; bit = 0x10 }
    ∷ record { letter = 70; bit = 0x20 }
    ∷ record { letter = 73; bit = 0x80 } ∷ []

-- a letter of the table, or a hyphen, which means none
abbrev pub is_mark_of : List Letter → ℕ → Bool
is_mark_of table byte = (byte == hyphen) || is_letter_of table byte

-- the bits whose letters the text has, in any order and any number of times, among hyphens
unfoldable pub marks_of : List Letter → List ℕ → Option ℕ
marks_of table text = if list_all (is_mark_of table) text
    then Some (bits_of_rows (rows_in table text)) else None
