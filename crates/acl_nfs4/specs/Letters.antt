-- The letters of flags and of a mask's bits, in the order in which they are printed.
use Rattle.std.specs.Prelude.{List, [], ◌∷◌}
use Rattle.acl_names.specs.declared.text.letters.Letter.{Letter}

-- f d n i S F g
abbrev pub flag_table : List Letter
flag_table =
    record { letter = 102; bit = 0x1 }
    ∷ record { letter = 100; bit = 0x2 }
    ∷ record { letter = 110; bit = 0x4 }
    ∷ record { letter = 105; bit = 0x8 }
    ∷ record { letter = 83; bit = 0x10 }
    ∷ record { letter = 70; bit = 0x20 }
    ∷ record { letter = 103; bit = 0x40 } ∷ []

-- r w a x d D t T n N c C o y
abbrev pub mask_table : List Letter
mask_table =
    record { letter = 114; bit = 0x1 }
    ∷ record { letter = 119; bit = 0x2 }
    ∷ record { letter = 97; bit = 0x4 }
    ∷ record { letter = 120; bit = 0x20 }
    ∷ record { letter = 100; bit = 0x10000 }
    ∷ record { letter = 68; bit = 0x40 }
    ∷ record { letter = 116; bit = 0x80 }
    ∷ record { letter = 84; bit = 0x100 }
    ∷ record { letter = 110; bit = 0x8 }
    ∷ record { letter = 78; bit = 0x10 }
    ∷ record { letter = 99; bit = 0x20000 }
    ∷ record { letter = 67; bit = 0x40000 }
    ∷ record { letter = 111; bit = 0x80000 }
    ∷ record { letter = 121; bit = 0x100000 } ∷ []
