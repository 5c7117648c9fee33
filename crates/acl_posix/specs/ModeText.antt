-- How a mode is written.
use Rattle.std.specs.Prelude.{ℕ, ◌-◌, ◌&&◌, Bool, nat_le, List, [], ◌∷◌, Option, Some, None}
use Rattle.std.specs.Prelude.{if◌then◌else◌}
use Rattle.acl_names.specs.Bytes.{digit_0, digit_7}
use Rattle.acl_posix.specs.Mode.{Classes}

-- an octal digit
abbrev pub is_octal : ℕ → Bool
is_octal byte = nat_le digit_0 byte && nat_le byte digit_7

-- the mode that three octal digits write: a digit for each class
abbrev pub mode_of_octal : List ℕ → Option Classes
mode_of_octal (user ∷ group ∷ other ∷ []) =
    if is_octal user && is_octal group && is_octal other
    then Some (record { user = user - digit_0; group = group - digit_0; other = other - digit_0 })
    else None
mode_of_octal _ = None
