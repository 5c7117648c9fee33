-- Where in a text a byte stands: its line and its column, both from 1.
use Rattle.std.specs.Prelude.{ℕ, ◌+◌, ◌==◌, ◌&&◌, Bool, nat_le, nat_lt, List}
use Rattle.std.specs.Prelude.{fold, if◌then◌else◌}
use Rattle.acl_names.specs.Bytes.{newline}
use Rattle.acl_setup.specs.declared.spot.Spot.{Spot}

-- the byte goes on with a character that an earlier one begins
abbrev pub goes_on : ℕ → Bool
goes_on byte = nat_le 128 byte && nat_lt byte 192

-- the place after a byte: a column counts characters
abbrev pub next_spot : Spot → ℕ → Spot
next_spot spot byte =
    if byte == newline then record { line = spot.line + 1; column = 1 }
    else (if goes_on byte then spot
    else record { line = spot.line; column = spot.column + 1 })

-- the place of what follows these bytes
abbrev pub spot_after : List ℕ → Spot
spot_after bytes = fold next_spot (record { line = 1; column = 1 }) bytes
