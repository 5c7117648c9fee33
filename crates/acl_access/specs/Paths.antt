-- How commands print paths.
use Rattle.std.specs.Prelude.{ℕ, Bool, ◌||◌, ◌==◌, nat_lt, List, [], ◌∷◌, if◌then◌else◌}
use Rattle.std.specs.List.{flat_map}
use Rattle.acl_names.specs.Bytes.{space}
use Rattle.acl_names.specs.Shown.{octal}

-- a byte that could control a terminal or end a line: below a blank, or delete
abbrev pub is_control : ℕ → Bool
is_control byte = nat_lt byte space || byte == 127

-- itself, or `\` and its three octal digits
abbrev pub path_byte : ℕ → List ℕ
path_byte byte = if is_control byte then octal byte else byte ∷ []

-- a path as it is printed
abbrev pub printed_path : List ℕ → List ℕ
printed_path path = flat_map path_byte path
