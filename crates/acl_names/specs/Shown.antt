-- Showing bytes that may not be text.
use Rattle.std.specs.Prelude.{ℕ, Bool, ◌+◌, ◌/◌, ◌%◌, ◌&&◌, nat_le, List, [], ◌∷◌, take}
use Rattle.std.specs.Prelude.{if◌then◌else◌}
use Rattle.std.specs.List.{flat_map}
use Rattle.acl_names.specs.Bytes.{backslash, digit_0, space, tilde}
use Rattle.acl_names.specs.declared.limits.TheConstants.{MAX_SHOWN}

-- `\` and the three octal digits of a byte
abbrev pub octal : ℕ → List ℕ
octal byte =
    backslash ∷ (digit_0 + byte / 64) ∷ (digit_0 + byte / 8 % 8) ∷ (digit_0 + byte % 8) ∷ []

-- a printable byte of ASCII, `\` too
abbrev pub is_printable : ℕ → Bool
is_printable byte = nat_le space byte && nat_le byte tilde

-- itself, or `\` and its three octal digits
abbrev pub shown_byte : ℕ → List ℕ
shown_byte byte = if is_printable byte then byte ∷ [] else octal byte

-- at most the first 200 bytes of a line, each as it is shown
abbrev pub shown : List ℕ → List ℕ
shown line = flat_map shown_byte (take MAX_SHOWN line)
