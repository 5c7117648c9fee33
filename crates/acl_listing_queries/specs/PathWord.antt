-- PATH of `why`, as the words have it and as a listing does.
use Rattle.std.specs.Prelude.{ℕ, Bool, ◌==◌, ◌&&◌, ◌||◌, not, List, ◌∷◌, if◌then◌else◌}
use Rattle.acl_names.specs.Bytes.{backslash, carriage_return, newline}
use Rattle.acl_accounts.specs.Names.{is_octal, is_pair, octal_value}

-- the bytes of a path that getfacl prints in another way than as they are
abbrev pub is_escaped : ℕ → Bool
is_escaped byte = (byte == newline) || (byte == carriage_return) || (byte == backslash)

-- whether these are `\` and the octal digits of a byte that a listing has as it is
abbrev pub is_written_out : ℕ → ℕ → ℕ → ℕ → Bool
is_written_out first a b c = is_octal first a b c && not (is_escaped (octal_value a b c))

-- PATH as a listing has it: two backslashes stay, a byte that is written out is that byte, and any
-- other is itself
abbrev pub as_listed : List ℕ → List ℕ
as_listed (first ∷ a ∷ b ∷ c ∷ more) =
    if is_pair first a then first ∷ a ∷ as_listed (b ∷ c ∷ more)
    else if is_written_out first a b c then octal_value a b c ∷ as_listed more
    else first ∷ as_listed (a ∷ b ∷ c ∷ more)
as_listed text = text
