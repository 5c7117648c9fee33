-- Names of accounts, and how getfacl writes them.
use Rattle.std.specs.Prelude.{ℕ, ◌+◌, ◌-◌, ◌*◌, Bool, ◌==◌, ◌&&◌, ◌||◌, not, nat_le}
use Rattle.std.specs.Prelude.{List, [], ◌∷◌, length, Option, Some, None, option_map, if◌then◌else◌}
use Rattle.std.specs.List.{flat_map, list_all, list_any}
use Rattle.std.specs.Char.{is_ascii_digit}
use Rattle.acl_names.specs.Bytes.{backslash, carriage_return, colon, comma, digit_0, digit_7}
use Rattle.acl_names.specs.Bytes.{newline, space, tab}
use Rattle.acl_names.specs.Ids.{Written, Number, Name, decimal_value}
use Rattle.acl_names.specs.Shown.{octal}
use Rattle.acl_accounts.specs.declared.limits.TheConstants.{MAX_ACCOUNT_NAME}

-- `3`
abbrev pub digit_3 : ℕ
digit_3 = 51

-- 1 to 255 bytes, none of them ':' or a newline
abbrev pub is_account_name : List ℕ → Bool
is_account_name text = nat_le 1 (length text) && nat_le (length text) MAX_ACCOUNT_NAME
    && not (list_any (λ byte. (byte == colon) || (byte == newline)) text)

-- the bytes at which lines, words and entries are split
abbrev pub splits : ℕ → Bool
splits byte = (byte == space) || (byte == tab) || (byte == newline) || (byte == carriage_return)
    || (byte == colon) || (byte == comma)

-- the bytes that are printed as octal digits: those, and `\`
abbrev pub is_quoted : ℕ → Bool
is_quoted byte = splits byte || (byte == backslash)

abbrev pub quoted_byte : ℕ → List ℕ
quoted_byte byte = if is_quoted byte then octal byte else byte ∷ []

-- a name as it is printed
abbrev pub quoted : List ℕ → List ℕ
quoted name = flat_map quoted_byte name

abbrev pub is_between : ℕ → ℕ → ℕ → Bool
is_between low high byte = nat_le low byte && nat_le byte high

-- `\` and the three octal digits of a byte, which is at most 255
abbrev pub is_octal : ℕ → ℕ → ℕ → ℕ → Bool
is_octal first a b c = (first == backslash) && is_between digit_0 digit_3 a
    && is_between digit_0 digit_7 b && is_between digit_0 digit_7 c

abbrev pub octal_value : ℕ → ℕ → ℕ → ℕ
octal_value a b c = (a - digit_0) * 64 + (b - digit_0) * 8 + (c - digit_0)

-- the byte that a text begins with, as `\` and three octal digits
abbrev pub octal_front : List ℕ → Option ℕ
octal_front (first ∷ a ∷ b ∷ c ∷ more) =
    if is_octal first a b c then Some (octal_value a b c) else None
octal_front text = None

-- two backslashes
abbrev pub is_pair : ℕ → ℕ → Bool
is_pair first second = (first == backslash) && (second == backslash)

-- what is written: two backslashes are one, `\` and three octal digits are that byte, and any
-- other byte is itself
abbrev pub unquoted : List ℕ → List ℕ
unquoted (first ∷ a ∷ b ∷ c ∷ more) =
    if is_pair first a then backslash ∷ unquoted (b ∷ c ∷ more)
    else if is_octal first a b c then octal_value a b c ∷ unquoted more
    else first ∷ unquoted (a ∷ b ∷ c ∷ more)
unquoted (first ∷ a ∷ more) = if is_pair first a then backslash ∷ unquoted more
    else first ∷ unquoted (a ∷ more)
unquoted text = text

abbrev pub named : List ℕ → Option Written
named name = if is_account_name name then Some (Name name) else None

-- what a text writes: all digits an id, if it is one, and anything else a name
abbrev pub written_account : List ℕ → Option Written
written_account text =
    if list_all is_ascii_digit text then option_map Number (decimal_value text)
    else named (unquoted text)
