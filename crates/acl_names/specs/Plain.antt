-- Pieces in the plain form: without blanks and comments.
use Rattle.std.specs.Prelude.{◌≡◌, ℕ, ◌<◌, Bool, true, not, ◌&&◌, ◌||◌, ◌==◌, List, ◌∷◌, ◌++◌}
use Rattle.std.specs.Prelude.{length, Some, Result, Ok, All}
use Rattle.acl_names.specs.Bytes.{newline, tab, space, hash, comma, colon}
use Rattle.acl_names.specs.Ids.{decimal_value}
use Rattle.acl_names.specs.Pieces.{is_blank}

-- neither a blank nor a byte that cuts a text into pieces
abbrev pub is_plain : ℕ → Bool
is_plain byte = not (is_blank byte) && (not (byte == newline)
    && (not (byte == hash) && not (byte == comma)))

abbrev pub IsPlain : List ℕ → Type 0
IsPlain text = All (λ byte. is_plain byte ≡ true) text

-- a byte in a field of a plain piece
abbrev pub is_field_byte : ℕ → Bool
is_field_byte byte = is_plain byte && not (byte == colon)

-- a byte that ends one: a blank, or one that cuts a text into pieces or a piece into fields
abbrev pub ends_field : ℕ → Bool
ends_field byte = (byte == space) || (byte == tab) || (byte == colon) || (byte == comma)
    || (byte == hash) || (byte == newline)

abbrev pub IsField : List ℕ → Type 0
IsField text = All (λ byte. is_field_byte byte ≡ true) text

-- the text begins with a plain piece that means the value, and this is the rest of it
pub record IsFront {A F : Type 0} (value_of : List ℕ → Result A F) (text : List ℕ) (value : A)
    (rest : List ℕ) : Type 0 where
  pub piece : List ℕ
  pub cut : text ≡ piece ++ rest
  pub some : 0 < length piece
  pub plain : IsPlain piece
  pub said : value_of piece ≡ Ok value

-- the text begins with a decimal of this id and a separator, and this is the rest of it
pub record BeginsWithDecimal (separator : ℕ) (text : List ℕ) (id : ℕ) (rest : List ℕ) : Type 0 where
  pub digits : List ℕ
  pub cut : text ≡ digits ++ separator ∷ rest
  pub writes : decimal_value digits ≡ Some id
