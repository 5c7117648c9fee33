-- How far a block reaches in a text. Private steps, which no public clause cites.
use Rattle.std.specs.Prelude.{◌≡◌, ◌≢◌, ℕ, ◌==◌, ◌&&◌, Bool, true, false, List, [], ◌∷◌, ◌++◌}
use Rattle.std.specs.Prelude.{length, map, if◌then◌else◌}
use Rattle.std.specs.List.{count_by}
use Rattle.std.specs.Simd.Lanes.{mask_l}
use Rattle.acl_names.specs.Bytes.{newline}

-- every line of the text has a byte; begun: one of the first line went before
abbrev pub has_full_lines : Bool → List ℕ → Bool
has_full_lines begun [] = begun
has_full_lines begun (byte ∷ bytes) = if byte == newline then begun && has_full_lines false bytes
    else has_full_lines true bytes

abbrev pub HasFullLines : List ℕ → Type 0
HasFullLines text = has_full_lines false text ≡ true

abbrev pub newlines_in : List ℕ → ℕ
newlines_in text = count_by (λ byte. byte == newline) text

-- a number with a bit for each byte, the lowest for the first: it is set for a newline
abbrev pub newline_marks : List ℕ → ℕ
newline_marks bytes = mask_l (map (λ byte. byte == newline) bytes)

-- the text begins with a byte of a line
abbrev pub BeginsLine : List ℕ → Type 0
BeginsLine [] = ⊥
BeginsLine (byte ∷ bytes) = byte ≢ newline

-- a block ends where this stands behind it: nothing, the newline of its last line, or that and an
-- empty line
abbrev pub EndsBlock : List ℕ → Type 0
EndsBlock [] = Unit {0}
EndsBlock (byte ∷ []) = byte ≡ newline
EndsBlock (byte ∷ next ∷ bytes) = (byte ≡ newline) × (next ≡ newline)

-- the text begins with a block of so many bytes and newlines
pub record IsExtent (text : List ℕ) (len newlines : ℕ) : Type 0 where
  pub block : List ℕ
  pub rest : List ℕ
  pub cut : text ≡ block ++ rest
  pub bytes : length block ≡ len
  pub full : HasFullLines block
  pub counted : newlines_in block ≡ newlines
  pub ends : EndsBlock rest

-- a block that was begun before the text goes on by so many bytes and newlines
pub record GoesOnBy (text : List ℕ) (len newlines : ℕ) : Type 0 where
  pub more : List ℕ
  pub rest : List ℕ
  pub cut : text ≡ more ++ rest
  pub bytes : length more ≡ len
  pub full : has_full_lines true more ≡ true
  pub counted : newlines_in more ≡ newlines
  pub ends : len ≡ 0 → EndsBlock text
