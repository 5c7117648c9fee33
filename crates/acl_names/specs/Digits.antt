-- Private steps, which no public clause cites: digits, two at a time.
use Rattle.std.specs.Prelude.{ℕ, ◌+◌, ◌/◌, ◌%◌, List, [], ◌∷◌}
use Rattle.acl_names.specs.Bytes.{digit_0}

-- the two digits of a number below 100
abbrev pub pair : ℕ → List ℕ
pair number = (digit_0 + number / 10) ∷ (digit_0 + number % 10) ∷ []
