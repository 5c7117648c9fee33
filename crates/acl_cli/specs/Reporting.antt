-- A report, item by item: an answer, and lines for standard error.
use Rattle.std.specs.Prelude.{ℕ, Bool, true, false, List, [], ◌∷◌, ◌++◌}

-- after these texts, what is reported from the new state on is reported from the old one on
abbrev pub LeadsOn : (List ℕ → List ℕ → Type 0) → (List ℕ → List ℕ → Type 0) → List ℕ → List ℕ
    → Type 0
LeadsOn Old New reported said = (rest others : List ℕ) → New rest others
    → Old (reported ++ rest) (said ++ others)

abbrev pub is_empty : List ℕ → Bool
is_empty [] = true
is_empty (byte ∷ bytes) = false
