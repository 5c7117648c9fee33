-- How it is reported what is found in a listing.
use Rattle.std.specs.Prelude.{ℕ, List, ◌++◌, codes, decimal}
use Rattle.acl_names.specs.Shown.{shown}

-- an entry as a listing of this name writes it: the number of its line, what stands before it in
-- the line, and the entry itself
pub record Spot : Type 0 where
  pub name : List ℕ
  pub line : ℕ
  pub before : List ℕ
  pub piece : List ℕ

-- the entry, as it is shown
abbrev pub entry_at : Spot → List ℕ
entry_at spot = spot.before ++ shown spot.piece

-- `LISTING:LINE: WORD ` and a text
abbrev pub found_line : List ℕ → ℕ → List ℕ → List ℕ → List ℕ
found_line name line word text = (name ++ codes ":" ++ decimal line ++ codes ": " ++ word
    ++ codes " ") ++ (text ++ codes "\n")
