-- Who may do what, line by line.
use Rattle.std.specs.Prelude.{ℕ, List, ◌++◌, codes}

-- `LETTERS NAME PATH`, where a number's letters are written by this function
abbrev pub written_line : (ℕ → List ℕ) → List ℕ → List ℕ → ℕ → List ℕ
written_line text path name letters = text letters ++ codes " " ++ name ++ codes " " ++ path
    ++ codes "\n"

-- `NAME PATH`
abbrev pub may_line : List ℕ → List ℕ → List ℕ
may_line path name = name ++ codes " " ++ path ++ codes "\n"
