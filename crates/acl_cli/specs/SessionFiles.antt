-- The files of a setup and of sessions, as fields name them, and their bytes.
use Rattle.std.specs.Borrow.{Bor}
use Rattle.std.specs.Prelude.{◌≡◌, ⊤, ℕ, ◌+◌, List, [], ◌∷◌, Option, Vec, IfSome, codes, map}
use Rattle.std.specs.Prelude.{bytes_eq, if◌then◌else◌, unwrap_or}
use Rattle.std.specs.declared.alloc.Global.{Global}
use Rattle.clap.specs.Words.{Row, Text, all_of, first_of}

-- the name of the setup's file
unfoldable pub setup_in : List Row → Text
setup_in rows = unwrap_or (first_of (codes "setup") rows) []

-- the names, or none
abbrev pub all_names : Option (List Text) → List Text
all_names names = unwrap_or names []

-- the names themselves, where they are lent
abbrev pub shown_names : Bor (List (Bor (List ℕ))) → List Text
shown_names names = map (λ name. name.now) names.now

-- the names of files that the words give for an option or a word
abbrev pub names_in : Text → List Row → List Text
names_in name rows = all_names (all_of name rows)

-- how many of these names are standard input
abbrev pub input_count : List Text → ℕ
input_count [] = 0
input_count (name ∷ names) = if bytes_eq name (codes "-") then 1 + input_count names
    else input_count names

-- the bytes are the known ones, if any are known
abbrev pub HasBytes : Option (List ℕ) → List ℕ → Type 0
HasBytes known bytes = IfSome known (λ those. bytes ≡ those)

-- the bytes of a session's text, if they are known: `-` is standard input
abbrev pub bytes_of_session : (Text → Option (List ℕ)) → Option (List ℕ) → Text → Option (List ℕ)
bytes_of_session bytes_of input name = if bytes_eq name (codes "-") then input else bytes_of name

-- a text for each name, of its bytes
abbrev pub HaveBytes : (Text → Option (List ℕ)) → Option (List ℕ) → List Text → List (Vec ℕ Global)
    → Type 0
HaveBytes bytes_of input [] [] = ⊤
HaveBytes bytes_of input (name ∷ names) (text ∷ texts) =
    HasBytes (bytes_of_session bytes_of input name) text.items
    × HaveBytes bytes_of input names texts
HaveBytes bytes_of input _ _ = ⊥
