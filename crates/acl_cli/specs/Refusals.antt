-- The line about something that is refused.
use Rattle.std.specs.Prelude.{◌++◌, ℕ, List, [], Option, None, Some, codes, decimal}
use Rattle.acl_names.specs.Shown.{shown}

-- what is refused; its line at fault, if there is one; the fault; and the bytes at fault, if there
-- are any
pub record Refusal : Type 0 where
  pub name : List ℕ
  pub line : Option ℕ
  pub word : List ℕ
  pub text : Option (List ℕ)

abbrev pub as_a_whole : List ℕ → List ℕ → Refusal
as_a_whole name word = record { name = name; line = None; word = word; text = None }

abbrev pub for_text : List ℕ → List ℕ → List ℕ → Refusal
for_text name word text = record { name = name; line = None; word = word; text = Some text }

abbrev pub at_line : List ℕ → ℕ → List ℕ → List ℕ → Refusal
at_line name line word text =
    record { name = name; line = Some line; word = word; text = Some text }

-- `:LINE`
abbrev pub line_words : Option ℕ → List ℕ
line_words None = []
line_words (Some line) = codes ":" ++ decimal line

-- `: TEXT`
abbrev pub text_words : Option (List ℕ) → List ℕ
text_words None = []
text_words (Some text) = codes ": " ++ shown text

-- `NAME:LINE: WORD: TEXT`
abbrev pub refused_words : List ℕ → Option ℕ → List ℕ → Option (List ℕ) → List ℕ
refused_words name line word text =
    name ++ line_words line ++ codes ": " ++ word ++ text_words text

abbrev pub refusal_words : Refusal → List ℕ
refusal_words refusal = refused_words refusal.name refusal.line refusal.word refusal.text
