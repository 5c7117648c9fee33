-- The lines at the front of a text.
use Rattle.std.specs.Prelude.{ℕ, ◌==◌, List}
use Rattle.std.specs.List.{after_first, before_first}
use Rattle.acl_names.specs.Bytes.{newline}

-- the text before the first newline, or all of it without a newline
abbrev pub first_line : List ℕ → List ℕ
first_line text = before_first (λ byte. byte == newline) text

-- the text after it, or nothing
abbrev pub after_line : List ℕ → List ℕ
after_line text = after_first (λ byte. byte == newline) text
