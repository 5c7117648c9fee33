-- Which sessions the fields of `run` name, and with which limit.
use Rattle.std.specs.Prelude.{◌≡◌, ℕ, ◌^◌, ◌<◌, ◌≤◌, length, List, [], Option, Some, None}
use Rattle.std.specs.Prelude.{codes, unwrap_or}
use Rattle.std.specs.Str.Parse.{IsNumeral, digits_value, without_leading_plus}
use Rattle.clap.specs.Words.{Row, Text, all_of, first_of}
use Rattle.acl_broker.specs.declared.limits.TheConstants.{SESSIONS}
use Rattle.acl_cli.specs.SessionFiles.{input_count}

-- the names of the sessions that the words give
unfoldable pub sessions_in : List Row → List Text
sessions_in rows = unwrap_or (all_of (codes "session") rows) []

-- sessions of these names may run together: there are some, not too many, and standard input is one
-- of them at the most
pub record CanRun (names : List Text) : Type 0 where
  pub some : 1 ≤ length names
  pub few : length names ≤ SESSIONS
  pub once : input_count names ≤ 1

-- the limit is the number that the text of `--max-errors` writes, if the words give one; there is
-- none if it writes no number from 1, which the parser doesn't let through
abbrev pub IsLimit : Option Text → Option ℕ → Type 0
IsLimit None limit = limit ≡ None
IsLimit (Some text) None = ¬ (IsNumeral 10 (without_leading_plus text)
    × (0 < digits_value 10 (without_leading_plus text))
    × (digits_value 10 (without_leading_plus text) < 2 ^ 32))
IsLimit (Some text) (Some errors) = errors ≡ digits_value 10 (without_leading_plus text)

abbrev pub HasLimit : List Row → Option ℕ → Type 0
HasLimit rows limit = IsLimit (first_of (codes "max-errors") rows) limit
