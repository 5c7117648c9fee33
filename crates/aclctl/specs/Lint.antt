-- The two commands that are called `lint`: of a listing, and of a setup and sessions.
use Rattle.std.specs.Prelude.{ℕ, Bool, true, false, ◌||◌, List, Option, bytes_eq, codes, take}
use Rattle.std.specs.List.{list_any}
use Rattle.clap.specs.Words.{Text}
use Rattle.acl_cli.specs.Commands.{Meaning, of_words}
use Rattle.acl_lint.specs.LintAnswer.{lint_meaning}
use Rattle.acl_lint.specs.LintLine.{lint_line}
use Rattle.acl_listing_lint.specs.LintsLine.{lints_line}
use Rattle.acl_listing_lint.specs.LintsMeaning.{lints_meaning}

-- the option that names a setup, by itself or with its value
abbrev pub is_setup_option : Text → Bool
is_setup_option word =
    bytes_eq word (codes "--setup") || bytes_eq (codes "--setup=") (take 8 word)

-- one of the words is that option
abbrev pub names_setup : List Text → Bool
names_setup words = list_any is_setup_option words

-- what words mean to the one, where they name a setup, and else to the other
abbrev pub lint_by : Bool → (Text → Option (List ℕ)) → Option (List ℕ) → List Text → Meaning
lint_by true files input words = of_words lint_line true (lint_meaning files input) words
lint_by false files input words = of_words lints_line true (lints_meaning files input) words
