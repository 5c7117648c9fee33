-- Failures of reading the users and groups of a host.
use Rattle.std.specs.Prelude.{◌≡◌, ◌⊎◌, ◌<◌, ◌-◌, ℕ, List, [], ◌∷◌, length, Option, Some, None, Err}
use Rattle.std.specs.Prelude.{Contains, IfSome, codes, drop}
use Rattle.clap.specs.Words.{Row, Text, first_of}
use Rattle.acl_names.specs.Bytes.{newline}
use Rattle.acl_names.specs.Pieces.{parts}
use Rattle.acl_accounts.specs.Accounts.{rows_within}
use Rattle.acl_accounts.specs.declared.fault.AccountsFault.TheVariants.{BadAccount, TooMany}
use Rattle.acl_accounts.specs.declared.limits.TheConstants.{MAX_ACCOUNTS_TEXT}
use Rattle.acl_cli.specs.Refusals.{Refusal, as_a_whole, at_line}
use Rattle.acl_cli.specs.declared.failure.Failure.{Failure}
use Rattle.acl_cli.specs.declared.failure.Failure.TheVariants as failure
use Rattle.acl_cli.specs.declared.run_fault.RunFault.TheVariants.{Memory}
use Rattle.acl_people.specs.Host.{groups_file, own_text, users_file}

-- the name under which faults of the host's own accounts are reported; their lines are numbered
-- through both files
abbrev pub own_files : Text
own_files = codes "/etc/passwd, /etc/group"

-- the first of lines, if there is one
abbrev pub first_of_lines : List (List ℕ) → List ℕ
first_of_lines [] = []
first_of_lines (line ∷ lines) = line

-- the line with this number, from 1, of a text
abbrev pub line_numbered : ℕ → List ℕ → List ℕ
line_numbered number text = first_of_lines (drop (number - 1) (parts newline text))

-- the text, if it is known, is too long, or has too many users or groups
abbrev pub IsOverfull : Option (List ℕ) → Text → Refusal → Type 0
IsOverfull known name refusal = (refusal ≡ as_a_whole name (codes "too-many"))
    × IfSome known (λ text. rows_within text ≡ Err TooMany)

-- the text has a malformed line
pub record HasBadLine (known : Option (List ℕ)) (name : Text) (refusal : Refusal) : Type 0 where
  pub text : List ℕ
  pub text_is : IfSome known (λ those. text ≡ those)
  pub line : ℕ
  pub refused : rows_within text ≡ Err (BadAccount line)
  pub said : refusal ≡ at_line name line (codes "bad-account") (line_numbered line text)

-- a file of accounts is refused with this failure, which is reported under this name: it can't be
-- read, it is too long, or memory ran out
abbrev pub IsTextFailure : Option (List ℕ) → Text → Text → Failure → Type 0
IsTextFailure known file name (failure.CannotRead refused reason) = refused.now ≡ file
IsTextFailure known file name (failure.Refused refusal) =
    (refusal ≡ as_a_whole name (codes "too-many"))
    × IfSome known (λ text. MAX_ACCOUNTS_TEXT < length text)
IsTextFailure known file name (failure.Lacks lack) = lack ≡ Memory
IsTextFailure known file name _ = ⊥

-- the text of the files with these names is refused with this failure, which is reported under this
-- name: one of them can't be read, the text isn't accounts, or memory ran out
abbrev pub IsAccountsFailure : Option (List ℕ) → List Text → Text → Failure → Type 0
IsAccountsFailure known files name (failure.CannotRead refused reason) = Contains files refused.now
IsAccountsFailure known files name (failure.Refused refusal) =
    IsOverfull known name refusal ⊎ HasBadLine known name refusal
IsAccountsFailure known files name (failure.Lacks lack) = lack ≡ Memory
IsAccountsFailure known files name _ = ⊥

-- the files that the words name can't be read as accounts, with this failure
abbrev pub IsAccountsFailureBy : (Text → Option (List ℕ)) → Option Text → Failure → Type 0
IsAccountsFailureBy bytes_of (Some name) failed =
    IsAccountsFailure (bytes_of name) (name ∷ []) name failed
IsAccountsFailureBy bytes_of None failed =
    IsAccountsFailure (own_text bytes_of) (users_file ∷ groups_file ∷ []) own_files failed

abbrev pub IsHostFailure : (Text → Option (List ℕ)) → List Row → Failure → Type 0
IsHostFailure bytes_of rows failed =
    IsAccountsFailureBy bytes_of (first_of (codes "accounts") rows) failed
