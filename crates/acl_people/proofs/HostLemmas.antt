-- Files of accounts: their text as one, and why they aren't taken.
use Rattle.std.proofs.Common.{◌≡◌, ◌<◌, ◌++◌, ◌∷◌, ℕ, List, Option, Some, None, Err, IfSome, inl, length, length-append, arith, subst, sym}
use Rattle.std.specs.Prelude.{Contains}
use Rattle.std.proofs.lemmas.Bool.Decides.{nat_tests}
use Rattle.clap.specs.Words.{Text}
use Rattle.acl_names.specs.Bytes.{newline}
use Rattle.acl_accounts.specs.Accounts.{rows_within}
use Rattle.acl_accounts.specs.declared.fault.AccountsFault.TheVariants.{TooMany}
use Rattle.acl_accounts.specs.declared.limits.TheConstants.{MAX_ACCOUNTS_TEXT}
use Rattle.acl_cli.specs.declared.failure.Failure.{Failure}
use Rattle.acl_cli.specs.declared.failure.Failure.TheVariants as failure
use Rattle.acl_people.specs.Host.{as_one_text}
use Rattle.acl_people.specs.HostFailures.{IsAccountsFailure, IsTextFailure}

-- the two texts that were read are the known ones as one
pub as_one_text-read : (users groups : Option (List ℕ)) (first second : List ℕ) → IfSome users (λ those. first ≡ those) → IfSome groups (λ those. second ≡ those)
    → IfSome (as_one_text users groups) (λ those. first ++ newline ∷ second ≡ those)
as_one_text-read None groups first second users_are groups_are = tt
as_one_text-read (Some user_text) None first second users_are groups_are = tt
as_one_text-read (Some user_text) (Some group_text) first second users_are groups_are = cc

abbrev pub IsTooLong : Option (List ℕ) → Type 0
IsTooLong known = IfSome known (λ text. MAX_ACCOUNTS_TEXT < length text)

-- a text is too long if a part of it is
pub users-too_long : (users groups : Option (List ℕ)) → IsTooLong users → IsTooLong (as_one_text users groups)
users-too_long None groups long = tt
users-too_long (Some user_text) None long = tt
users-too_long (Some user_text) (Some group_text) long = omega (arith, length-append user_text (newline ∷ group_text))

pub groups-too_long : (users groups : Option (List ℕ)) → IsTooLong groups → IsTooLong (as_one_text users groups)
groups-too_long None groups long = tt
groups-too_long (Some user_text) None long = tt
groups-too_long (Some user_text) (Some group_text) long = omega (arith, length-append user_text (newline ∷ group_text))

-- and then has too much in it
too_long-overfull : (known : Option (List ℕ)) → IsTooLong known → IfSome known (λ text. rows_within text ≡ Err TooMany)
too_long-overfull None long = tt
too_long-overfull (Some text) long = grind (arith, nat_tests)

-- why a file isn't taken is why it and others give no accounts
pub text_refusal : (known whole : Option (List ℕ)) (file name : Text) (files : List Text) → Contains files file → (IsTooLong known → IsTooLong whole)
    → (failed : Failure) → IsTextFailure known file name failed → IsAccountsFailure whole files name failed
text_refusal known whole file name files among longer (failure.CannotRead refused reason) is = subst (Contains files) (sym is) among
text_refusal known whole file name files among longer (failure.Refused refusal) is = inl (is.0, too_long-overfull whole (longer is.1))
text_refusal known whole file name files among longer (failure.Lacks lack) is = is
text_refusal known whole file name files among longer (failure.Usage error) is = absurd is
text_refusal known whole file name files among longer (failure.Misuse misuse) is = absurd is
text_refusal known whole file name files among longer (failure.Field fault) is = absurd is
text_refusal known whole file name files among longer (failure.Malformed malformed) is = absurd is
text_refusal known whole file name files among longer (failure.Unread unread) is = absurd is
