-- The same users by other accounts.
use Rattle.std.specs.Prelude.{◌≡◌, ℕ, List, [], Option, Some, None, Result, Ok, Err, codes, map}
use Rattle.std.specs.Prelude.{slice_get}
use Rattle.std.specs.List.{position}
use Rattle.std.specs.Option.{option_and_then, option_map_or}
use Rattle.clap.specs.Words.{Row, Text, first_of}
use Rattle.acl_names.specs.Requester.{Identity}
use Rattle.acl_accounts.specs.Names.{written_account}
use Rattle.acl_cli.specs.Refusals.{for_text}
use Rattle.acl_cli.specs.declared.failure.Failure.{Failure}
use Rattle.acl_cli.specs.declared.failure.Failure.TheVariants.{Refused}
use Rattle.acl_people.specs.Host.{AreAccountsBy, Host}
use Rattle.acl_people.specs.HostFailures.{IsAccountsFailureBy}
use Rattle.acl_people.specs.People.{person_written}
use Rattle.acl_people.specs.Person.{Person, is_root}

-- the users and groups of the file with this name, and the domain that the words name
pub record IsOtherHost (bytes_of : Text → Option (List ℕ)) (name : Text) (rows : List Row)
    (host : Host) : Type 0 where
  pub accounts : AreAccountsBy bytes_of (Some name) host.accounts
  pub domain : host.domain ≡ first_of (codes "domain") rows

-- the file can't be read as accounts, with this failure
abbrev pub IsOtherHostFailure : (Text → Option (List ℕ)) → Text → Failure → Type 0
IsOtherHostFailure bytes_of name failed = IsAccountsFailureBy bytes_of (Some name) failed

-- the requester with this uid, in no group
abbrev pub without_groups : ℕ → Identity
without_groups uid = record { uid = uid; gids = [] }

-- The same user by other accounts: the one whom these have by the printed name; without one, the
-- requester with the uid, in no group.
abbrev pub elsewhere : Host → Person → Person
elsewhere host one = record {
  name = one.name;
  who = option_map_or (λ other. other.who)
      (option_and_then (person_written host.accounts) (written_account one.name))
      (without_groups one.who.uid);
}

-- the name of the user at a place
abbrev pub name_at : List Person → ℕ → List ℕ
name_at persons place = option_map_or (λ one. one.name) (slice_get persons place) []

-- all of them, if none is uid 0, which is never evaluated, by the accounts of this name
abbrev pub unless_root_among : Text → List Person → Result (List Person) Failure
unless_root_among name persons = by (position is_root persons)
  where
    by : Option ℕ → Result (List Person) Failure
    by (Some place) = Err (Refused (for_text name (codes "root") (name_at persons place)))
    by None = Ok persons

-- these people by the accounts of this name, in their order
abbrev pub asked_elsewhere : Text → Host → List Person → Result (List Person) Failure
asked_elsewhere name host persons = unless_root_among name (map (elsewhere host) persons)
