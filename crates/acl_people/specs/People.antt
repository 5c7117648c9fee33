-- The users to evaluate.
use Rattle.std.specs.Prelude.{◌≡◌, ⊤, List, [], ◌∷◌, Option, Some, None, Result, Ok, Err, codes}
use Rattle.std.specs.Prelude.{map, option_map, slice_get, unwrap_or, if◌then◌else◌}
use Rattle.std.specs.List.{zip}
use Rattle.std.specs.Option.{option_and_then}
use Rattle.clap.specs.Words.{Row, Text, all_of, first_of}
use Rattle.acl_names.specs.Ids.{Written, id_of_written}
use Rattle.acl_names.specs.ReadList.{each_read}
use Rattle.acl_names.specs.Steps.{◌>>=◌, map_fault, or_fault}
use Rattle.acl_accounts.specs.Accounts.{KnownAccounts, place_of_written}
use Rattle.acl_cli.specs.Faults.{Malformed}
use Rattle.acl_cli.specs.Fields.{located}
use Rattle.acl_cli.specs.Refusals.{as_a_whole}
use Rattle.acl_cli.specs.declared.failure.Failure.{Failure}
use Rattle.acl_cli.specs.declared.failure.Failure.TheVariants as failure
use Rattle.acl_cli.specs.declared.field_fault.FieldFault.{FieldFault}
use Rattle.acl_cli.specs.declared.field_fault.FieldFault.TheVariants.{RootUser, UnknownUser}
use Rattle.acl_cli.specs.declared.run_fault.RunFault.TheVariants.{Memory}
use Rattle.acl_people.specs.Host.{Host, names_of_host}
use Rattle.acl_people.specs.HostFailures.{own_files}
use Rattle.acl_people.specs.Person.{Person, is_root, person, stranger, without_root}

-- the users in the order of their names, each as a requester
abbrev pub everyone : KnownAccounts → List Person
everyone known = map (λ user. person user.0 user.1)
    (zip (map (λ user. user.name) known.users) known.requesters)

-- all but uid 0
abbrev pub people_of : KnownAccounts → List Person
people_of known = without_root (everyone known)

-- a user, or else the requester with the written id
abbrev pub or_stranger : Option Person → Written → Option Person
or_stranger (Some one) written = Some one
or_stranger None written = option_map stranger (id_of_written (λ name. None) written)

-- the user with the written name or id; of users with the same id, the first
abbrev pub person_written : KnownAccounts → Written → Option Person
person_written known written = or_stranger
    (option_and_then (slice_get (everyone known)) (place_of_written known written)) written

abbrev pub unless_root : Person → Result Person FieldFault
unless_root one = if is_root one then Err RootUser else Ok one

-- the user whom a text names
abbrev pub person_asked : Host → Text → Result Person FieldFault
person_asked host text = do
  one ← or_fault UnknownUser
      (option_and_then (person_written host.accounts)
      ((names_of_host host).written text))
  unless_root one

-- a value of `--user`
abbrev pub person_in : Host → Text → Result Person Malformed
person_in host text = located (codes "--user") (Some text) (person_asked host text)

-- all users, who must not be none, of the accounts of this name
abbrev pub unless_nobody : Text → List Person → Result (List Person) Failure
unless_nobody name [] = Err (failure.Refused (as_a_whole name (codes "no user")))
unless_nobody name (one ∷ more) = Ok (one ∷ more)

-- the users whom texts name, in their order; without texts all users
abbrev pub asked_of : Text → Host → List Text → Result (List Person) Failure
asked_of name host [] = unless_nobody name (people_of host.accounts)
asked_of name host (text ∷ texts) =
    map_fault (λ malformed. failure.Malformed malformed)
    (each_read (person_in host) (text ∷ texts))

-- the name under which faults of the accounts are reported
abbrev pub accounts_in : List Row → Text
accounts_in rows = unwrap_or (first_of (codes "accounts") rows) own_files

abbrev pub asked_in : Host → List Row → Result (List Person) Failure
asked_in host rows = asked_of (accounts_in rows) host (unwrap_or (all_of (codes "user") rows) [])

-- the users to evaluate are refused with this failure, or memory ran out
abbrev pub IsAskedFailure : {A : Type 0} → Result A Failure → Failure → Type 0
IsAskedFailure asked (failure.Lacks Memory) = ⊤
IsAskedFailure asked failed = asked ≡ Err failed
