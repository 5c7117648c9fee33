-- What the fields of `impact` mean, by the lists of two listings.
use Rattle.std.specs.Prelude.{◌≡◌, ◌⊎◌, ◌||◌, ◌+◌, ℕ, Bool, true, false, not, List, Option}
use Rattle.std.specs.Prelude.{Ok, codes, is_some, map}
use Rattle.clap.specs.Words.{Row, Text, all_of}
use Rattle.acl_cli.specs.Commands.{Answer, Meaning}
use Rattle.acl_cli.specs.Fields.{flag_in}
use Rattle.acl_cli.specs.declared.failure.Failure.{Failure}
use Rattle.acl_cli.specs.declared.failure.Failure.TheVariants.{Misuse}
use Rattle.acl_cli.specs.declared.misuse.Misuse.TheVariants.{InputTwice}
use Rattle.acl_people.specs.Host.{Host, IsHost, names_of_host}
use Rattle.acl_people.specs.HostFailures.{IsHostFailure}
use Rattle.acl_people.specs.People.{IsAskedFailure, asked_in}
use Rattle.acl_people.specs.Person.{Person}
use Rattle.acl_reports.specs.ListingMeaning.{bytes_named, inputs_of}
use Rattle.acl_reports.specs.Strangers.{stranger_in}
use Rattle.acl_reports.specs.RulesMeaning.{rules_in}
use Rattle.acl_listing_changes.specs.ChangeMeaning.{FailsForListings, after_in, before_in}
use Rattle.acl_listing_changes.specs.ChangeMeaning.{is_input_twice}
use Rattle.acl_listing_changes.specs.Changes.{IsChangeAnswer, IsChangeBegun, Named, OfListings}
use Rattle.acl_listing_changes.specs.Changes.{Wording}
use Rattle.acl_listing_changes.specs.Impacting.{Concern, ImpactAsking, impacting}

-- the words name users to evaluate
abbrev pub names_users : List Row → Bool
names_users rows = is_some (all_of (codes "user") rows)

-- Each affected user has a line if the words say so, or name users; somebody else has one only if
-- they name none.
abbrev pub concern_in : List Person → List Row → Concern
concern_in persons rows = record {
  persons = persons;
  known = map (λ person. person.who) persons;
  each = flag_in (codes "all") rows || names_users rows;
  somebody = not (names_users rows);
}

abbrev pub impact_asked : Host → List Person → List Row → ImpactAsking
impact_asked host persons rows = record {
  names = names_of_host host;
  stranger = stranger_in host;
  rules = rules_in rows;
  concern = concern_in persons rows;
  written = flag_in (codes "text") rows;
  asks = flag_in (codes "exit-code") rows;
}

-- the files give users and groups, the words the users to evaluate, and the answer follows from
-- both, with which ids each listing names that no account has
pub record ImpactAnswers (Is : Wording → Named → Named → Answer → Type 0)
    (bytes_of : Text → Option (List ℕ)) (input : Option (List ℕ)) (rows : List Row)
    (answer : Answer) : Type 0 where
  pub host : Host
  pub host_is : IsHost bytes_of rows host
  pub persons : List Person
  pub persons_are : asked_in host rows ≡ Ok persons
  pub is : OfListings (Is (impacting (impact_asked host persons rows))) (before_in rows)
      (bytes_named bytes_of input (before_in rows)) (after_in rows)
      (bytes_named bytes_of input (after_in rows)) answer

-- both listings are standard input; or they aren't, and the accounts can't be read, the users are
-- refused, or the listings fail
abbrev pub FailsForImpact : (Text → Option (List ℕ)) → List Row → Failure → Type 0
FailsForImpact bytes_of rows failure =
    ((failure ≡ Misuse InputTwice) × (is_input_twice (before_in rows) (after_in rows) ≡ true))
    ⊎ ((is_input_twice (before_in rows) (after_in rows) ≡ false)
    × (IsHostFailure bytes_of rows failure
    ⊎ (((host : Host) × IsHost bytes_of rows host × IsAskedFailure (asked_in host rows) failure)
    ⊎ FailsForListings (before_in rows) (after_in rows) failure)))

-- of the lists of files
abbrev pub lists_meaning : (Text → Option (List ℕ)) → Option (List ℕ) → List Row → Meaning
lists_meaning bytes_of input rows = record {
  Answers = ImpactAnswers IsChangeAnswer bytes_of input rows;
  Begins = ImpactAnswers IsChangeBegun bytes_of input rows;
  Fails = FailsForImpact bytes_of rows;
  inputs = inputs_of (before_in rows) + inputs_of (after_in rows);
}
