-- What the fields of `impact --reach` mean, of two listings.
use Rattle.std.specs.Prelude.{◌≡◌, ◌⊎◌, ◌+◌, ℕ, List, Option, Some, None, Ok, codes}
use Rattle.clap.specs.Words.{Row, Text, first_of}
use Rattle.acl_access.specs.declared.rules.Rules.{Rules}
use Rattle.acl_cli.specs.Commands.{Answer, Meaning}
use Rattle.acl_cli.specs.Fields.{flag_in}
use Rattle.acl_cli.specs.declared.failure.Failure.{Failure}
use Rattle.acl_people.specs.Host.{Host, IsHost, names_of_host}
use Rattle.acl_people.specs.Elsewhere.{IsOtherHost, IsOtherHostFailure, asked_elsewhere}
use Rattle.acl_people.specs.People.{IsAskedFailure, asked_in}
use Rattle.acl_people.specs.Person.{Person}
use Rattle.acl_reports.specs.ListingMeaning.{inputs_of}
use Rattle.acl_reports.specs.RulesMeaning.{rules_in}
use Rattle.acl_reports.specs.Strangers.{stranger_in}
use Rattle.acl_listing_queries.specs.WhoPart.{letters_asked, who_part}
use Rattle.acl_listing_changes.specs.ChangeMeaning.{after_in, before_in}
use Rattle.acl_listing_changes.specs.ImpactMeaning.{FailsForImpact, concern_in}
use Rattle.acl_listing_reach.specs.ReachAnswer.{IsReachAnswer, IsReachBegun, Side}
use Rattle.acl_listing_reach.specs.ReachText.{ReachAsking}
use Rattle.acl_listing_reach.specs.Sources.{OfSources, Source, source_named}

abbrev pub reach_asked : List Person → List Row → ReachAsking
reach_asked persons rows = record {
  persons = persons;
  each = (concern_in persons rows).each;
  asks = flag_in (codes "exit-code") rows;
}

-- the listing of a name, as these people by these accounts are reported to reach what is in it,
-- where these rules evaluate lists, and with the ids that these accounts lack
abbrev pub reach_source : (Text → Option (List ℕ)) → Option (List ℕ) → Rules → Host → List Person
    → Text → Source
reach_source bytes_of input rules host persons name =
    source_named bytes_of input (names_of_host host)
    (who_part (letters_asked rules (names_of_host host) persons)) (stranger_in host) name

-- who is asked about after, and by which accounts: the same by those of the file that the words
-- name, and if they name none the same by the same
abbrev pub AreAskedAfter : (Text → Option (List ℕ)) → List Row → Host → List Person → Host
    → List Person → Type 0
AreAskedAfter bytes_of rows host persons other others = by (first_of (codes "accounts-after") rows)
  where
    by : Option Text → Type 0
    by None = (other ≡ host) × (others ≡ persons)
    by (Some name) = IsOtherHost bytes_of name rows other
        × (asked_elsewhere name other persons ≡ Ok others)

-- the files give users and groups before and after, the words the users to evaluate, and the answer
-- follows from all
pub record ReachAnswers (Is : ReachAsking → Side → Side → Answer → Type 0)
    (bytes_of : Text → Option (List ℕ)) (input : Option (List ℕ)) (rows : List Row)
    (answer : Answer) : Type 0 where
  pub host : Host
  pub host_is : IsHost bytes_of rows host
  pub persons : List Person
  pub persons_are : asked_in host rows ≡ Ok persons
  pub other : Host
  pub others : List Person
  pub after : AreAskedAfter bytes_of rows host persons other others
  pub is : OfSources (Is (reach_asked persons rows))
      (reach_source bytes_of input (rules_in rows) host persons (before_in rows))
      (reach_source bytes_of input (rules_in rows) other others (after_in rows)) answer

-- the file of the accounts after can't be read as accounts, or the users are refused
pub record AsksNobodyAfter (bytes_of : Text → Option (List ℕ)) (rows : List Row) (name : Text)
    (failure : Failure) : Type 0 where
  pub host : Host
  pub host_is : IsHost bytes_of rows host
  pub persons : List Person
  pub persons_are : asked_in host rows ≡ Ok persons
  pub other : Host
  pub other_is : IsOtherHost bytes_of name rows other
  pub refused : IsAskedFailure (asked_elsewhere name other persons) failure

abbrev pub FailsForAfter : (Text → Option (List ℕ)) → List Row → Failure → Type 0
FailsForAfter bytes_of rows failure = by (first_of (codes "accounts-after") rows)
  where
    by : Option Text → Type 0
    by None = ⊥
    by (Some name) = IsOtherHostFailure bytes_of name failure
        ⊎ AsksNobodyAfter bytes_of rows name failure

abbrev pub reach_meaning : (Text → Option (List ℕ)) → Option (List ℕ) → List Row → Meaning
reach_meaning bytes_of input rows = record {
  Answers = ReachAnswers IsReachAnswer bytes_of input rows;
  Begins = ReachAnswers IsReachBegun bytes_of input rows;
  Fails = λ failure. FailsForImpact bytes_of rows failure ⊎ FailsForAfter bytes_of rows failure;
  inputs = inputs_of (before_in rows) + inputs_of (after_in rows);
}
