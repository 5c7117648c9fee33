-- What the fields of `lint` of a listing mean.
use Rattle.std.specs.Prelude.{◌⊎◌, ℕ, Bool, List, Option, codes}
use Rattle.clap.specs.Words.{Row, Text}
use Rattle.acl_cli.specs.Commands.{Answer, Meaning}
use Rattle.acl_cli.specs.Fields.{flag_in}
use Rattle.acl_cli.specs.declared.failure.Failure.{Failure}
use Rattle.acl_people.specs.Host.{Host, IsHost}
use Rattle.acl_people.specs.HostFailures.{IsHostFailure}
use Rattle.acl_reports.specs.ListingMeaning.{FailsForListing, bytes_named, inputs_of}
use Rattle.acl_reports.specs.ListingMeaning.{listing_in}
use Rattle.acl_listing_lint.specs.Findings.{LintAsking}
use Rattle.acl_listing_lint.specs.Lints.{AnswersLints, BeginsLints}

-- a listing of this name that is looked at so
abbrev pub named_meaning : (Text → Option (List ℕ)) → Option (List ℕ) → LintAsking → Bool → Meaning
named_meaning bytes_of input asking asks = record {
  Answers = AnswersLints asking asks (bytes_named bytes_of input asking.name);
  Begins = BeginsLints asking asks (bytes_named bytes_of input asking.name);
  Fails = FailsForListing asking.name;
  inputs = inputs_of asking.name;
}

-- what is asked of the listing that the words name, of this host
abbrev pub asking_by : List Row → Host → LintAsking
asking_by rows host = record { name = listing_in rows; host = host }

-- the files give users and groups, and the answer follows from them
pub record LintsAnswers (Is : LintAsking → Bool → Option (List ℕ) → Answer → Type 0)
    (bytes_of : Text → Option (List ℕ)) (input : Option (List ℕ)) (rows : List Row)
    (answer : Answer) : Type 0 where
  pub host : Host
  pub host_is : IsHost bytes_of rows host
  pub is : Is (asking_by rows host) (flag_in (codes "exit-code") rows)
      (bytes_named bytes_of input (listing_in rows)) answer

-- the accounts can't be read, or the listing fails
abbrev pub FailsForLints : (Text → Option (List ℕ)) → List Row → Failure → Type 0
FailsForLints bytes_of rows failure =
    IsHostFailure bytes_of rows failure ⊎ FailsForListing (listing_in rows) failure

abbrev pub lints_meaning : (Text → Option (List ℕ)) → Option (List ℕ) → List Row → Meaning
lints_meaning bytes_of input rows = record {
  Answers = LintsAnswers AnswersLints bytes_of input rows;
  Begins = LintsAnswers BeginsLints bytes_of input rows;
  Fails = FailsForLints bytes_of rows;
  inputs = inputs_of (listing_in rows);
}
