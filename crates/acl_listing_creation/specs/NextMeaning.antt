-- What the fields of `next` mean.
use Rattle.std.specs.Prelude.{◌≡◌, ◌⊎◌, ℕ, List, Option, Ok, IsOk, codes}
use Rattle.clap.specs.Words.{Row, Text}
use Rattle.acl_names.specs.Names.{Names}
use Rattle.acl_cli.specs.Commands.{Answer, Meaning}
use Rattle.acl_cli.specs.Failures.{Explains}
use Rattle.acl_cli.specs.Fields.{flag_in}
use Rattle.acl_cli.specs.declared.failure.Failure.{Failure}
use Rattle.acl_people.specs.Host.{Host, IsHost, names_of_host}
use Rattle.acl_people.specs.HostFailures.{IsHostFailure}
use Rattle.acl_reports.specs.Listed.{AnswersListing, BeginsListing, Part}
use Rattle.acl_reports.specs.ListingMeaning.{FailsForListing, bytes_named, inputs_of}
use Rattle.acl_reports.specs.ListingMeaning.{listing_in}
use Rattle.acl_listing_creation.specs.Next.{NextAsking, next_part}
use Rattle.acl_listing_creation.specs.NextFields.{ExplainsRefusal, kind_in, maker_in}
use Rattle.acl_listing_creation.specs.NextFields.{modes_in}
use Rattle.acl_listing_creation.specs.declared.maker.Maker.{Maker}
use Rattle.acl_listing_creation.specs.declared.modes.Modes.{Modes}

-- what `next` evaluates for these words, of this host and this maker, with these modes
abbrev pub asking_by : List Row → Host → Maker → Modes → NextAsking
asking_by rows host maker modes = record {
  names = names_of_host host;
  creation = record {
    owner = maker.owner;
    group = maker.group;
    kind = kind_in rows;
    mode = modes.mode;
    umask = modes.umask;
  };
  folders_alone = flag_in (codes "dirs-only") rows;
}

-- the files give users and groups, the words what a user creates, and the answer follows from both
pub record NextAnswers (Is : Text → Names → (List (List ℕ) → List ℕ → Part)
    → Option (List ℕ) → Answer → Type 0) (bytes_of : Text → Option (List ℕ))
    (input : Option (List ℕ)) (rows : List Row) (answer : Answer) : Type 0 where
  pub host : Host
  pub host_is : IsHost bytes_of rows host
  pub maker : Maker
  pub maker_is : maker_in host rows ≡ Ok maker
  pub modes : Modes
  pub modes_are : modes_in rows ≡ Ok modes
  pub is : Is (listing_in rows) (names_of_host host)
      (next_part (asking_by rows host maker modes)) (bytes_named bytes_of input (listing_in rows))
      answer

-- a mode is malformed; or none is, and the accounts can't be read, the user is refused, or the
-- listing fails
abbrev pub FailsForNext : (Text → Option (List ℕ)) → List Row → Failure → Type 0
FailsForNext bytes_of rows failure = ExplainsRefusal (modes_in rows) failure
    ⊎ (IsOk (modes_in rows) × (IsHostFailure bytes_of rows failure
    ⊎ (((host : Host) × IsHost bytes_of rows host × Explains (maker_in host rows) failure)
    ⊎ FailsForListing (listing_in rows) failure)))

abbrev pub next_meaning : (Text → Option (List ℕ)) → Option (List ℕ) → List Row → Meaning
next_meaning bytes_of input rows = record {
  Answers = NextAnswers AnswersListing bytes_of input rows;
  Begins = NextAnswers BeginsListing bytes_of input rows;
  Fails = FailsForNext bytes_of rows;
  inputs = inputs_of (listing_in rows);
}
