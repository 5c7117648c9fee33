-- What the fields of `who` mean, of a listing.
use Rattle.std.specs.Prelude.{◌≡◌, ◌⊎◌, ℕ, Bool, List, Option, Result, Ok, Err, IsOk}
use Rattle.std.specs.Prelude.{codes, is_some, ◌||◌, if◌then◌else◌}
use Rattle.clap.specs.Words.{Row, Text, first_of}
use Rattle.acl_names.specs.Names.{Names}
use Rattle.acl_cli.specs.Commands.{Answer, Meaning}
use Rattle.acl_cli.specs.Fields.{flag_in, optional_perms_in}
use Rattle.acl_cli.specs.declared.failure.Failure.{Failure}
use Rattle.acl_cli.specs.declared.failure.Failure.TheVariants.{Malformed, Misuse}
use Rattle.acl_cli.specs.Faults.{Malformed as MalformedField}
use Rattle.acl_cli.specs.declared.misuse.Misuse.TheVariants.{DeleteAndOthers, LettersAndPerms}
use Rattle.acl_people.specs.Host.{Host, IsHost, names_of_host}
use Rattle.acl_people.specs.HostFailures.{IsHostFailure}
use Rattle.acl_reports.specs.Listed.{AnswersNaming, BeginsNaming, Part}
use Rattle.acl_reports.specs.ListingMeaning.{FailsForListing, bytes_named, inputs_of}
use Rattle.acl_reports.specs.ListingMeaning.{listing_in}
use Rattle.acl_reports.specs.RulesMeaning.{rules_in}
use Rattle.acl_reports.specs.Strangers.{stranger_in}
use Rattle.acl_reports.specs.declared.stranger.Stranger.{Stranger}
use Rattle.acl_people.specs.People.{IsAskedFailure, asked_in}
use Rattle.acl_people.specs.Person.{Person}
use Rattle.acl_listing_queries.specs.WhoPart.{Asking, Deletion, Question, Via, What, who_part}
use Rattle.acl_listing_queries.specs.WhoText.{AllLetters, Asked, asked_by}

-- what is asked for by permissions, if the words have them, else by letters
abbrev pub asked_for : Result (Option ℕ) MalformedField → Result Asked Failure
asked_for (Ok perms) = Ok (asked_by perms)
asked_for (Err malformed) = Err (Malformed malformed)

-- what users may do; all letters and permissions exclude each other
abbrev pub what_in : List Row → Result Asked Failure
what_in rows =
    if flag_in (codes "letters") rows
    then (if is_some (first_of (codes "perms") rows) then Err (Misuse LettersAndPerms)
    else Ok AllLetters)
    else asked_for (optional_perms_in rows)

-- these exclude the question who may delete, and so does by which entries
abbrev pub asks_what : List Row → Bool
asks_what rows = flag_in (codes "letters") rows || is_some (first_of (codes "perms") rows)
    || flag_in (codes "via") rows

-- what users may do, or also by which entries
abbrev pub what_or_via : Bool → Result Asked Failure → Result Question Failure
what_or_via via (Ok asked) = Ok (if via then Via asked else What asked)
what_or_via via (Err failure) = Err failure

-- what the words ask
abbrev pub question_in : List Row → Result Question Failure
question_in rows =
    if flag_in (codes "delete") rows
    then (if asks_what rows then Err (Misuse DeleteAndOthers) else Ok Deletion)
    else what_or_via (flag_in (codes "via") rows) (what_in rows)

-- whether only those count who may search each folder above a file: whoever deletes has to
abbrev pub reach_in : List Row → Bool
reach_in rows = flag_in (codes "reach") rows || flag_in (codes "delete") rows

-- the files say who there is, and the words whom and what they ask about
pub record WhoAsked (bytes_of : Text → Option (List ℕ)) (rows : List Row) : Type 0 where
  pub host : Host
  pub host_is : IsHost bytes_of rows host
  pub persons : List Person
  pub persons_are : asked_in host rows ≡ Ok persons
  pub question : Question
  pub question_is : question_in rows ≡ Ok question

abbrev pub asking_in : {bytes_of : Text → Option (List ℕ)} → (rows : List Row)
    → WhoAsked bytes_of rows → Asking
asking_in rows asked = record {
  names = names_of_host asked.host;
  rules = rules_in rows;
  persons = asked.persons;
  question = asked.question;
  reach = reach_in rows;
}

-- the answer is what follows from that, with which ids the listing names that no account has
abbrev pub WhoAnswers : (Text → Names → (List (List ℕ) → List ℕ → Part)
    → (List ℕ → Option Stranger) → Option (List ℕ) → Answer → Type 0)
    → (Text → Option (List ℕ)) → Option (List ℕ) → List Row → Answer → Type 0
WhoAnswers Is bytes_of input rows answer = (asked : WhoAsked bytes_of rows)
    × Is (listing_in rows) (names_of_host asked.host) (who_part (asking_in rows asked))
    (stranger_in asked.host) (bytes_named bytes_of input (listing_in rows)) answer

-- the files don't say who there is, nobody is asked about, or the listing fails
abbrev pub FailsForFiles : (Text → Option (List ℕ)) → List Row → Failure → Type 0
FailsForFiles bytes_of rows failure = IsHostFailure bytes_of rows failure
    ⊎ (((host : Host) × IsHost bytes_of rows host × IsAskedFailure (asked_in host rows) failure)
    ⊎ FailsForListing (listing_in rows) failure)

-- the words don't say what is asked for; or they do, and it is the files that fail
abbrev pub FailsForWho : (Text → Option (List ℕ)) → List Row → Failure → Type 0
FailsForWho bytes_of rows failure = (question_in rows ≡ Err failure)
    ⊎ (IsOk (question_in rows) × FailsForFiles bytes_of rows failure)

abbrev pub who_meaning : (Text → Option (List ℕ)) → Option (List ℕ) → List Row → Meaning
who_meaning bytes_of input rows = record {
  Answers = WhoAnswers AnswersNaming bytes_of input rows;
  Begins = WhoAnswers BeginsNaming bytes_of input rows;
  Fails = FailsForWho bytes_of rows;
  inputs = inputs_of (listing_in rows);
}
