-- What the fields of `why` mean.
use Rattle.std.specs.Prelude.{◌≡◌, ◌⊎◌, ℕ, Bool, true, false, List, [], ◌∷◌, ◌++◌, Option, Some}
use Rattle.std.specs.Prelude.{None, Result, Ok, Err, IfSome, IsOk, codes, if◌then◌else◌, is_some}
use Rattle.std.specs.Prelude.{map, unwrap_or}
use Rattle.clap.specs.Words.{Row, Text, first_of}
use Rattle.clap.specs.declared.error.kind.ErrorKind.{ErrorKind}
use Rattle.clap.specs.declared.error.kind.ErrorKind.TheVariants.{ArgumentConflict}
use Rattle.clap.specs.declared.error.kind.ErrorKind.TheVariants.{MissingRequiredArgument}
use Rattle.acl_cli.specs.Commands.{Answer, Meaning}
use Rattle.acl_cli.specs.Failures.{Explains}
use Rattle.acl_cli.specs.Fields.{flag_in, perms_in}
use Rattle.acl_cli.specs.declared.command.Ending.{Ending}
use Rattle.acl_cli.specs.declared.command.Ending.TheVariants.{Answered, InPart}
use Rattle.acl_cli.specs.declared.failure.Failure.{Failure}
use Rattle.acl_cli.specs.declared.failure.Failure.TheVariants.{Refused}
use Rattle.acl_cli.specs.Faults.{Malformed}
use Rattle.acl_cli.specs.Refusals.{for_text}
use Rattle.acl_cli.specs.Usage.{IsUsage}
use Rattle.acl_listings.specs.Cursor.{blocks_to_come}
use Rattle.acl_listings.specs.Listing.{Block}
use Rattle.acl_names.specs.Names.{Names}
use Rattle.acl_people.specs.Host.{Host, IsHost, names_of_host}
use Rattle.acl_people.specs.HostFailures.{IsHostFailure}
use Rattle.acl_reports.specs.Listed.{IsSaid, Part, reported_of}
use Rattle.acl_reports.specs.Paths.{has_path, is_among}
use Rattle.acl_people.specs.People.{person_in}
use Rattle.acl_people.specs.Person.{Person}
use Rattle.acl_reports.specs.Placed.{Placed}
use Rattle.acl_reports.specs.RulesMeaning.{rules_in}
use Rattle.acl_reports.specs.ListingMeaning.{FailsForListing, bytes_named, inputs_of}
use Rattle.acl_reports.specs.ListingMeaning.{listing_in}
use Rattle.acl_listing_queries.specs.PathWord.{as_listed}
use Rattle.acl_listing_queries.specs.Readings.{Reading, reading_of}
use Rattle.acl_listing_queries.specs.WhyText.{Deletion, Permissions, Sought, WhyAsking, why_part}

-- PATH, as the listing has it
abbrev pub path_in : List Row → Text
path_in rows = as_listed (unwrap_or (first_of (codes "path") rows) [])

-- what is asked of it
abbrev pub sought_for : Result ℕ Malformed → Result Sought Malformed
sought_for (Ok perms) = Ok (Permissions perms)
sought_for (Err malformed) = Err malformed

abbrev pub sought_in : List Row → Result Sought Malformed
sought_in rows = if flag_in (codes "delete") rows then Ok Deletion else sought_for (perms_in rows)

-- what is wrong with words that ask for both, `--delete` and `--perms`, or for neither
abbrev pub misfit_of : Bool → Bool → Option ErrorKind
misfit_of true true = Some ArgumentConflict
misfit_of false false = Some MissingRequiredArgument
misfit_of _ _ = None

abbrev pub misfit_in : List Row → Option ErrorKind
misfit_in rows =
    misfit_of (flag_in (codes "delete") rows) (is_some (first_of (codes "perms") rows))

-- the one whom `--user` names
abbrev pub user_in : Host → List Row → Result Person Malformed
user_in host rows = person_in host (unwrap_or (first_of (codes "user") rows) [])

-- the first block of a path, and those before it
pub record IsFirstOf (path : List ℕ) (blocks : List Block) (placed : Placed Block) : Type 0 where
  pub later : List Block
  pub are : blocks ≡ placed.earlier ++ placed.here ∷ later
  pub none_before : is_among path placed.earlier ≡ false
  pub has : has_path path placed.here ≡ true

abbrev pub readings : Names → List Block → List Reading
readings names blocks = map (λ block. reading_of names block.text) blocks

-- what it results in, behind them
abbrev pub placed_part : WhyAsking → Placed Block → Part
placed_part asking placed = why_part asking (readings asking.names placed.earlier) placed.here.text

-- what isn't known is said on standard error
abbrev pub part_ending : Part → Ending
part_ending (Ok text) = Answered
part_ending (Err fault) = InPart

pub record IsWhyAnswer (asking : WhyAsking) (name : Text) (placed : Placed Block) (answer : Answer)
    : Type 0 where
  pub text : answer.text ≡ reported_of (placed_part asking placed)
  pub said : IsSaid name asking.names placed.here (placed_part asking placed) answer.beside
  pub ending : answer.ending ≡ part_ending (placed_part asking placed)

-- the answer about the first block of the path, of a listing of this name that has these blocks, if
-- they are known
abbrev pub AnswersPath : WhyAsking → Text → Text → Option (List Block) → Answer → Type 0
AnswersPath asking name path coming answer = IfSome coming (λ blocks. (placed : Placed Block)
    × IsFirstOf path blocks placed × IsWhyAnswer asking name placed answer)

-- no block has the path; or the listing fails
abbrev pub FailsForPath : Text → Text → Option (List Block) → Failure → Type 0
FailsForPath name path coming (Refused refusal) =
    (refusal ≡ for_text name (codes "no such file") path)
    × IfSome coming (λ blocks. is_among path blocks ≡ false)
FailsForPath name path coming failure = FailsForListing name failure

-- the blocks of the listing that the words name, if they are known
abbrev pub blocks_named : (Text → Option (List ℕ)) → Option (List ℕ) → Text → Option (List Block)
blocks_named bytes_of input name = blocks_to_come 1 (bytes_named bytes_of input name)

-- what is asked about a path of a listing of this name; all of it is made first and then written at
-- once
abbrev pub path_meaning : WhyAsking → (Text → Option (List ℕ)) → Option (List ℕ) → Text → Text
    → Meaning
path_meaning asking bytes_of input name path = record {
  Answers = AnswersPath asking name path (blocks_named bytes_of input name);
  Begins = AnswersPath asking name path (blocks_named bytes_of input name);
  Fails = FailsForPath name path (blocks_named bytes_of input name);
  inputs = inputs_of name;
}

-- the files give users and groups, the words the user and the request, and the answer follows from
-- both
pub record WhyAnswers (bytes_of : Text → Option (List ℕ)) (input : Option (List ℕ))
    (rows : List Row) (answer : Answer) : Type 0 where
  pub host : Host
  pub host_is : IsHost bytes_of rows host
  pub person : Person
  pub person_is : user_in host rows ≡ Ok person
  pub fits : misfit_in rows ≡ None
  pub sought : Sought
  pub sought_is : sought_in rows ≡ Ok sought
  pub is : AnswersPath
      (record {
        names = names_of_host host;
        rules = rules_in rows;
        who = person.who;
        sought = sought;
      }) (listing_in rows) (path_in rows) (blocks_named bytes_of input (listing_in rows)) answer

-- the words ask for both or for neither, or the permissions are malformed
abbrev pub FailsToSeek : List Row → Failure → Type 0
FailsToSeek rows failure = by (misfit_in rows)
  where
    by : Option ErrorKind → Type 0
    by (Some kind) = IsUsage kind failure
    by None = Explains (sought_in rows) failure

-- the words fail; or they don't, and the accounts can't be read, the user is refused, no block has
-- the path, or the listing fails
abbrev pub FailsForWhy : (Text → Option (List ℕ)) → Option (List ℕ) → List Row → Failure → Type 0
FailsForWhy bytes_of input rows failure = FailsToSeek rows failure
    ⊎ ((misfit_in rows ≡ None) × IsOk (sought_in rows) × (IsHostFailure bytes_of rows failure
    ⊎ (((host : Host) × IsHost bytes_of rows host × Explains (user_in host rows) failure)
    ⊎ FailsForPath (listing_in rows) (path_in rows)
    (blocks_named bytes_of input (listing_in rows)) failure)))

abbrev pub why_meaning : (Text → Option (List ℕ)) → Option (List ℕ) → List Row → Meaning
why_meaning bytes_of input rows = record {
  Answers = WhyAnswers bytes_of input rows;
  Begins = WhyAnswers bytes_of input rows;
  Fails = FailsForWhy bytes_of input rows;
  inputs = inputs_of (listing_in rows);
}
