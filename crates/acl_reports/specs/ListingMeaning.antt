-- What it means that a listing has a name, of which standard input's is `-`.
use Rattle.std.specs.Prelude.{◌≡◌, ◌⊎◌, ℕ, Bool, List, [], Option, bytes_eq, codes, unwrap_or}
use Rattle.std.specs.Prelude.{if◌then◌else◌}
use Rattle.clap.specs.Words.{Row, Text, first_of}
use Rattle.acl_names.specs.Names.{Names}
use Rattle.acl_cli.specs.Commands.{Meaning}
use Rattle.acl_cli.specs.Failures.{failed_write}
use Rattle.acl_cli.specs.declared.failure.Failure.{Failure}
use Rattle.acl_cli.specs.declared.failure.Failure.TheVariants.{CannotRead}
use Rattle.acl_reports.specs.Listed.{AnswersNaming, BeginsNaming, Part}
use Rattle.acl_reports.specs.Reporting.{IsListingFailure}
use Rattle.acl_reports.specs.Strangers.{none_sought}
use Rattle.acl_reports.specs.declared.stranger.Stranger.{Stranger}

-- the name of the listing, where `-` is standard input
abbrev pub listing_in : List Row → Text
listing_in rows = unwrap_or (first_of (codes "listing") rows) []

abbrev pub is_input : Text → Bool
is_input name = bytes_eq name (codes "-")

-- its bytes, if they are known
abbrev pub bytes_named : (Text → Option (List ℕ)) → Option (List ℕ) → Text → Option (List ℕ)
bytes_named bytes_of input name = if is_input name then input else bytes_of name

abbrev pub inputs_of : Text → ℕ
inputs_of name = if is_input name then 1 else 0

-- what the listing of this name fails for: it can't be opened, fails while it is read, or something
-- lacks
abbrev pub FailsForListing : Text → Failure → Type 0
FailsForListing name (CannotRead refused reason) = refused.now ≡ name
FailsForListing name failure = IsListingFailure name failure ⊎ (failure ≡ failed_write)

-- a listing of this name that is reported by these names, part by part, and at the end which ids
-- without an account it names, of a block this first
abbrev pub naming_meaning : (Text → Option (List ℕ)) → Option (List ℕ) → Text → Names
    → (List (List ℕ) → List ℕ → Part) → (List ℕ → Option Stranger) → Meaning
naming_meaning bytes_of input name names part stranger = record {
  Answers = AnswersNaming name names part stranger (bytes_named bytes_of input name);
  Begins = BeginsNaming name names part stranger (bytes_named bytes_of input name);
  Fails = FailsForListing name;
  inputs = inputs_of name;
}

-- where these aren't looked for
abbrev pub listing_meaning : (Text → Option (List ℕ)) → Option (List ℕ) → Text → Names
    → (List (List ℕ) → List ℕ → Part) → Meaning
listing_meaning bytes_of input name names part =
    naming_meaning bytes_of input name names part none_sought
