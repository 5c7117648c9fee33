-- What the fields of a command mean that asks of two listings.
use Rattle.std.specs.Prelude.{◌≡◌, ◌⊎◌, ◌&&◌, ℕ, ◌+◌, Bool, List, [], Option, codes, false, true}
use Rattle.std.specs.Prelude.{unwrap_or}
use Rattle.clap.specs.Words.{Row, Text, first_of}
use Rattle.acl_cli.specs.Commands.{Meaning}
use Rattle.acl_cli.specs.Failures.{failed_write}
use Rattle.acl_cli.specs.declared.failure.Failure.{Failure}
use Rattle.acl_cli.specs.declared.failure.Failure.TheVariants.{CannotRead, Misuse}
use Rattle.acl_cli.specs.declared.misuse.Misuse.TheVariants.{InputTwice}
use Rattle.acl_reports.specs.Reporting.{IsListingFailure}
use Rattle.acl_reports.specs.ListingMeaning.{bytes_named, inputs_of, is_input}
use Rattle.acl_listing_changes.specs.Changes.{IsChangeAnswer, IsChangeBegun, OfListings, Wording}

-- the names of the listings, where `-` is standard input
abbrev pub before_in : List Row → Text
before_in rows = unwrap_or (first_of (codes "listing") rows) []

abbrev pub after_in : List Row → Text
after_in rows = unwrap_or (first_of (codes "after") rows) []

-- what has this name can't be opened
abbrev pub IsUnopened : Text → Failure → Type 0
IsUnopened name (CannotRead refused reason) = refused.now ≡ name
IsUnopened name _ = ⊥

abbrev pub is_input_twice : Text → Text → Bool
is_input_twice before after = is_input before && is_input after

-- both are standard input; or they aren't, and one can't be opened, or fails while it is read, or
-- something lacks
abbrev pub FailsForListings : Text → Text → Failure → Type 0
FailsForListings before after failure =
    ((failure ≡ Misuse InputTwice) × (is_input_twice before after ≡ true))
    ⊎ ((is_input_twice before after ≡ false)
    × ((IsUnopened before failure ⊎ IsUnopened after failure)
    ⊎ (IsListingFailure before failure ⊎ (IsListingFailure after failure
    ⊎ (failure ≡ failed_write)))))

-- listings of these names, of which it is reported in this way
abbrev pub change_meaning : Wording → (Text → Option (List ℕ)) → Option (List ℕ) → Text → Text
    → Meaning
change_meaning wording bytes_of input before after = record {
  Answers = OfListings (IsChangeAnswer wording) before (bytes_named bytes_of input before) after
      (bytes_named bytes_of input after);
  Begins = OfListings (IsChangeBegun wording) before (bytes_named bytes_of input before) after
      (bytes_named bytes_of input after);
  Fails = FailsForListings before after;
  inputs = inputs_of before + inputs_of after;
}
