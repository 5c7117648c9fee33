-- Two listings by their names, their bytes, and what their blocks result in.
use Rattle.std.specs.Prelude.{ℕ, ◌+◌, List, [], Option, IfSome}
use Rattle.clap.specs.Words.{Text}
use Rattle.acl_names.specs.Names.{Names}
use Rattle.acl_cli.specs.Commands.{Answer, Meaning}
use Rattle.acl_listings.specs.Cursor.{blocks_to_come}
use Rattle.acl_listings.specs.Listing.{Block}
use Rattle.acl_reports.specs.Listed.{Part, items_after}
use Rattle.acl_reports.specs.ListingMeaning.{bytes_named, inputs_of}
use Rattle.acl_reports.specs.declared.stranger.Stranger.{Stranger}
use Rattle.acl_listing_changes.specs.ChangeMeaning.{FailsForListings}
use Rattle.acl_listing_reach.specs.Once.{part_once}
use Rattle.acl_listing_reach.specs.ReachAnswer.{IsReachAnswer, IsReachBegun, Side}
use Rattle.acl_listing_reach.specs.ReachText.{ReachAsking}

-- a listing of this name, with these bytes, if they are known, of which a block results in this and
-- names this id without an account first
pub record Source : Type 0 where
  pub name : List ℕ
  pub bytes : Option (List ℕ)
  pub names : Names
  pub part : List (List ℕ) → List ℕ → Part
  pub stranger : List ℕ → Option Stranger

-- with these blocks
abbrev pub side_of : Source → List Block → Side
side_of source blocks = record {
  name = source.name;
  names = source.names;
  stranger = source.stranger;
  items = items_after (part_once source.part) [] blocks;
}

-- of both, if their bytes are known: of a block that is too long its first bytes
abbrev pub OfSources : (Side → Side → Answer → Type 0) → Source → Source → Answer → Type 0
OfSources Is before after answer = IfSome (blocks_to_come 1 before.bytes) (λ blocks.
    IfSome (blocks_to_come 1 after.bytes) (λ others.
    Is (side_of before blocks) (side_of after others) answer))

-- the listing of this name, by these files and this input
abbrev pub source_named : (Text → Option (List ℕ)) → Option (List ℕ) → Names
    → (List (List ℕ) → List ℕ → Part) → (List ℕ → Option Stranger) → Text → Source
source_named bytes_of input names part stranger name = record {
  name = name;
  bytes = bytes_named bytes_of input name;
  names = names;
  part = part;
  stranger = stranger;
}

-- these listings
abbrev pub sources_meaning : ReachAsking → Source → Source → Meaning
sources_meaning asking before after = record {
  Answers = OfSources (IsReachAnswer asking) before after;
  Begins = OfSources (IsReachBegun asking) before after;
  Fails = FailsForListings before.name after.name;
  inputs = inputs_of before.name + inputs_of after.name;
}
