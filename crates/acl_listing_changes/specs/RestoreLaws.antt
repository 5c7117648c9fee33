-- What `restore` brings back.
use Rattle.std.specs.Prelude.{◌≡◌, ℕ, Bool, false, not, ◌&&◌, List, [], Option, Some, None}
use Rattle.std.specs.Prelude.{bytes_eq, is_none, map, unwrap_or, if◌then◌else◌}
use Rattle.std.specs.List.{find}
use Rattle.std.specs.Option.{option_map_or}
use Rattle.acl_listings.specs.Block.{path_of}
use Rattle.acl_listings.specs.Listing.{Block}
use Rattle.acl_listings.specs.declared.fault.BlockFault.{BlockFault}
use Rattle.acl_reports.specs.Paths.{block_for, has_path}
use Rattle.acl_reports.specs.Placed.{Placed, in_places}
use Rattle.acl_listing_changes.specs.Changes.{ReportsNext, fault_after}
use Rattle.acl_listing_changes.specs.Restoring.{block_text, restore_fault, restoring}

-- the text of a block before, if it isn't too long and is another than this one
abbrev pub other_text : List ℕ → Option Block → Option (List ℕ)
other_text text None = None
other_text text (Some old) = if is_none (restore_fault old.text) && not (bytes_eq old.text text)
    then Some old.text else None

-- of a block after, with which this is wrong, if anything is
abbrev pub other_unless : Option BlockFault → List ℕ → Option Block → Option (List ℕ)
other_unless (Some fault) text was = None
other_unless None text was = other_text text was

-- the block before that is printed for a block after, in its place
abbrev pub printed_for : List Block → Placed Block → Option (List ℕ)
printed_for before placed = other_unless (fault_after restoring before placed) placed.here.text
    (block_for before placed.here.text)

abbrev pub printed_text : Option (List ℕ) → List ℕ
printed_text None = []
printed_text (Some text) = block_text text

-- what is reported for a block after is the block that is printed for it
abbrev pub PrintsBlocks : Type 0
PrintsBlocks = (name : List ℕ) (before : List Block) (placed : Placed Block)
    (reported said : List ℕ)
    → ReportsNext restoring name before placed reported said
    → reported ≡ printed_text (printed_for before placed)

-- the texts of the blocks after, with each block that is printed in the place of the one after
abbrev pub text_restored : List Block → Placed Block → List ℕ
text_restored before placed = unwrap_or (printed_for before placed) placed.here.text

abbrev pub texts_restored : List Block → List Block → List (List ℕ)
texts_restored before after = map (text_restored before) (in_places after)

-- a text has the path in its first line
abbrev pub text_has : List ℕ → List ℕ → Bool
text_has path text = option_map_or (bytes_eq path) (path_of text) false

-- So for every path of both listings the listing after has the block of the one before.
abbrev pub BringsBack : Type 0
BringsBack = (before after : List Block) (path : List ℕ) (old new : Block)
    → find (has_path path) before ≡ Some old → restore_fault old.text ≡ None
    → find (has_path path) after ≡ Some new → restore_fault new.text ≡ None
    → find (text_has path) (texts_restored before after) ≡ Some old.text
