-- How a listing is answered block by block. Private steps, which no public clause cites.
use Rattle.std.specs.Prelude.{◌≡◌, ⊤, ℕ, List, [], ◌++◌, Option, Some, None, Ok, Err}
use Rattle.std.specs.List.{list_any}
use Rattle.acl_names.specs.Names.{Names}
use Rattle.acl_listings.specs.Listing.{Block}
use Rattle.acl_listings.specs.declared.fault.BlockFault.{BlockFault}
use Rattle.acl_reports.specs.Listed.{AreSaid, Item, Part, items_after, no_blocks, strangers_with}
use Rattle.acl_reports.specs.Listed.{tally_with}
use Rattle.acl_reports.specs.Strangers.{no_strangers}
use Rattle.acl_reports.specs.declared.counts.Counts.{Counts}
use Rattle.acl_reports.specs.declared.stranger.Stranger.{Stranger}
use Rattle.acl_listing_changes.specs.RestoreLaws.{text_has}
use Rattle.acl_listing_reach.specs.Once.{At, has_path, part_once, paths_of}

-- this is wrong with a block, or these are the letters
abbrev pub IsPartBy : Part → Option BlockFault → List ℕ → Type 0
IsPartBy part None letters = part ≡ Ok letters
IsPartBy part (Some fault) letters = part ≡ Err fault

-- the letters, if nothing is wrong
abbrev pub letters_unless : Option BlockFault → List ℕ → Option (List ℕ)
letters_unless None letters = Some letters
letters_unless (Some fault) letters = None

-- of a listing with this name and these names in it, of whose blocks these are the items, and whose
-- texts name these ids without an account first, so much is known, said and counted
pub record AreAnswered (name : List ℕ) (names : Names) (stranger : List ℕ → Option Stranger)
    (items : List Item) (known : List At) (said : List ℕ) (counts : Counts) : Type 0 where
  pub known_is : known ≡ paths_of items
  pub said_are : AreSaid name names items said
  pub tally_is : counts.tally ≡ tally_with no_blocks items
  pub strangers_are : counts.strangers ≡ strangers_with stranger no_strangers items

-- the paths that are known are those of the texts
abbrev pub AreListed : List (List ℕ) → List At → Type 0
AreListed earlier known =
    (path : List ℕ) → has_path path known ≡ list_any (text_has path) earlier

-- the items of all blocks that were to come, if these are known, are those and what the blocks
-- result in that are still left, behind these texts
abbrev pub AreItemsTo : (List (List ℕ) → List ℕ → Part) → Option (List Block) → List Item
    → List (List ℕ) → Option (List Block) → Type 0
AreItemsTo part None items earlier left = ⊤
AreItemsTo part (Some blocks) items earlier None = ⊥
AreItemsTo part (Some blocks) items earlier (Some left) =
    items_after (part_once part) [] blocks ≡ items ++ items_after (part_once part) earlier left

-- a listing was answered so far, by what stands behind some texts
pub record IsAnsweredTo (Stands : List (List ℕ) → Type 0) (part : List (List ℕ) → List ℕ → Part)
    (stranger : List ℕ → Option Stranger) (name : List ℕ) (names : Names)
    (coming left : Option (List Block)) (known : List At) (said : List ℕ) (counts : Counts) : Type 0
  where
    pub earlier : List (List ℕ)
    pub stands : Stands earlier
    pub items : List Item
    pub items_are : AreItemsTo part coming items earlier left
    pub answered : AreAnswered name names stranger items known said counts
    pub listed : AreListed earlier known
