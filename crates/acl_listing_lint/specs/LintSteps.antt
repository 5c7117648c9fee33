-- Private steps of `lint`, which no public clause cites.
use Rattle.std.specs.Prelude.{◌≡◌, ◌++◌, ℕ, Bool, true, false, List, [], Option, Some, None, IfSome}
use Rattle.acl_cli.specs.declared.command.Ending.{Ending}
use Rattle.acl_bridge.specs.Files.{File}
use Rattle.acl_bridge.specs.Lists.{Finds}
use Rattle.acl_nfs4.specs.declared.comparison.Difference.{Difference}
use Rattle.acl_listings.specs.Listing.{Block}
use Rattle.acl_listings.specs.declared.fault.BlockFault.{BlockFault}
use Rattle.acl_listings.specs.declared.fault.FileFault.{FileFault}
use Rattle.acl_listings.specs.declared.fault.FileFault.TheVariants.{Block as OfBlock, Memory}
use Rattle.acl_people.specs.Host.{names_of_host}
use Rattle.acl_reports.specs.Listed.{AreSaid, IsFaultLine, Item, Part, closing, ending_of, reported}
use Rattle.acl_reports.specs.Listed.{tally_with}
use Rattle.acl_reports.specs.Reporting.{IsItemDone, IsItemReported}
use Rattle.acl_reports.specs.Strangers.{no_strangers}
use Rattle.acl_reports.specs.declared.tally.Tally.{Tally}
use Rattle.acl_listing_lint.specs.Findings.{AceList, IsPartOf, LintAsking, PosixList, PosixLists}
use Rattle.acl_listing_lint.specs.Findings.{seen_behind}
use Rattle.acl_listing_lint.specs.Found as found
use Rattle.acl_listing_lint.specs.Lints.{AreBegun, AreItems}
use Rattle.acl_listing_lint.specs.Seen.{Seen}
use Rattle.acl_listing_lint.specs.declared.aces.ListedAces.{ListedAces}
use Rattle.acl_listing_lint.specs.declared.entries.Listed.{Listed}
use Rattle.acl_listing_lint.specs.declared.entries.ListedLists.{ListedLists}
use Rattle.acl_listing_lint.specs.declared.found.Spot.{Spot}
use Rattle.acl_listing_lint.specs.declared.report.Linting.{Linting}

abbrev pub view_spot : Spot → found.Spot
view_spot spot = record {
  name = spot.name.now;
  line = spot.line;
  before = spot.before.now;
  piece = spot.piece.now;
}

abbrev pub view_list : Listed → PosixList
view_list listed = record {
  entries = listed.acl.now;
  owners = listed.owners;
  host = listed.host.now;
  created = listed.created.now;
  is_default = listed.is_default;
}

abbrev pub view_lists : ListedLists → PosixLists
view_lists lists = record {
  owners = lists.owners;
  access = lists.access.now;
  default = lists.default.now;
  created = lists.created.now;
}

abbrev pub view_aces : ListedAces → AceList
view_aces listed = record {
  owners = listed.owners;
  aces = listed.acl.now;
  host = listed.host.now;
}

-- what a comparison found of two files: the line is reported if that is nothing
abbrev pub line_unless : Option Difference → List ℕ → List ℕ
line_unless None line = line
line_unless (Some difference) line = []

abbrev pub IsSaidUnlessFound : File → File → List ℕ → List ℕ → Type 0
IsSaidUnlessFound before after line text = (difference : Option Difference)
    × Finds before after difference × (text ≡ line_unless difference line)

-- what was appended is this
pub record Adds (Is : List ℕ → Type 0) (out out' : List ℕ) : Type 0 where
  pub text : List ℕ
  pub is : Is text
  pub out_is : out' ≡ out ++ text

-- the block was reported, this is seen behind it, and this is wrong with it
pub record IsBlockReported (asking : LintAsking) (seen seen' : Seen)
    (block : Block) (fault : Option BlockFault) (out out' beside beside' : List ℕ) : Type 0 where
  pub part : Part
  pub part_is : IsPartOf asking seen block part
  pub seen_is : seen' ≡ seen_behind asking seen block
  pub is_reported : IsItemReported asking.name (names_of_host asking.host)
      (record { block = block; part = part }) fault out out' beside beside'

-- a block that says no file is refused for this, and that was said of it
abbrev pub IsRefusalSaid : LintAsking → Block → FileFault → Option BlockFault → List ℕ → List ℕ
    → Type 0
IsRefusalSaid asking block (OfBlock refused) fault beside beside' = (fault ≡ Some refused)
    × ((said : List ℕ) × IsFaultLine asking.name (names_of_host asking.host) block refused said
    × (beside' ≡ beside ++ said))
IsRefusalSaid asking block Memory fault beside beside' = ⊥

-- and counted
pub record IsBlockDone (asking : LintAsking) (seen seen' : Seen) (block : Block)
    (tally tally' : Tally) (out out' beside beside' : List ℕ) : Type 0 where
  pub part : Part
  pub part_is : IsPartOf asking seen block part
  pub seen_is : seen' ≡ seen_behind asking seen block
  pub done : IsItemDone asking.name (names_of_host asking.host)
      (record { block = block; part = part }) None tally tally' no_strangers no_strangers
      out out' beside beside'

-- what there is to report of a listing
pub record Left : Type 0 where
  pub asking : LintAsking
  pub seen : Seen
  pub tally : Tally
  -- whether the end was reported
  pub closed : Bool
  -- the blocks that are still to come, if that is known
  pub coming : Option (List Block)

-- of this one
abbrev pub left_of : {R : Type 0} → Linting R → Left
left_of linting = record {
  asking = record { name = linting.name.now; host = linting.host.now };
  seen = linting.seen;
  tally = linting.tally;
  closed = linting.closed;
  coming = linting.blocks.coming;
}

-- these texts are all that is reported and said of the blocks, and at the end
pub record AreReported (asking : LintAsking) (seen : Seen) (tally : Tally)
    (blocks : List Block) (text more : List ℕ) : Type 0 where
  pub items : List Item
  pub items_are : AreItems asking seen blocks items
  pub text_is : text ≡ reported items
  pub said : List ℕ
  pub said_are : AreSaid asking.name (names_of_host asking.host) items said
  pub more_is : more ≡ said ++ closing asking.name (tally_with tally items)

abbrev pub IsReportedBy : Bool → Left → List ℕ → List ℕ → Type 0
IsReportedBy true left text more = (text ≡ []) × (more ≡ [])
IsReportedBy false left text more = IfSome left.coming (λ blocks.
    AreReported left.asking left.seen left.tally blocks text more)

abbrev pub IsReported : Left → List ℕ → List ℕ → Type 0
IsReported left = IsReportedBy left.closed left

abbrev pub IsBegunBy : Bool → Left → List ℕ → List ℕ → Type 0
IsBegunBy true left text more = (text ≡ []) × (more ≡ [])
IsBegunBy false left text more = IfSome left.coming (λ blocks.
    AreBegun left.asking left.seen left.tally blocks text more)

abbrev pub IsBegun : Left → List ℕ → List ℕ → Type 0
IsBegun left = IsBegunBy left.closed left

-- it ends so, whatever the blocks result in
abbrev pub EndsBy : Bool → Left → Ending → Type 0
EndsBy true left ending = ending ≡ ending_of left.tally
EndsBy false left ending = IfSome left.coming (λ blocks. (items : List Item)
    → AreItems left.asking left.seen blocks items
    → ending ≡ ending_of (tally_with left.tally items))

abbrev pub EndsSo : Left → Ending → Type 0
EndsSo left = EndsBy left.closed left
