-- What is reported for two listings, the one before and the one after.
use Rattle.std.specs.Prelude.{◌≡◌, ℕ, Bool, true, false, not, ◌&&◌, List, [], ◌∷◌, ◌++◌, Option}
use Rattle.std.specs.Prelude.{Some, None, IfSome, Ok, Err, is_none, map, take}
use Rattle.std.specs.List.{list_any}
use Rattle.acl_names.specs.Names.{Names}
use Rattle.acl_cli.specs.Commands.{Answer}
use Rattle.acl_cli.specs.Reporting.{is_empty}
use Rattle.acl_cli.specs.declared.command.Ending.{Ending}
use Rattle.acl_listings.specs.Cursor.{blocks_to_come}
use Rattle.acl_listings.specs.Listing.{Block}
use Rattle.acl_listings.specs.declared.fault.BlockFault.{BlockFault}
use Rattle.acl_listings.specs.declared.fault.BlockFault.TheVariants.{TooLong, BadHeader}
use Rattle.acl_listings.specs.declared.fault.BlockFault.TheVariants.{RepeatedPath}
use Rattle.acl_reports.specs.Endings.{ending_of_both, with_difference}
use Rattle.acl_reports.specs.Listed.{AreSaid, IsFaultLine, Item, Part, ending_of, last_lines}
use Rattle.acl_reports.specs.Listed.{no_blocks, strangers_with, tally_with}
use Rattle.acl_reports.specs.Paths.{block_for, first_path, lists}
use Rattle.acl_reports.specs.Placed.{Placed, in_places}
use Rattle.acl_reports.specs.Strangers.{no_strangers}
use Rattle.acl_reports.specs.declared.stranger.Stranger.{Stranger}
use Rattle.acl_reports.specs.declared.strangers.Strangers.{Strangers}
use Rattle.acl_reports.specs.declared.tally.Tally.{Tally}

-- How changes are reported: each relation is of blocks' texts, of what is reported on standard
-- output, and of what is said on standard error.
pub record Wording : Type 1 where
  -- by which names the line of a block is found that is at fault
  pub names : Names
  -- what is wrong with a block by itself, if anything is
  pub fault : List ℕ → Option BlockFault
  -- which id without an account a block names first, if one
  pub stranger : List ℕ → Option Stranger
  -- of a block after whose path is new
  pub IsNew : List ℕ → List ℕ → List ℕ → Type 0
  -- of a block before, and of the one after that has its path
  pub IsChanged : List ℕ → List ℕ → List ℕ → List ℕ → Type 0
  -- of a block before whose path is gone
  pub IsGone : List ℕ → List ℕ → List ℕ → Type 0
  -- what is said where no path is in both listings, by the first path of each
  pub apart : List ℕ → List ℕ → List ℕ
  -- whether the exit status reports that something is reported
  pub asks : Bool

-- what is wrong with a block of a path that was there, if anything is: what is wrong with its size
-- and its first line is reported before that, and what is wrong with the rest after it
abbrev pub unless_repeated : Bool → Option BlockFault → Option BlockFault
unless_repeated false fault = fault
unless_repeated true (Some TooLong) = Some TooLong
unless_repeated true (Some BadHeader) = Some BadHeader
unless_repeated true fault = Some RepeatedPath

-- of a block before, behind these; and of one after, where a path counts once only if the listing
-- before has it
abbrev pub fault_before : Wording → Placed Block → Option BlockFault
fault_before wording placed = unless_repeated (lists placed.earlier placed.here.text)
    (wording.fault placed.here.text)

abbrev pub fault_after : Wording → List Block → Placed Block → Option BlockFault
fault_after wording before placed = unless_repeated
    (lists before placed.here.text && lists placed.earlier placed.here.text)
    (wording.fault placed.here.text)

-- blocks as those of a listing of which nothing is reported but faults
abbrev pub part_of : Option BlockFault → Part
part_of None = Ok []
part_of (Some fault) = Err fault

abbrev pub item_of : (Placed Block → Option BlockFault) → Placed Block → Item
item_of fault placed = record { block = placed.here; part = part_of (fault placed) }

abbrev pub items_of : (Placed Block → Option BlockFault) → List Block → List Item
items_of fault blocks = map (item_of fault) (in_places blocks)

abbrev pub tally_of : List Item → Tally
tally_of items = tally_with no_blocks items

-- which of them name ids without an account
abbrev pub strangers_of : Wording → List Item → Strangers
strangers_of wording items = strangers_with wording.stranger no_strangers items

-- all that is said at the end of a listing of this name with these items
abbrev pub closing_of : Wording → List ℕ → List Item → List ℕ
closing_of wording name items = last_lines name (tally_of items) (strangers_of wording items)

-- this is reported and said if it holds, and else nothing
abbrev pub ReportsIf : Bool → (List ℕ → List ℕ → Type 0) → List ℕ → List ℕ → Type 0
ReportsIf true Reports reported said = Reports reported said
ReportsIf false Reports reported said = (reported ≡ []) × (said ≡ [])

-- of a block before, if nothing is wrong with it, and the one after that has its path
abbrev pub ReportsOld : Wording → List ℕ → List ℕ → List ℕ → List ℕ → Type 0
ReportsOld wording old text =
    ReportsIf (is_none (wording.fault old)) (wording.IsChanged old text)

-- of a block after, with which nothing is wrong: its path is new, or a block before has it
abbrev pub ReportsSince : Wording → Option Block → List ℕ → List ℕ → List ℕ → Type 0
ReportsSince wording None text = wording.IsNew text
ReportsSince wording (Some old) text = ReportsOld wording old.text text

-- of a block after, of a listing of this name, of which this is wrong, if anything is
abbrev pub ReportsNextBy : Wording → List ℕ → Option Block → Block → Option BlockFault → List ℕ
    → List ℕ → Type 0
ReportsNextBy wording name was block (Some fault) reported said =
    (reported ≡ []) × IsFaultLine name wording.names block fault said
ReportsNextBy wording name was block None reported said = ReportsSince wording was block.text
    reported said

abbrev pub ReportsNext : Wording → List ℕ → List Block → Placed Block → List ℕ → List ℕ → Type 0
ReportsNext wording name before placed = ReportsNextBy wording name
    (block_for before placed.here.text) placed.here (fault_after wording before placed)

-- of a block before whose path no block after has
abbrev pub ReportsGone : Wording → List Block → Placed Block → List ℕ → List ℕ → Type 0
ReportsGone wording after placed =
    ReportsIf (is_none (fault_before wording placed) && not (lists after placed.here.text))
    (wording.IsGone placed.here.text)

-- what is said if both listings have paths, but none that is in both
abbrev pub apart_by : Wording → Bool → Option (List ℕ) → Option (List ℕ) → List ℕ
apart_by wording false (Some first) (Some second) = wording.apart first second
apart_by wording _ _ _ = []

abbrev pub apart_text : Wording → List Block → List Block → List ℕ
apart_text wording before after = apart_by wording
    (list_any (λ block. lists before block.text) after) (first_path before) (first_path after)

-- a listing: its name, and its blocks
pub record Named : Type 0 where
  pub name : List ℕ
  pub blocks : List Block

-- the items of the listing before, and of the one after
abbrev pub items_before : Wording → Named → List Item
items_before wording before = items_of (fault_before wording) before.blocks

abbrev pub items_after : Wording → Named → Named → List Item
items_after wording before after = items_of (fault_after wording before.blocks) after.blocks

-- What is reported, one after the other: the faults of the listing before, how many there are, and
-- which ids without an account it names; each block of the listing after; the same at its end; and
-- each block before, whose path may be gone.
pub data Step : Type 0 where
  Before : Step
  Next : Placed Block → Step
  After : Step
  Gone : Placed Block → Step

abbrev pub steps_of : Named → Named → List Step
steps_of before after = Before ∷ (map Next (in_places after.blocks)
    ++ (After ∷ map Gone (in_places before.blocks)))

abbrev pub ReportsStep : Wording → Named → Named → Step → List ℕ → List ℕ → Type 0
ReportsStep wording before after Before reported said = (reported ≡ []) × ((faults : List ℕ)
    × AreSaid before.name wording.names (items_before wording before) faults
    × (said ≡ faults ++ closing_of wording before.name (items_before wording before)))
ReportsStep wording before after (Next placed) reported said =
    ReportsNext wording after.name before.blocks placed reported said
ReportsStep wording before after After reported said = (reported ≡ [])
    × (said ≡ apart_text wording before.blocks after.blocks
    ++ closing_of wording after.name (items_after wording before after))
ReportsStep wording before after (Gone placed) reported said =
    ReportsGone wording after.blocks placed reported said

-- each of them, one after the other
abbrev pub ReportsEach : {A : Type 0} → (A → List ℕ → List ℕ → Type 0) → List A → List ℕ → List ℕ
    → Type 0
ReportsEach Reports [] reported said = (reported ≡ [])
    × (said ≡ [])
ReportsEach Reports (step ∷ steps) reported said = (first : List ℕ) × (rest : List ℕ)
    × (one : List ℕ)
    × (more : List ℕ) × Reports step first one × ReportsEach Reports steps rest more
    × (reported ≡ first ++ rest) × (said ≡ one ++ more)

abbrev pub ending_between : Wording → Named → Named → List ℕ → Ending
ending_between wording before after reported =
    with_difference (wording.asks && not (is_empty reported))
    (ending_of_both (ending_of (tally_of (items_before wording before)))
    (ending_of (tally_of (items_after wording before after))))

-- the answer about two listings
pub record IsChangeAnswer (wording : Wording) (before after : Named) (answer : Answer) : Type 0
  where
    pub each : ReportsEach (ReportsStep wording before after) (steps_of before after) answer.text
        answer.beside
    pub ending : answer.ending ≡ ending_between wording before after answer.text

-- and as far as it is begun
pub record IsChangeBegun (wording : Wording) (before after : Named) (answer : Answer) : Type 0
  where
    pub count : ℕ
    pub first : ReportsEach (ReportsStep wording before after) (take count (steps_of before after))
        answer.text answer.beside

-- of a listing after with this name and these bytes, if they are known: of a block that is too long
-- its first bytes
abbrev pub OfAfter : (Named → Named → Answer → Type 0) → Named → List ℕ → Option (List ℕ) → Answer
    → Type 0
OfAfter Is before name bytes answer = IfSome (blocks_to_come 1 bytes) (λ blocks.
    Is before (record { name = name; blocks = blocks }) answer)

-- and of one before
abbrev pub OfListings : (Named → Named → Answer → Type 0) → List ℕ → Option (List ℕ) → List ℕ
    → Option (List ℕ) → Answer → Type 0
OfListings Is name bytes other others answer = IfSome (blocks_to_come 1 bytes) (λ blocks.
    OfAfter Is (record { name = name; blocks = blocks }) other others answer)
