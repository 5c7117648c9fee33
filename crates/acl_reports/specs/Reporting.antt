-- How a listing is reported, block by block.
use Rattle.std.specs.Prelude.{◌≡◌, ⊤, ℕ, Bool, true, false, List, [], ◌++◌, Option, IfSome}
use Rattle.std.specs.Prelude.{Result, Ok, Err}
use Rattle.acl_names.specs.Names.{Names}
use Rattle.acl_cli.specs.declared.command.Ending.{Ending}
use Rattle.acl_cli.specs.declared.failure.Failure.{Failure}
use Rattle.acl_cli.specs.declared.failure.Failure.TheVariants.{Unread, Lacks}
use Rattle.acl_cli.specs.declared.run_fault.RunFault.TheVariants.{Memory}
use Rattle.acl_listings.specs.Listing.{Block}
use Rattle.acl_listings.specs.declared.fault.BlockFault.{BlockFault}
use Rattle.acl_listings.specs.declared.fault.FileFault.{FileFault}
use Rattle.acl_listings.specs.declared.fault.FileFault.TheVariants as file
use Rattle.acl_people.specs.Host.{names_of_host}
use Rattle.acl_reports.specs.Strangers.{with_stranger}
use Rattle.acl_reports.specs.declared.blocks.Listing.{Listing}
use Rattle.acl_reports.specs.declared.stranger.Stranger.{Stranger}
use Rattle.acl_reports.specs.declared.strangers.Strangers.{Strangers}
use Rattle.acl_reports.specs.declared.tally.Tally.{Tally}
use Rattle.acl_reports.specs.Listed.{Item, Part, ending_of, items_after, last_lines_with}
use Rattle.acl_reports.specs.Listed.{AreBegun, AreSaid, IsSaid, fault_in, tally_with}
use Rattle.acl_reports.specs.Listed.{reported, reported_of, with_item}

-- what a call appended is the part, or it is refused as the part says; out of memory says nothing
abbrev pub IsPart : {A : Type 0} → Part → Result A FileFault → List ℕ → List ℕ → Type 0
IsPart part (Ok value) old new = (text : List ℕ) × (part ≡ Ok text) × (new ≡ old ++ text)
IsPart part (Err (file.Block fault)) old new = (part ≡ Err fault) × (new ≡ old)
IsPart part (Err file.Memory) old new = ⊤

-- this holds, unless memory ran out
abbrev pub UnlessMemory : {A : Type 0} → Result A FileFault → Type 0 → Type 0
UnlessMemory (Err file.Memory) P = ⊤
UnlessMemory result P = P

-- what was appended to an answer is what is reported for an item, of which this is wrong, and what
-- was appended beside it is what is said of it
abbrev pub IsItemReported : List ℕ → Names → Item → Option BlockFault → List ℕ → List ℕ → List ℕ
    → List ℕ → Type 0
IsItemReported name names item fault out out' beside beside' =
    (out' ≡ out ++ reported_of item.part)
    × ((said : List ℕ) × IsSaid name names item.block item.part said × (beside' ≡ beside ++ said))
    × (fault_in item.part ≡ fault)

-- what there is to report of a listing of this name: how it is read, what a block results in behind
-- others, which id without an account it names first, and what was counted
pub record Left : Type 0 where
  pub name : List ℕ
  pub names : Names
  pub part : List (List ℕ) → List ℕ → Part
  pub stranger : List ℕ → Option Stranger
  pub tally : Tally
  pub strangers : Strangers
  -- whether the end was reported
  pub closed : Bool
  -- the blocks that are still to come, if that is known
  pub coming : Option (List Block)

-- of this one, whose reporter does this
abbrev pub left_of : {T R : Type 0} → (T → List (List ℕ) → List ℕ → Part)
    → (T → List ℕ → Option Stranger) → Listing T R → Left
left_of part stranger listing = record {
  name = listing.name.now;
  names = names_of_host listing.host.now;
  part = part listing.reporter;
  stranger = stranger listing.reporter;
  tally = listing.counts.tally;
  strangers = listing.counts.strangers;
  closed = listing.closed;
  coming = listing.blocks.coming;
}

abbrev pub items_left : Left → List (List ℕ) → List Block → List Item
items_left left earlier blocks = items_after left.part earlier blocks

-- the text is what is said of them, and at the end
abbrev pub IsSaidLeft : Left → List Item → List ℕ → Type 0
IsSaidLeft left items text = (said : List ℕ) × AreSaid left.name left.names items said
    × (text ≡ said ++ last_lines_with left.name left.stranger left.tally left.strangers items)

-- these texts are all that is reported and said behind blocks with these texts
abbrev pub IsReportedBy : Bool → Left → List (List ℕ) → List ℕ → List ℕ → Type 0
IsReportedBy true left earlier text more = (text ≡ []) × (more ≡ [])
IsReportedBy false left earlier text more = IfSome left.coming (λ blocks.
    let items = items_left left earlier blocks in
    (text ≡ reported items) × IsSaidLeft left items more)

abbrev pub IsReported : Left → List (List ℕ) → List ℕ → List ℕ → Type 0
IsReported left = IsReportedBy left.closed left

-- what is reported and said of the first of them, and maybe at the end
abbrev pub IsBegunBy : Bool → Left → List (List ℕ) → List ℕ → List ℕ → Type 0
IsBegunBy true left earlier text more = (text ≡ []) × (more ≡ [])
IsBegunBy false left earlier text more = IfSome left.coming (λ blocks.
    AreBegun left.name left.names left.stranger left.tally left.strangers
    (items_left left earlier blocks) text more)

abbrev pub IsBegun : Left → List (List ℕ) → List ℕ → List ℕ → Type 0
IsBegun left = IsBegunBy left.closed left

-- it ends so
abbrev pub EndsBy : Bool → Left → List (List ℕ) → Ending → Type 0
EndsBy true left earlier ending = ending ≡ ending_of left.tally
EndsBy false left earlier ending = IfSome left.coming (λ blocks.
    ending ≡ ending_of (tally_with left.tally (items_left left earlier blocks)))

abbrev pub EndsSo : Left → List (List ℕ) → Ending → Type 0
EndsSo left = EndsBy left.closed left

-- of what stands so: these texts are all that is reported and said from here on, behind whatever
-- blocks it stands
abbrev pub ReportsOf : (List (List ℕ) → Type 0) → Left → List ℕ → List ℕ → Type 0
ReportsOf Stands left text more =
    (earlier : List (List ℕ)) → Stands earlier → IsReported left earlier text more

-- they are what is reported and said of the first; and it stands behind some
abbrev pub BeginsOf : (List (List ℕ) → Type 0) → Left → List ℕ → List ℕ → Type 0
BeginsOf Stands left text more = ((earlier : List (List ℕ)) × Stands earlier)
    × ((earlier : List (List ℕ)) → Stands earlier → IsBegun left earlier text more)

abbrev pub EndsOf : (List (List ℕ) → Type 0) → Left → Ending → Type 0
EndsOf Stands left ending =
    (earlier : List (List ℕ)) → Stands earlier → EndsSo left earlier ending

-- an item, which names this id without an account first, was reported, said and counted
pub record IsItemDone (name : List ℕ) (names : Names) (item : Item) (stranger : Option Stranger)
    (tally tally' : Tally) (strangers strangers' : Strangers) (out out' beside beside' : List ℕ)
    : Type 0 where
  pub text : out' ≡ out ++ reported_of item.part
  pub said : List ℕ
  pub is_said : IsSaid name names item.block item.part said
  pub beside_is : beside' ≡ beside ++ said
  pub tally_is : tally' ≡ with_item tally item
  pub strangers_is : strangers' ≡ with_stranger strangers item.block.line stranger

-- what has this name fails while it is read, or memory runs out
abbrev pub IsListingFailure : List ℕ → Failure → Type 0
IsListingFailure name (Unread refused) = refused.now ≡ name
IsListingFailure name (Lacks Memory) = ⊤
IsListingFailure name _ = ⊥
