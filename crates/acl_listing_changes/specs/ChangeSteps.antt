-- How it is reported for two listings block by block. Private steps, which no public clause cites.
use Rattle.std.specs.Prelude.{◌≡◌, ◌<◌, ◌+◌, ◌-◌, ℕ, zero, suc, Bool, true, false, not, ◌&&◌}
use Rattle.std.specs.Prelude.{◌||◌, List, [], ◌∷◌, ◌++◌, Option, Some, None, IfSome, get_or}
use Rattle.std.specs.Prelude.{is_none, is_some, length, nat_eq, option_map, replicate, set}
use Rattle.std.specs.Prelude.{slice_get, take}
use Rattle.std.specs.List.{fold, list_any}
use Rattle.std.specs.Option.{ForSome, option_and_then, option_map_or}
use Rattle.acl_cli.specs.declared.command.Ending.{Ending}
use Rattle.acl_listings.specs.Block.{path_of}
use Rattle.acl_listings.specs.Listing.{Block}
use Rattle.acl_listings.specs.declared.fault.BlockFault.{BlockFault}
use Rattle.acl_reports.specs.Listed.{AreSaid, counted, ending_of, last_lines, no_blocks}
use Rattle.acl_reports.specs.Paths.{block_for, first_path, or_first}
use Rattle.acl_reports.specs.Strangers.{no_strangers, with_stranger}
use Rattle.acl_reports.specs.declared.stranger.Stranger.{Stranger}
use Rattle.acl_reports.specs.declared.strangers.Strangers.{Strangers}
use Rattle.acl_reports.specs.declared.tally.Tally.{Tally}
use Rattle.acl_listing_changes.specs.Changes.{Named, ReportsEach, ReportsIf, ReportsNextBy, Wording}
use Rattle.acl_listing_changes.specs.Changes.{apart_by, fault_before, items_before, items_of}
use Rattle.acl_listing_changes.specs.Changes.{strangers_of, tally_of, unless_repeated}
use Rattle.acl_listing_changes.specs.Kept.{place_of}
use Rattle.acl_listing_changes.specs.declared.between.known.Known.{Known}
use Rattle.acl_listing_changes.specs.declared.between.known.Known.TheVariants as known
use Rattle.acl_listing_changes.specs.declared.between.reporter.Found.{Found}
use Rattle.acl_listing_changes.specs.declared.between.progress.Stage.{Stage}
use Rattle.acl_listing_changes.specs.declared.between.progress.Stage.TheVariants as stage

-- what was appended to an answer, and beside it, is this
pub record Appended (Reports : List ℕ → List ℕ → Type 0) (out out' beside beside' : List ℕ)
    : Type 0 where
  pub reported : List ℕ
  pub said : List ℕ
  pub reports : Reports reported said
  pub out_is : out' ≡ out ++ reported
  pub beside_is : beside' ≡ beside ++ said

-- ---- the listing before

-- the text is what is said of it, and so much was counted
pub record IsOpening (wording : Wording) (before : Named) (said : List ℕ) (tally : Tally)
    (strangers : Strangers) : Type 0 where
  pub faults : List ℕ
  pub faults_are : AreSaid before.name wording.names (items_before wording before) faults
  pub tally_is : tally ≡ tally_of (items_before wording before)
  pub strangers_are : strangers ≡ strangers_of wording (items_before wording before)
  pub said_is : said ≡ faults ++ last_lines before.name tally strangers

-- of its first blocks
pub record IsOpenedTo (wording : Wording) (name : List ℕ) (blocks : List Block) (place : ℕ)
    (said : List ℕ) (tally : Tally) (strangers : Strangers) : Type 0 where
  pub said_are : AreSaid name wording.names
      (items_of (fault_before wording) (take place blocks)) said
  pub tally_is : tally ≡ tally_of (items_of (fault_before wording) (take place blocks))
  pub strangers_are : strangers
      ≡ strangers_of wording (items_of (fault_before wording) (take place blocks))

-- the mark of a place that was found
abbrev pub is_marked : List Bool → Option ℕ → Bool
is_marked marks None = false
is_marked marks (Some place) = get_or marks place false

-- what is found in a block of which this is known, unless it may have a fault
abbrev pub found_by : Known → Option Found
found_by known.Nothing = None
found_by known.Plain = Some (record { fault = None; strange = false })
found_by known.Strange = Some (record { fault = None; strange = true })

-- this is so of one with this text
abbrev pub IsKnown : Wording → List ℕ → Known → Type 0
IsKnown wording text what = ForSome (found_by what) (λ found. (wording.fault text ≡ None)
    × (found.strange ≡ is_some (wording.stranger text)))

-- what is known of one with which this is wrong, if anything is, and which names such an id or not
abbrev pub known_by : Option BlockFault → Bool → Known
known_by (Some fault) strange = known.Nothing
known_by None true = known.Strange
known_by None false = known.Plain

-- of the block at a place that was found
abbrev pub known_at : List Known → Option ℕ → Known
known_at all None = known.Nothing
known_at all (Some place) = get_or all place known.Nothing

-- of each block before
abbrev pub AreKnown : Wording → List Block → List Known → Type 0
AreKnown wording before all = (place : Option ℕ) (block : Block)
    → option_and_then (slice_get before) place ≡ Some block
    → IsKnown wording block.text (known_at all place)

-- ---- which blocks before were met

-- a place that was found is this one
abbrev pub is_place : ℕ → Option ℕ → Bool
is_place place found = option_map_or (nat_eq place) found false

-- a block after has the path that the block before at this place has first
abbrev pub is_met : List Block → List Block → ℕ → Bool
is_met before after place = list_any (λ block. is_place place (place_of before block.text)) after

-- the marks say of each place whether it was met
pub record AreMet (before after : List Block) (met : List Bool) : Type 0 where
  pub count : length met ≡ length before
  pub each : (place : ℕ) → place < length before
      → get_or met place false ≡ is_met before after place

-- the marks once that of a place that was found is set
abbrev pub with_mark : List Bool → Option ℕ → List Bool
with_mark met None = met
with_mark met (Some place) = set met place true

-- ---- what was seen of the listing after

pub record SeenValue : Type 0 where
  -- which blocks before were met
  pub met : List Bool
  pub tally : Tally
  pub strangers : Strangers
  -- the first path
  pub first : Option (List ℕ)
  -- whether the listing before has a path of it
  pub known : Bool

abbrev pub nothing_seen : ℕ → SeenValue
nothing_seen count = record {
  met = replicate count false;
  tally = no_blocks;
  strangers = no_strangers;
  first = None;
  known = false;
}

-- one block more, with which this is wrong, if anything is, and which names this id first
abbrev pub with_seen : SeenValue → Option ℕ → Block → Option BlockFault → Option Stranger
    → SeenValue
with_seen seen place block fault stranger = record {
  met = with_mark seen.met place;
  tally = counted seen.tally block.text fault;
  strangers = with_stranger seen.strangers block.line stranger;
  first = or_first seen.first (path_of block.text);
  known = seen.known || is_some place;
}

-- what is wrong with a block after, by the marks
abbrev pub fault_here : Wording → List Block → List Bool → List ℕ → Option BlockFault
fault_here wording before met text =
    unless_repeated (is_marked met (place_of before text)) (wording.fault text)

abbrev pub seen_on : Wording → List Block → SeenValue → Block → SeenValue
seen_on wording before seen block = with_seen seen (place_of before block.text) block
    (fault_here wording before seen.met block.text) (wording.stranger block.text)

-- ---- what is left to report

pub data Reported : Type 0 where
  Opening : List ℕ → Reported
  Here : SeenValue → Block → Reported
  Closing : SeenValue → Reported
  Missing : List Bool → ℕ → Reported

-- of so many blocks before, from a place on
abbrev pub missing_from : List Bool → ℕ → ℕ → List Reported
missing_from met place zero = []
missing_from met place (suc count) = Missing met place ∷ missing_from met (place + 1) count

-- of these blocks after, and then of those before
abbrev pub reported_from : Wording → List Block → SeenValue → List Block → List Reported
reported_from wording before seen [] =
    Closing seen ∷ missing_from seen.met 0 (length before)
reported_from wording before seen (block ∷ blocks) =
    Here seen block ∷ reported_from wording before (seen_on wording before seen block) blocks

-- how far it was reported
pub record Left : Type 0 where
  pub stage : Stage
  -- what is said of the listing before
  pub opening : List ℕ
  pub seen : SeenValue
  -- the block at hand, and those to come, if they are known
  pub block : Block
  pub coming : Option (List Block)

abbrev pub left_by : Wording → List Block → Left → Stage → Option (List Reported)
left_by wording before left stage.Opening = option_map (λ blocks.
    Opening left.opening ∷ reported_from wording before left.seen blocks) left.coming
left_by wording before left stage.After =
    option_map (reported_from wording before left.seen) left.coming
left_by wording before left (stage.Gone place) =
    Some (missing_from left.seen.met place (length before - place))

abbrev pub left_to_report : Wording → List Block → Left → Option (List Reported)
left_to_report wording before left = left_by wording before left left.stage

-- what is reported for a block before whose place wasn't met
abbrev pub ReportsMissing : Wording → List Block → List Bool → ℕ → List ℕ → List ℕ → Type 0
ReportsMissing wording before met place reported said = IfSome (slice_get before place) (λ block.
    ReportsIf (is_none (fault_before wording (record { earlier = take place before; here = block }))
    && not (get_or met place false)) (wording.IsGone block.text) reported said)

abbrev pub ReportsReported : Wording → List ℕ → List Block → Reported → List ℕ → List ℕ → Type 0
ReportsReported wording name before (Opening text) reported said = (reported ≡ []) × (said ≡ text)
ReportsReported wording name before (Here seen block) reported said = ReportsNextBy wording name
    (block_for before block.text) block
    (fault_here wording before seen.met block.text) reported said
ReportsReported wording name before (Closing seen) reported said = (reported ≡ [])
    × (said ≡ apart_by wording seen.known (first_path before) seen.first
    ++ last_lines name seen.tally seen.strangers)
ReportsReported wording name before (Missing met place) reported said =
    ReportsMissing wording before met place reported said

-- what was counted in the end, if it is known
abbrev pub final_by : Wording → List Block → Left → Stage → Option Tally
final_by wording before left (stage.Gone place) = Some left.seen.tally
final_by wording before left stage = option_map (λ blocks.
    (fold (seen_on wording before) left.seen blocks).tally) left.coming

abbrev pub final_tally : Wording → List Block → Left → Option Tally
final_tally wording before left = final_by wording before left left.stage

-- ---- one more thing is reported

-- this was the first of known things
abbrev pub HandsOn : {A : Type 0} → Option (List A) → A → Option (List A) → Type 0
HandsOn None item new = Unit {0}
HandsOn (Some items) item None = ⊥
HandsOn (Some items) item (Some more) = items ≡ item ∷ more

pub record IsStep (wording : Wording) (name : List ℕ) (before : List Block) (old new : Left)
    (out out' beside beside' : List ℕ) : Type 0 where
  pub step : Reported
  pub hands : HandsOn (left_to_report wording before old) step (left_to_report wording before new)
  pub appended : Appended (ReportsReported wording name before step) out out' beside beside'
  pub final : IfSome (final_tally wording before old) (λ tally.
      final_tally wording before new ≡ Some tally)

-- from here on
abbrev pub ReportsLeft : Wording → List ℕ → List Block → Left → List ℕ → List ℕ
    → Type 0
ReportsLeft wording name before left reported said = IfSome (left_to_report wording before left)
    (λ steps.
    ReportsEach (ReportsReported wording name before) steps reported said)

abbrev pub BeginsLeft : Wording → List ℕ → List Block → Left → List ℕ → List ℕ
    → Type 0
BeginsLeft wording name before left reported said = IfSome (left_to_report wording before left)
    (λ steps.
    (count : ℕ) × ReportsEach (ReportsReported wording name before)
    (take count steps) reported said)

abbrev pub EndsLeft : Wording → List Block → Left → Ending → Type 0
EndsLeft wording before left ending = IfSome (final_tally wording before left) (λ tally.
    ending ≡ ending_of tally)

-- nothing more is reported
pub record IsLast (wording : Wording) (name : List ℕ) (before : List Block) (old new : Left)
    (out out' beside beside' : List ℕ) : Type 0 where
  pub stays : new ≡ old
  pub out_is : out' ≡ out
  pub beside_is : beside' ≡ beside
  pub none : ReportsLeft wording name before old [] []
