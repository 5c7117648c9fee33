-- Why somebody may do something with a file, or may not: list by list.
use Rattle.std.specs.Prelude.{ℕ, ◌&&◌, Bool, List, [], ◌∷◌, ◌++◌, Option, Some, None, Result, Ok}
use Rattle.std.specs.Prelude.{Err, codes, reverse}
use Rattle.std.specs.List.{flat_map}
use Rattle.acl_access.specs.Deletes.{deletes}
use Rattle.acl_access.specs.Reach.{reaches}
use Rattle.acl_access.specs.declared.rules.Rules.{Rules}
use Rattle.acl_listings.specs.Block.{FileValue}
use Rattle.acl_listings.specs.declared.fault.BlockFault.{BlockFault}
use Rattle.acl_listings.specs.declared.fault.BlockFault.TheVariants.{UnknownWay}
use Rattle.acl_names.specs.Names.{Names}
use Rattle.acl_names.specs.Requester.{Identity}
use Rattle.acl_queries.specs.DecideAnswer.{answer_line}
use Rattle.acl_bridge.specs.Files.{may}
use Rattle.acl_reports.specs.Files.{file_of, files_of}
use Rattle.acl_reports.specs.Listed.{Part}
use Rattle.acl_listing_queries.specs.Readings.{Reading, reading_of}
use Rattle.acl_listing_queries.specs.Ways.{known_way, way_of}
use Rattle.acl_listing_queries.specs.WhyDeletion.{FileAt, deletion_reasons}
use Rattle.acl_listing_queries.specs.WhyReasons.{decision_text}

-- what is asked: whether the permissions are granted, or whether the file may be deleted
pub data Sought : Type 0 where
  Permissions : ℕ → Sought
  Deletion : Sought

-- by which names blocks are read, by which rules lists are evaluated, who asks, and what
pub record WhyAsking : Type 0 where
  pub names : Names
  pub rules : Rules
  pub who : Identity
  pub sought : Sought

-- ---- the folders on the way

-- of a folder that reads, whether it may be searched
abbrev pub folder_text : Rules → Identity → Reading → List ℕ
folder_text rules who folder = by folder.file
  where
    by : Result FileValue BlockFault → List ℕ
    by (Ok file) = decision_text (codes "folder") file.path (file_of rules file) who 1
    by (Err fault) = []

-- the nearest of them, if it reads
abbrev pub nearest : List Reading → Option FileValue
nearest [] = None
nearest (folder ∷ above) = by folder.file
  where
    by : Result FileValue BlockFault → Option FileValue
    by (Ok file) = Some file
    by (Err fault) = None

-- ---- the file

abbrev pub file_at : Rules → FileValue → FileAt
file_at rules file = record { path = file.path; file = file_of rules file }

-- Whether the file grants it to one who reaches it or doesn't; then each folder on the way, of
-- which this is reported; and the file.
abbrev pub permissions_text : Identity → ℕ → Bool → List ℕ → FileAt → List ℕ
permissions_text who perms reach folders at = answer_line (may at.file who perms && reach)
    ++ folders ++ decision_text (codes "file") at.path at.file who perms

-- whether one who reaches it may delete it from this folder; each folder on the way; and what
-- decides
abbrev pub deletion_text : Rules → Identity → Bool → List ℕ → FileValue → FileAt → List ℕ
deletion_text rules who reach folders folder at =
    answer_line (deletes folder.flags.sticky (file_of rules folder) at.file who && reach)
    ++ folders ++ deletion_reasons folder.flags.sticky (file_at rules folder) at who

-- what is asked of a file behind folders of which this is reported, and of which this is the
-- nearest: without one it isn't known who may delete the file
abbrev pub sought_part : Rules → Sought → Identity → Bool → List ℕ → Option FileValue → FileAt
    → Part
sought_part rules (Permissions perms) who reach folders folder at =
    Ok (permissions_text who perms reach folders at)
sought_part rules Deletion who reach folders (Some folder) at =
    Ok (deletion_text rules who reach folders folder at)
sought_part rules Deletion who reach folders None at = Err UnknownWay

-- what is reported for a file on this way, whose folders are these, if they are known: each folder,
-- the outermost first
abbrev pub why_on : WhyAsking → List Reading → FileValue → Option (List FileValue) → Part
why_on asking way file (Some folders) =
    sought_part asking.rules asking.sought asking.who
    (reaches (files_of asking.rules folders) asking.who)
    (flat_map (folder_text asking.rules asking.who) (reverse way)) (nearest way)
    (file_at asking.rules file)
why_on asking way file None = Err UnknownWay

-- of a block that says this
abbrev pub why_by : WhyAsking → List Reading → Result FileValue BlockFault
    → Option (List FileValue) → Part
why_by asking way (Ok file) folders = why_on asking way file folders
why_by asking way (Err fault) folders = Err fault

-- what `why` reports for a block, by its text and what those before it say
abbrev pub why_part : WhyAsking → List Reading → List ℕ → Part
why_part asking earlier text =
    let here = reading_of asking.names text in
    why_by asking (way_of earlier here) here.file (known_way earlier here)
