-- What `next` prints for the blocks of a listing: each of them, and after a folder's the block of
-- what would be created in it.
use Rattle.std.specs.Prelude.{ℕ, Bool, ◌||◌, List, [], ◌∷◌, ◌++◌, fold, Option, Some, None}
use Rattle.std.specs.Prelude.{Result, Ok, Err, if◌then◌else◌}
use Rattle.acl_names.specs.Bytes.{newline}
use Rattle.acl_names.specs.Names.{Names}
use Rattle.acl_names.specs.Steps.{◌>>=◌}
use Rattle.acl_listings.specs.Block.{FileValue, file_by}
use Rattle.acl_listings.specs.Way.{is_above}
use Rattle.acl_listings.specs.declared.fault.BlockFault.{BlockFault}
use Rattle.acl_reports.specs.Listed.{Part}
use Rattle.acl_listing_creation.specs.Created.{next_block}
use Rattle.acl_listings.specs.Folders.{says_folder}
use Rattle.acl_listing_creation.specs.declared.creation.Creation.{Creation}

-- the names that blocks have, what is created, and whether each block is a folder's
pub record NextAsking : Type 0 where
  pub names : Names
  pub creation : Creation
  pub folders_alone : Bool

-- the file of a block, and the block to print after it if it is a folder's
pub record Reading : Type 0 where
  pub file : FileValue
  pub next : List ℕ

abbrev pub reading_of : NextAsking → List ℕ → Result Reading BlockFault
reading_of asking text = do
  file ← file_by asking.names text
  next ← next_block asking.creation file
  Ok (record { file = file; next = next })

-- it is known to be a folder's whatever comes after it
abbrev pub is_known_folder : NextAsking → Reading → Bool
is_known_folder asking reading = asking.folders_alone || says_folder reading.file

-- a file that is a folder if the next block is below it, and the block to print then
pub record Pending : Type 0 where
  pub path : List ℕ
  pub next : List ℕ

abbrev pub if_unknown : Bool → Reading → Option Pending
if_unknown known reading = if known then None
    else Some (record { path = reading.file.path; next = reading.next })

-- the pending file after another block: a block that can't be evaluated changes nothing
abbrev pub pending_after : NextAsking → Option Pending → Result Reading BlockFault → Option Pending
pending_after asking pending (Err fault) = pending
pending_after asking pending (Ok reading) = if_unknown (is_known_folder asking reading) reading

-- after these texts
abbrev pub pending_behind : NextAsking → List (List ℕ) → Option Pending
pending_behind asking earlier =
    fold (λ pending text. pending_after asking pending (reading_of asking text)) None earlier

-- what is printed for it before a block with this path
abbrev pub reported_before : Option Pending → List ℕ → List ℕ
reported_before None path = []
reported_before (Some pending) path = if is_above pending.path path then pending.next else []

-- a block, unchanged, and an empty line
abbrev pub as_it_stands : List ℕ → List ℕ
as_it_stands text = text ++ newline ∷ newline ∷ []

-- what is printed for a block: the block itself, unchanged
abbrev pub reported_at : NextAsking → Option Pending → List ℕ → Reading → List ℕ
reported_at asking pending text reading = reported_before pending reading.file.path
    ++ (as_it_stands text ++ (if is_known_folder asking reading then reading.next else []))

abbrev pub next_part : NextAsking → List (List ℕ) → List ℕ → Part
next_part asking earlier text = do
  reading ← reading_of asking text
  Ok (reported_at asking (pending_behind asking earlier) text reading)
