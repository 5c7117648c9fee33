-- The folders above the file of a block of a listing, by what stands before the block.
use Rattle.std.specs.Prelude.{ℕ, Bool, ◌&&◌, true, false, not, List, [], ◌∷◌, ◌++◌, Option, Some}
use Rattle.std.specs.Prelude.{None, Result, Ok, Err, if◌then◌else◌}
use Rattle.std.specs.List.{filter, flat_map, fold, list_all}
use Rattle.acl_listings.specs.Block.{FileValue}
use Rattle.acl_listings.specs.Way.{begin_alike, is_above, is_absolute, is_folder_of}
use Rattle.acl_listings.specs.declared.fault.BlockFault.{BlockFault}
use Rattle.acl_reports.specs.Placed.{in_places}
use Rattle.acl_listing_queries.specs.Readings.{Reading}

-- of two paths: the one is above the other; a path that isn't known may be above any, and below any
abbrev pub may_be_above : Option (List ℕ) → Option (List ℕ) → Bool
may_be_above (Some folder) (Some path) = is_above folder path
may_be_above _ _ = true

-- and certainly that of the folder in which the other lies
abbrev pub holds : Option (List ℕ) → Option (List ℕ) → Bool
holds (Some folder) (Some path) = is_folder_of folder path
holds _ _ = false

-- both begin alike, and neither is above the other
abbrev pub are_apart : Option (List ℕ) → Option (List ℕ) → Bool
are_apart (Some one) (Some other) = begin_alike (is_absolute one) (is_absolute other)
    && (not (is_above one other) && not (is_above other one))
are_apart _ _ = false

-- what may be above it of these
abbrev pub those_above : Reading → List Reading → List Reading
those_above here way = filter (λ folder. may_be_above folder.path here.path) way

-- Where the way stands behind a block, the nearest first: what may be above the block of where it
-- stood before, and now the block.
abbrev pub way_on : List Reading → Reading → List Reading
way_on way here = here ∷ those_above here way

abbrev pub way_behind : List Reading → List Reading
way_behind blocks = fold way_on [] blocks

-- the way to a block behind these
abbrev pub way_of : List Reading → Reading → List Reading
way_of earlier here = those_above here (way_behind earlier)

-- a way begins with the block to which it leads, if it is this and has nothing above the block
abbrev pub if_first : Reading → List Reading → List Reading
if_first here [] = here ∷ []
if_first here (folder ∷ above) = []

-- the blocks with which ways begin
abbrev pub beginnings_of : List Reading → List Reading
beginnings_of blocks = flat_map (λ placed. if_first placed.here (way_of placed.earlier placed.here))
    (in_places blocks)

-- each of these is apart from each
abbrev pub are_all_apart : List Reading → Bool
are_all_apart [] = true
are_all_apart (one ∷ more) =
    list_all (λ other. are_apart one.path other.path) more && are_all_apart more

-- the folder that a block says, if it reads
abbrev pub folder_of : Reading → Option FileValue
folder_of reading = by reading.file
  where
    by : Result FileValue BlockFault → Option FileValue
    by (Ok file) = Some file
    by (Err fault) = None

-- the nearest folder, and those above it, if they are known
abbrev pub with_folder : Option FileValue → Option (List FileValue) → Option (List FileValue)
with_folder (Some folder) (Some above) = Some (folder ∷ above)
with_folder _ _ = None

-- the folders of a way to a block, the nearest first, if each of them reads, and holds what is next
abbrev pub chain_to : List Reading → Reading → Option (List FileValue)
chain_to [] here = Some []
chain_to (folder ∷ above) here = if holds folder.path here.path
    then with_folder (folder_of folder) (chain_to above folder) else None

-- whether all ways up to that to a block begin apart from each other
abbrev pub begins_apart : List Reading → Reading → Bool
begins_apart earlier here = are_all_apart (beginnings_of (earlier ++ here ∷ []))

-- The folders above a block, the nearest first, if they are known. If two ways have begun that
-- aren't apart, a folder stands behind what is in it, so that folders of any way may be missing.
abbrev pub known_way : List Reading → Reading → Option (List FileValue)
known_way earlier here =
    if begins_apart earlier here then chain_to (way_of earlier here) here else None

-- whether the nearest folder on a way has the sticky bit
abbrev pub is_sticky : List Reading → Bool
is_sticky [] = false
is_sticky (folder ∷ above) = by folder.file
  where
    by : Result FileValue BlockFault → Bool
    by (Ok file) = file.flags.sticky
    by (Err fault) = false
