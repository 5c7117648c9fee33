-- What of earlier blocks counts for what is found in a block.
use Rattle.std.specs.Prelude.{ℕ, List, [], ◌∷◌, ◌++◌, Option, Some, None, Result, Ok, Err}
use Rattle.std.specs.Prelude.{option_map}
use Rattle.std.specs.List.{filter, find}
use Rattle.acl_listings.specs.Block.{FileValue}
use Rattle.acl_listings.specs.Way.{is_above, is_folder_of}
use Rattle.acl_listings.specs.declared.fault.BlockFault.{BlockFault}
use Rattle.acl_listings.specs.declared.lists.Lists.{Lists}
use Rattle.acl_listings.specs.declared.lists.Lists.TheVariants.{Posix, Nfs4}
use Rattle.acl_posix.specs.Entry.{EntryValue}
use Rattle.acl_listing_lint.specs.Pending.{Pending, pending_then}

-- a folder with a default list
pub record Folder : Type 0 where
  pub path : List ℕ
  pub default : List EntryValue

-- the default list of the folder in which a path lies, if it is one of these
abbrev pub default_at : List Folder → List ℕ → Option (List EntryValue)
default_at folders path = option_map (λ folder. folder.default)
    (find (λ folder. is_folder_of folder.path path) folders)

-- those of them that are above a path
abbrev pub those_above : List ℕ → List Folder → List Folder
those_above path folders = filter (λ folder. is_above folder.path path) folders

-- a file with these lists, if it is such a folder
abbrev pub folder_if : List ℕ → Option (List EntryValue) → List Folder
folder_if path (Some default) = record { path = path; default = default } ∷ []
folder_if path None = []

abbrev pub folder_with : List ℕ → Lists → List Folder
folder_with path (Posix access default) = folder_if path default
folder_with path (Nfs4 acl) = []

-- the folders that may hold what comes behind a file: those above it, and the file
abbrev pub folders_then : List Folder → FileValue → List Folder
folders_then folders file = those_above file.path folders ++ folder_with file.path file.lists

-- a file that is pending, and the folders with default lists on the way to it
pub record Seen : Type 0 where
  pub pending : Option Pending
  pub folders : List Folder

abbrev pub nothing_seen : Seen
nothing_seen = record { pending = None; folders = [] }

abbrev pub seen_then : Seen → ℕ → FileValue → Seen
seen_then seen line file = record {
  pending = pending_then line file;
  folders = folders_then seen.folders file;
}

-- what is seen behind one more block: one that says no file leaves it
abbrev pub seen_after : Seen → ℕ → Result FileValue BlockFault → Seen
seen_after seen line (Ok file) = seen_then seen line file
seen_after seen line (Err fault) = seen
