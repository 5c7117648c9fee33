-- How the way to a path is kept, and reported. Private steps, which no public clause cites.
use Rattle.std.specs.Prelude.{◌≡◌, ⊤, ℕ, Bool, true, false, List, [], ◌∷◌, Option, Some, None}
use Rattle.std.specs.Prelude.{Vec, map, reverse}
use Rattle.std.specs.List.{flat_map, list_any}
use Rattle.std.specs.declared.alloc.Global.{Global}
use Rattle.std.specs.Borrow.{Bor}
use Rattle.acl_access.specs.Reach.{reaches}
use Rattle.acl_listings.specs.Block.{FileValue, file_by, path_of}
use Rattle.acl_listings.specs.Listing.{Block}
use Rattle.acl_listings.specs.declared.fault.BlockFault.TheVariants.{UnknownWay}
use Rattle.acl_listings.specs.declared.fault.FileFault.{FileFault}
use Rattle.acl_listings.specs.declared.fault.FileFault.TheVariants as file
use Rattle.acl_names.specs.Names.{Names}
use Rattle.acl_posix.specs.Perms.{bits_of}
use Rattle.acl_bridge.specs.Files.{view_acl}
use Rattle.acl_people.specs.Host.{names_of_host}
use Rattle.acl_reports.specs.Files.{files_of}
use Rattle.acl_reports.specs.Paths.{is_among}
use Rattle.acl_reports.specs.Seen.{Splits}
use Rattle.acl_listing_queries.specs.Readings.{Reading, reading_of}
use Rattle.acl_listing_queries.specs.RootSteps.{IsBegun}
use Rattle.acl_listing_queries.specs.Ways.{chain_to, folder_of, holds, way_of, with_folder}
use Rattle.acl_listing_queries.specs.WhoSteps.{lacks_path}
use Rattle.acl_listing_queries.specs.WhyMeaning.{readings}
use Rattle.acl_listing_queries.specs.WhyDeletion.{FileAt as FileAtValue}
use Rattle.acl_listing_queries.specs.WhyText.{Deletion, Permissions, Sought, WhyAsking}
use Rattle.acl_listing_queries.specs.WhyText.{folder_text}
use Rattle.acl_listing_queries.specs.declared.why.deletion.FileAt.{FileAt}
use Rattle.acl_listing_queries.specs.declared.why.folders.Folders.{Folders}
use Rattle.acl_listing_queries.specs.declared.why.question.Question.{Question}
use Rattle.acl_listing_queries.specs.declared.why.question.Sought.{Sought as SoughtAsked}
use Rattle.acl_listing_queries.specs.declared.why.question.Sought.TheVariants as asked
use Rattle.acl_listing_queries.specs.declared.why.way.Way.{Way}

-- what is asked of a file
abbrev pub sought_by : SoughtAsked → Sought
sought_by (asked.Permissions perms) = Permissions (bits_of perms)
sought_by asked.Deletion = Deletion

-- what a question asks
abbrev pub asked_by : Question → WhyAsking
asked_by question = record {
  names = names_of_host question.host.now;
  rules = question.rules;
  who = question.requester.now;
  sought = sought_by question.sought;
}

-- what these texts say
abbrev pub readings_of : Names → List (Vec ℕ Global) → List Reading
readings_of names texts = map (λ text. reading_of names text.items) texts

-- these are kept of the way to a path, behind blocks that say this
pub record IsWayTo (names : Names) (path : List ℕ) (earlier : List Reading) (way : Way) : Type 0
  where
    pub lost : way.lost ≡ list_any lacks_path earlier
    pub folders : way.lost ≡ false → (here : Reading) → here.path ≡ Some path
        → readings_of names way.folders.items ≡ reverse (way_of earlier here)
    pub begun : way.lost ≡ false → IsBegun way.beginning earlier

-- the folders of a way, the nearest first, if they are known
abbrev pub known_folders : List Reading → Option (List FileValue)
known_folders [] = Some []
known_folders (folder ∷ above) = with_folder (folder_of folder) (chain_to above folder)

-- the nearest of them, if there is one, holds what has this path
abbrev pub is_held : List Reading → Option (List ℕ) → Bool
is_held [] path = true
is_held (folder ∷ above) path = holds folder.path path

-- the last text is that of the nearest folder
abbrev pub IsNearest : Names → Option (Bor (List ℕ)) → List Reading → Type 0
IsNearest names None [] = ⊤
IsNearest names (Some text) (folder ∷ above) =
    (path_of text.now ≡ folder.path) × (file_by names text.now ≡ folder.file)
IsNearest names _ _ = ⊥

-- the folders of this way are reported
pub record AreReported (asking : WhyAsking) (way : List Reading) (folders : Folders) : Type 0 where
  pub files : List FileValue
  pub known : known_folders way ≡ Some files
  pub reach : folders.reach ≡ reaches (files_of asking.rules files) asking.who
  pub text : folders.text.items ≡ flat_map (folder_text asking.rules asking.who) (reverse way)
  pub last : IsNearest asking.names folders.last way

-- and they are all those on the way to a block
pub record IsWayReported (asking : WhyAsking) (way : List Reading) (here : Reading)
    (folders : Folders)
    : Type 0 where
  pub files : List FileValue
  pub known : chain_to way here ≡ Some files
  pub reach : folders.reach ≡ reaches (files_of asking.rules files) asking.who
  pub text : folders.text.items ≡ flat_map (folder_text asking.rules asking.who) (reverse way)
  pub last : IsNearest asking.names folders.last way

-- they aren't known; out of memory says nothing
abbrev pub IsUnknown : {X : Type 0} → Option X → FileFault → Type 0
IsUnknown known (file.Block fault) = (known ≡ None) × (fault ≡ UnknownWay)
IsUnknown known file.Memory = ⊤

-- of a listing's blocks those that were seen don't have the path, and this is kept of the way
pub record IsSought (names : Names) (path : List ℕ) (coming left : Option (List Block)) (way : Way)
    : Type 0 where
  pub seen : List Block
  pub splits : Splits coming seen left
  pub none : is_among path seen ≡ false
  pub way_is : IsWayTo names path (readings names seen) way

-- a file and its path, without where they lie in memory
abbrev pub view_at : FileAt → FileAtValue
view_at at = record { path = at.path.now; file = view_acl at.acl }
