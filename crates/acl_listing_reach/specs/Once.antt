-- Of each path of a listing the first block counts.
use Rattle.std.specs.Prelude.{ℕ, Bool, false, List, [], ◌∷◌, ◌++◌, Option, Some, None, Ok, Err}
use Rattle.std.specs.Prelude.{bytes_eq, option_map, if◌then◌else◌}
use Rattle.std.specs.List.{find, fold, list_any}
use Rattle.std.specs.Option.{option_map_or}
use Rattle.acl_listings.specs.Block.{path_of}
use Rattle.acl_listings.specs.declared.fault.BlockFault.{BlockFault}
use Rattle.acl_reports.specs.Listed.{Item, Part, fault_in}
use Rattle.acl_listing_changes.specs.Changes.{unless_repeated}
use Rattle.acl_listing_changes.specs.RestoreLaws.{text_has}

-- one of these texts has the path of this one
abbrev pub is_repeated : List (List ℕ) → List ℕ → Bool
is_repeated earlier text =
    option_map_or (λ path. list_any (text_has path) earlier) (path_of text) false

-- what a block results in with which this is wrong, if anything is
abbrev pub unless_faulty : Option BlockFault → Part → Part
unless_faulty None part = part
unless_faulty (Some fault) part = Err fault

-- what a block results in behind others, if it is the first of its path
abbrev pub part_once : (List (List ℕ) → List ℕ → Part) → List (List ℕ) → List ℕ → Part
part_once part earlier text = let here = part earlier text in
    unless_faulty (unless_repeated (is_repeated earlier text) (fault_in here)) here

-- a path of a listing, and the letters of its file, if they are known: a byte for each who is asked
-- about
pub record At : Type 0 where
  pub path : List ℕ
  pub letters : Option (List ℕ)

abbrev pub is_at : List ℕ → At → Bool
is_at path at = bytes_eq path at.path

-- one of them has the path; and what is known by the first that has it
abbrev pub has_path : List ℕ → List At → Bool
has_path path ats = list_any (is_at path) ats

abbrev pub letters_for : List ℕ → List At → Option (Option (List ℕ))
letters_for path ats = option_map (λ at. at.letters) (find (is_at path) ats)

abbrev pub known_of : Part → Option (List ℕ)
known_of (Ok letters) = Some letters
known_of (Err fault) = None

-- with the path of a block, unless one of them has it
abbrev pub with_path : List At → Option (List ℕ) → Option (List ℕ) → List At
with_path ats None letters = ats
with_path ats (Some path) letters = if has_path path ats then ats
    else ats ++ record { path = path; letters = letters } ∷ []

abbrev pub with_block : List At → Item → List At
with_block ats item = with_path ats (path_of item.block.text) (known_of item.part)

-- the paths of blocks, each once, with what the first block of it results in
abbrev pub paths_of : List Item → List At
paths_of items = fold with_block [] items
