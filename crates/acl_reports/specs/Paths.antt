-- Which blocks of a listing have a path.
use Rattle.std.specs.Prelude.{ℕ, Bool, false, List, [], ◌∷◌, Option, Some, None, bytes_eq}
use Rattle.std.specs.List.{find, list_any}
use Rattle.std.specs.Option.{option_and_then, option_map_or}
use Rattle.acl_listings.specs.Block.{path_of}
use Rattle.acl_listings.specs.Listing.{Block}

-- a block has the path in its first line, whether it is malformed or not
abbrev pub has_path : List ℕ → Block → Bool
has_path path block = option_map_or (bytes_eq path) (path_of block.text) false

-- one of the blocks has it
abbrev pub is_among : List ℕ → List Block → Bool
is_among path blocks = list_any (has_path path) blocks

-- one of the blocks has the path of this text
abbrev pub lists : List Block → List ℕ → Bool
lists blocks text = option_map_or (λ path. is_among path blocks) (path_of text) false

-- the first block that has it
abbrev pub block_for : List Block → List ℕ → Option Block
block_for blocks text = option_and_then (λ path. find (has_path path) blocks) (path_of text)

-- the first path that there is
abbrev pub or_first : Option (List ℕ) → Option (List ℕ) → Option (List ℕ)
or_first (Some path) other = Some path
or_first None other = other

abbrev pub first_path : List Block → Option (List ℕ)
first_path [] = None
first_path (block ∷ blocks) = or_first (path_of block.text) (first_path blocks)
