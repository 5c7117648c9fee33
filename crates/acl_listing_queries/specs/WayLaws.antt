-- Which folders are above a file of a listing.
use Rattle.std.specs.Prelude.{◌≡◌, ◌++◌, ⊤, ◌⊎◌, ℕ, Bool, true, false, List, [], ◌∷◌, Option}
use Rattle.std.specs.Prelude.{Some, IsSome, if◌then◌else◌, reverse}
use Rattle.std.specs.List.{filter, list_any}
use Rattle.acl_listings.specs.Way.{is_above, place_below}
use Rattle.acl_listings.specs.declared.way.Place.TheVariants.{Same}
use Rattle.acl_listing_queries.specs.Readings.{Reading}
use Rattle.acl_listing_queries.specs.Ways.{known_way, may_be_above, those_above, way_of}
use Rattle.acl_listing_queries.specs.WhoSteps.{lacks_path}

-- ---- a listing whose folders stand before what is in them

abbrev pub is_in : Reading → Reading → Bool
is_in folder reading = may_be_above folder.path reading.path

-- those at the prefix that are in a folder
abbrev pub first_in : Reading → List Reading → List Reading
first_in folder [] = []
first_in folder (reading ∷ more) =
    if is_in folder reading then reading ∷ first_in folder more else []

-- None of those behind a block is above it, and all that is in it stands directly behind it.
abbrev pub AreInPreOrder : List Reading → Type 0
AreInPreOrder [] = ⊤
AreInPreOrder (reading ∷ more) = (those_above reading more ≡ [])
    × (filter (is_in reading) more ≡ first_in reading more) × AreInPreOrder more

-- Of blocks in that order whose paths read, the way to one of them is all that are above it.
abbrev pub WaysAreAllAbove : Type 0
WaysAreAllAbove = (before : List Reading) (here : Reading) (after : List Reading)
    → list_any lacks_path (before ++ here ∷ after) ≡ false
    → AreInPreOrder (before ++ here ∷ after)
    → way_of before here ≡ reverse (those_above here (before ++ here ∷ after))

-- ---- a listing in any order

-- a block of a listing, what stands before it, and what stands behind
pub record IsPlaced (blocks before : List Reading) (here : Reading) : Type 0 where
  pub after : List Reading
  pub are : blocks ≡ before ++ here ∷ after

-- the path of each block reads, and its way is known
pub record AreWaysKnown (blocks : List Reading) : Type 0 where
  pub paths : list_any lacks_path blocks ≡ false
  pub ways : (before : List Reading) (here : Reading) → IsPlaced blocks before here
      → IsSome (known_way before here)

-- the first path is above the second
abbrev pub IsAbove : Option (List ℕ) → Option (List ℕ) → Type 0
IsAbove (Some folder) (Some path) = is_above folder path ≡ true
IsAbove _ _ = ⊥

-- both lead to one place
abbrev pub AreAtOnePlace : Option (List ℕ) → Option (List ℕ) → Type 0
AreAtOnePlace (Some one) (Some other) = place_below one other ≡ Same
AreAtOnePlace _ _ = ⊥

-- one of the folders on a way is where the path leads
abbrev pub HasFolderAt : List Reading → Option (List ℕ) → Type 0
HasFolderAt [] path = ⊥
HasFolderAt (folder ∷ above) path = AreAtOnePlace folder.path path ⊎ HasFolderAt above path

-- Whatever the order of the blocks, if the way to one is known, it has all that stand before the
-- block and are above it.
abbrev pub WaysHaveAllBefore : Type 0
WaysHaveAllBefore = (before : List Reading) (here : Reading) → IsSome (known_way before here)
    → (earlier : List Reading) (other : Reading) → IsPlaced before earlier other
    → IsAbove other.path here.path → HasFolderAt (way_of before here) other.path

-- And if all their ways are known, the way to each has all that the listing has above it.
abbrev pub WaysHaveAllAbove : Type 0
WaysHaveAllAbove = (blocks : List Reading) → AreWaysKnown blocks
    → (before : List Reading) (here : Reading) → IsPlaced blocks before here
    → (earlier : List Reading) (other : Reading) → IsPlaced blocks earlier other
    → IsAbove other.path here.path → HasFolderAt (way_of before here) other.path
