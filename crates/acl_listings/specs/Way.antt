-- Which folders are parents of a file, by their paths alone.
use Rattle.std.specs.Prelude.{◌&&◌, ℕ, Bool, true, false, not, List, [], ◌∷◌, length, take, Option}
use Rattle.std.specs.Prelude.{Some, None, bytes_eq, codes, if◌then◌else◌, nat_lt}
use Rattle.std.specs.Cmp.Lexicographic.{slice_cmp}
use Rattle.std.specs.List.{filter}
use Rattle.std.specs.Ordering.{nat_cmp}
use Rattle.std.specs.declared.cmp.Ordering.{Ordering}
use Rattle.acl_names.specs.Pieces.{parts}
use Rattle.acl_listings.specs.declared.way.Place.{Place}
use Rattle.acl_listings.specs.declared.way.Place.TheVariants.{Elsewhere, Same, Inside, Deeper}
use Rattle.acl_listings.specs.declared.way.TheConstants.{SLASH}

-- a part of a path is a step: repeated slashes count as one, and "." is no step
abbrev pub leads : List ℕ → Bool
leads part = nat_lt 0 (length part) && not (bytes_eq part (codes "."))

abbrev pub steps_among : List (List ℕ) → List (List ℕ)
steps_among each = filter leads each

-- the steps of a path, from where it begins
abbrev pub steps_of : List ℕ → List (List ℕ)
steps_of path = steps_among (parts SLASH path)

-- how steps compare: by the first that differ, and else the longer comes after
abbrev pub steps_cmp : List (List ℕ) → List (List ℕ) → Ordering
steps_cmp = slice_cmp (slice_cmp nat_cmp)

-- a path begins at the root, or else where the listing was made
abbrev pub is_absolute : List ℕ → Bool
is_absolute path = bytes_eq (take 1 path) (codes "/")

abbrev pub begin_alike : Bool → Bool → Bool
begin_alike true other = other
begin_alike false other = not other

-- the steps after these, if the steps begin with these
abbrev pub steps_behind : List (List ℕ) → List (List ℕ) → Option (List (List ℕ))
steps_behind [] steps = Some steps
steps_behind (first ∷ more) [] = None
steps_behind (first ∷ more) (step ∷ steps) =
    if bytes_eq first step then steps_behind more steps else None

-- the place of a path with these steps below a folder
abbrev pub place_by : Option (List (List ℕ)) → Place
place_by None = Elsewhere
place_by (Some []) = Same
place_by (Some (step ∷ [])) = Inside
place_by (Some (step ∷ next ∷ steps)) = Deeper

-- where a path is, relative to another folder's path
abbrev pub place_below : List ℕ → List ℕ → Place
place_below above path = if begin_alike (is_absolute above) (is_absolute path)
    then place_by (steps_behind (steps_of above) (steps_of path)) else Elsewhere

abbrev pub is_below : Place → Bool
is_below Elsewhere = false
is_below Same = false
is_below Inside = true
is_below Deeper = true

abbrev pub is_inside : Place → Bool
is_inside Inside = true
is_inside _ = false

-- the one is the path of a parent folder of the other
abbrev pub is_above : List ℕ → List ℕ → Bool
is_above above path = is_below (place_below above path)

-- and of its direct parent
abbrev pub is_folder_of : List ℕ → List ℕ → Bool
is_folder_of folder path = is_inside (place_below folder path)
