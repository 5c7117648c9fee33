-- Lists of members with a name and an id.
use Rattle.std.specs.Prelude.{◌≡◌, ℕ, ◌==◌, List, find, map, option_map}
use Rattle.std.specs.List.{enumerate_from, position_from}
use Rattle.std.specs.Ordering.{nat_cmp}
use Rattle.acl_names.specs.Ascending.{IsAscending}

-- the id of each member with its place
abbrev pub ids_with_places : {X : Type 0} → (X → ℕ) → List X → List (ℕ × ℕ)
ids_with_places id_of members = map (λ entry. (id_of entry.1, entry.0)) (enumerate_from 0 members)

-- the index ascends, and has for each id the place of the first member with it
pub record IsIndexOf {X : Type 0} (id_of : X → ℕ) (members : List X) (index : List (ℕ × ℕ)) : Type 0
  where
    pub ascends : IsAscending nat_cmp (λ entry. entry.0) index
    pub places : (id : ℕ) → option_map (λ entry. entry.1) (find (λ entry. entry.0 == id) index)
        ≡ position_from (λ member. id_of member == id) 0 members
