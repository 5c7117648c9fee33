-- Items with their places in a list.
use Rattle.std.specs.Prelude.{List, [], ◌∷◌, ◌++◌}

-- one of the items, and those before it
pub record Placed (A : Type 0) : Type 0 where
  pub earlier : List A
  pub here : A

-- each item, after these
abbrev pub in_places_after : {A : Type 0} → List A → List A → List (Placed A)
in_places_after earlier [] = []
in_places_after earlier (here ∷ more) =
    record { earlier = earlier; here = here } ∷ in_places_after (earlier ++ here ∷ []) more

-- each item with its place
abbrev pub in_places : {A : Type 0} → List A → List (Placed A)
in_places items = in_places_after [] items
