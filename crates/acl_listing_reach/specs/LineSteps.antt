-- How the lines of people are reported by their places. Private steps, which no public clause
-- cites.
use Rattle.std.specs.Prelude.{ℕ, List, [], slice_get}
use Rattle.std.specs.Option.{option_map_or}
use Rattle.acl_people.specs.Person.{Person}
use Rattle.acl_listing_reach.specs.ReachText.{line_for}

-- the line of who is at a place, if somebody is
abbrev pub line_there : List Person → List ℕ → List ℕ → List ℕ → ℕ → List ℕ
line_there persons old new path place =
    option_map_or (λ person. line_for old new path (place, person)) (slice_get persons place) []
