-- What is kept for many users at once, by their places among them. Private steps, which no public
-- clause of another crate needs to be believed for.
use Rattle.std.specs.Prelude.{ℕ, ◌+◌, ◌&&◌, Bool, false, List, [], ◌∷◌, get_or, if◌then◌else◌, map}
use Rattle.std.specs.List.{enumerate_from}

-- the places, from this one on, where the test passes
abbrev pub places_from : {X : Type 0} → (X → Bool) → ℕ → List X → List ℕ
places_from test place [] = []
places_from test place (item ∷ items) =
    if test item then place ∷ places_from test (place + 1) items
    else places_from test (place + 1) items

-- whether the place is set
abbrev pub is_set : List Bool → ℕ → Bool
is_set marks place = get_or marks place false

-- for each place of the one whether it is set in both
abbrev pub mark_in_both : List Bool → ℕ × Bool → Bool
mark_in_both other here = here.1 && is_set other here.0

abbrev pub both : List Bool → List Bool → List Bool
both one other = map (mark_in_both other) (enumerate_from 0 one)

-- the letters at a place, if its user reaches the file
abbrev pub letters_at : List ℕ → List Bool → ℕ → ℕ
letters_at letters reach place = if is_set reach place then get_or letters place 0 else 0
