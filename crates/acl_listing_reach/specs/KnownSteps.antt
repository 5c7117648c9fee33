-- How the paths of a listing are kept with their letters. Private steps, which no public clause
-- cites.
use Rattle.std.specs.Prelude.{◌≡◌, ◌⊎◌, ◌<◌, ⊤, ℕ, List, [], ◌∷◌, ◌++◌, Option, Some, None, Vec}
use Rattle.std.specs.Prelude.{option_map, slice_get}
use Rattle.std.specs.declared.alloc.Global.{Global}
use Rattle.acl_listing_reach.specs.Once.{At}

-- texts, each in memory of its own
abbrev pub Texts : Type 0
Texts = List (Vec ℕ Global)

-- the letters at a place among all that there are
abbrev pub letters_in : Texts → Option ℕ → Option (List ℕ)
letters_in known None = None
letters_in known (Some place) = option_map (λ letters. letters.items) (slice_get known place)

-- a path is kept with the place of its letters
abbrev pub Kept : Type 0
Kept = Vec ℕ Global × Option ℕ

abbrev pub at_in : Texts → Kept → At
at_in known entry = record { path = entry.0.items; letters = letters_in known entry.1 }

-- each place is one of so many
abbrev pub IsWithin : ℕ → Option ℕ → Type 0
IsWithin count None = ⊤
IsWithin count (Some place) = place < count

abbrev pub AreWithin : ℕ → List Kept → Type 0
AreWithin count [] = ⊤
AreWithin count (entry ∷ entries) = IsWithin count entry.1 × AreWithin count entries

-- more were added behind them
abbrev pub IsGrown : Texts → Texts → Type 0
IsGrown old new = (more : Texts) × (new ≡ old ++ more)

-- no text but this one was added behind them; and none but these letters, if there are any
abbrev pub IsGrownBy : List ℕ → Texts → Texts → Type 0
IsGrownBy text old new = (new ≡ old)
    ⊎ ((one : Vec ℕ Global) × (one.items ≡ text) × (new ≡ old ++ one ∷ []))

abbrev pub IsGrownByAny : Option (List ℕ) → Texts → Texts → Type 0
IsGrownByAny None old new = new ≡ old
IsGrownByAny (Some letters) old new = IsGrownBy letters old new
