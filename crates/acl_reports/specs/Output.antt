-- What stands on standard output of an answer about a listing.
use Rattle.std.specs.Prelude.{◌≡◌, ℕ, List, [], ◌++◌, IfSome, Option}
use Rattle.acl_listings.specs.Cursor.{blocks_to_come}
use Rattle.acl_reports.specs.Listed.{Item, Part, items_after, reported}

-- the text is what is reported for the blocks of a listing with these bytes, if they are known
abbrev pub Prints : (List (List ℕ) → List ℕ → Part) → Option (List ℕ) → List ℕ → Type 0
Prints part bytes text = IfSome (blocks_to_come 1 bytes) (λ blocks.
    text ≡ reported (items_after part [] blocks))

-- it is what is reported for the first of them
abbrev pub PrintsFront : (List (List ℕ) → List ℕ → Part) → Option (List ℕ) → List ℕ → Type 0
PrintsFront part bytes text = IfSome (blocks_to_come 1 bytes) (λ blocks.
    (first : List Item) × (rest : List Item) × (items_after part [] blocks ≡ first ++ rest)
    × (text ≡ reported first))
