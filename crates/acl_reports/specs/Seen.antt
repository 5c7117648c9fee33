-- The blocks of a listing that were seen, and those still to come. Private steps, which no public
-- clause cites.
use Rattle.std.specs.Prelude.{◌≡◌, List, ◌++◌, Option, Some, None}
use Rattle.acl_listings.specs.Listing.{Block}

-- the blocks that were to come, if they are known, are those that were seen and those still left
abbrev pub Splits : Option (List Block) → List Block → Option (List Block) → Type 0
Splits None seen left = Unit {0}
Splits (Some blocks) seen None = ⊥
Splits (Some blocks) seen (Some left) = blocks ≡ seen ++ left
