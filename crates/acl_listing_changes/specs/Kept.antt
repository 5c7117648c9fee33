-- Where the blocks of a listing in memory stand. Private steps, which no public clause cites.
use Rattle.std.specs.Prelude.{◌≡◌, ℕ, suc, Bool, false, List, [], ◌∷◌, Option, Some, None}
use Rattle.std.specs.Prelude.{IfSome, if◌then◌else◌, nat_lt, option_map}
use Rattle.std.specs.Option.{option_and_then, option_map_or}
use Rattle.acl_listings.specs.Block.{path_of}
use Rattle.acl_listings.specs.Listing.{Block}
use Rattle.acl_reports.specs.Paths.{has_path}
use Rattle.acl_listing_changes.specs.declared.between.kept.KeptBlock.{KeptBlock}

abbrev pub block_of : KeptBlock → Block
block_of kept = record { line = kept.line; text = kept.text.items }

-- the first place where the test passes
abbrev pub first_place : {X : Type 0} → (X → Bool) → List X → Option ℕ
first_place test [] = None
first_place test (item ∷ items) = if test item then Some 0
    else option_map suc (first_place test items)

-- the place of the first block that has the path of this text, if there are both
abbrev pub place_of : List Block → List ℕ → Option ℕ
place_of blocks text = option_and_then (λ path. first_place (has_path path) blocks) (path_of text)

-- a place that was found stands before this one
abbrev pub is_earlier : ℕ → Option ℕ → Bool
is_earlier place found = option_map_or (λ first. nat_lt first place) found false

-- all blocks that were to come are these, if it is known which
abbrev pub AreAll : Option (List Block) → List Block → Type 0
AreAll coming blocks = IfSome coming (λ known. known ≡ blocks)
