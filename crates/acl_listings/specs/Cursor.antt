-- What a cursor over the blocks of a listing returns.
use Rattle.std.specs.Prelude.{◌≡◌, ℕ, ◌+◌, List, [], ◌∷◌, map, option_map, take, Option, Some, None}
use Rattle.std.specs.Prelude.{⊤}
use Rattle.acl_listings.specs.Listing.{Block, blocks_from}
use Rattle.acl_listings.specs.declared.limits.TheConstants.{MAX_BLOCK}
use Rattle.acl_listings.specs.declared.window.ReadFault.{ReadFault}

-- a block as the cursor returns it: of one that is too long, one byte more than a block may have
abbrev pub as_handed_out : Block → Block
as_handed_out block = record { line = block.line; text = take (MAX_BLOCK + 1) block.text }

-- the blocks of a text whose first line has this number, as the cursor returns them
abbrev pub blocks_handed_from : ℕ → List ℕ → List Block
blocks_handed_from number text = map as_handed_out (blocks_from number text)

-- those of bytes that are still to come, if these are known
abbrev pub blocks_to_come : ℕ → Option (List ℕ) → Option (List Block)
blocks_to_come number text = option_map (blocks_handed_from number) text

-- the blocks that are still to come, if the reader reports its bytes; the current block; and the
-- fault that ended the reading
pub record CursorValue : Type 0 where
  pub coming : Option (List Block)
  pub block : Block
  pub fault : Option ReadFault

-- before the first block
abbrev pub no_block : Block
no_block = record { line = 0; text = [] }

-- known blocks stay as they were
abbrev pub Stays : Option (List Block) → Option (List Block) → Type 0
Stays None new = ⊤
Stays (Some blocks) None = ⊥
Stays (Some blocks) (Some more) = more ≡ blocks

-- this was the first of known blocks
abbrev pub HandsOut : Option (List Block) → Block → Option (List Block) → Type 0
HandsOut None block new = ⊤
HandsOut (Some blocks) block None = ⊥
HandsOut (Some blocks) block (Some more) = blocks ≡ block ∷ more

-- no known block is left
abbrev pub IsOver : Option (List Block) → Type 0
IsOver None = ⊤
IsOver (Some blocks) = blocks ≡ []
