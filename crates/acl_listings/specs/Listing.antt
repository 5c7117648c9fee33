-- What the blocks of a listing are.
use Rattle.std.specs.Prelude.{ℕ, ◌==◌, Bool, List, [], ◌∷◌, length, map, Option, Some, None}
use Rattle.std.specs.List.{enumerate_from, filter_map, join_with_byte, slice_split}
use Rattle.acl_names.specs.Bytes.{newline}
use Rattle.acl_names.specs.Pieces.{lines_of}

-- a block: the number of its first line, and its lines as a text
pub record Block : Type 0 where
  pub line : ℕ
  pub text : List ℕ

abbrev pub is_empty_line : ℕ × List ℕ → Bool
is_empty_line line = length line.1 == 0

-- numbered lines as a block; no lines are none
abbrev pub block_of : List (ℕ × List ℕ) → Option Block
block_of [] = None
block_of (line ∷ lines) = Some (record {
  line = line.0;
  text = join_with_byte newline (map (λ each. each.1) (line ∷ lines));
})

-- the blocks of a text whose first line has this number: its lines, separated at the empty ones
abbrev pub blocks_from : ℕ → List ℕ → List Block
blocks_from number text =
    filter_map block_of (slice_split is_empty_line (enumerate_from number (lines_of text)))

-- the blocks of a listing, whose lines are numbered from 1
abbrev pub blocks_of : List ℕ → List Block
blocks_of text = blocks_from 1 text
