use Rattle.std.proofs.Common.{◌≡◌, ◌≤◌, ◌++◌, List, ℕ, length}
use Rattle.acl_names.specs.Pieces.{pieces}
use Rattle.acl_names.specs.ListText.{PiecesSay}
use Rattle.acl_names.proofs.text.list.read_pieces.Given as goal

abbrev pub invariant-loop-piece : goal.invariant-loop-piece
invariant-loop-piece g l = record {
  front : List (List ℕ);
  cut : pieces l.text ≡ front ++ l.pieces;
  said : PiecesSay (g.R.PieceReader.value_of l.reader) front l.list.items;
  within : length l.list.items ≤ l.limit;
  room : g.row.N ≤ l.list.capacity;
}

abbrev pub decreases-loop-piece : goal.decreases-loop-piece
decreases-loop-piece g l = length l.pieces
