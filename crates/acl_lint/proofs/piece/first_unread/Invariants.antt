use Rattle.std.proofs.Common.{◌≡◌, ◌-◌, take}
use Rattle.acl_lint.specs.Places.{first_unread, unread_in}
use Rattle.acl_lint.proofs.piece.first_unread.Given as goal

-- those so far read
abbrev pub invariant-loop-number : goal.invariant-loop-number
invariant-loop-number g l = record {
  left : first_unread (g.R.PieceReader.value_of l.reader) l.number (take (l.most - l.number) l.pieces) ≡ unread_in (g.R.PieceReader.value_of l.reader) l.most l.text;
}
