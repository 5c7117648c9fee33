use Rattle.std.proofs.Common.{◌≡◌, ◌+◌, Some, drop, length, take}
use Rattle.acl_names.specs.Bytes.{newline}
use Rattle.acl_names.specs.Pieces.{parts}
use Rattle.acl_listings.specs.FaultyLine.{most, room_behind}
use Rattle.acl_listings.specs.ListLines.{pieces_in}
use Rattle.acl_listings.proofs.faulty.bad_line.Given as goal

-- the lines so far read, and there is so much room behind them
abbrev pub invariant-loop-line : goal.invariant-loop-line
invariant-loop-line g l = record {
  rest : l.lines ≡ drop l.before (parts newline l.list);
  read : room_behind (g.N.ResolveNames.names l.names) l.kind (most l.kind) (pieces_in l.kind (take l.before (parts newline l.list))) ≡ Some l.room;
  count : l.before + length l.lines ≡ length (parts newline l.list);
}

abbrev pub decreases-loop-line : goal.decreases-loop-line
decreases-loop-line g l = length l.lines
