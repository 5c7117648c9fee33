use Rattle.std.proofs.Common.{◌≡◌, length}
use Rattle.acl_names.specs.Pieces.{pieces}
use Rattle.acl_listings.specs.FaultyLine.{room_behind}
use Rattle.acl_listings.proofs.faulty.room_behind.Given as goal

-- the pieces that are still to come decide
abbrev pub invariant-loop-piece : goal.invariant-loop-piece
invariant-loop-piece g l =
    room_behind (g.N.ResolveNames.names l.names) l.kind l.left l.pieces ≡ room_behind (g.N.ResolveNames.names l.names) l.kind l.fn.room (pieces l.text)

abbrev pub decreases-loop-piece : goal.decreases-loop-piece
decreases-loop-piece g l = length l.pieces
