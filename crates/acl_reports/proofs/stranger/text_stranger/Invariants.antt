use Rattle.std.proofs.Common.{◌≡◌, length}
use Rattle.acl_names.specs.Pieces.{pieces}
use Rattle.acl_reports.specs.Strangers.{first_stranger}
use Rattle.acl_reports.proofs.stranger.text_stranger.Given as goal

-- the pieces that are still to come decide
abbrev pub invariant-loop-piece : goal.invariant-loop-piece
invariant-loop-piece l = first_stranger l.host l.form l.pieces ≡ first_stranger l.host l.form (pieces l.text)

abbrev pub decreases-loop-piece : goal.decreases-loop-piece
decreases-loop-piece l = length l.pieces
