use Rattle.std.proofs.Common.{◌≡◌}
use Rattle.acl_listings.specs.FaultyLine.{line_at}
use Rattle.acl_listings.proofs.faulty.line_at.Given as goal

-- so many lines further on
abbrev pub invariant-loop-lines : goal.invariant-loop-lines
invariant-loop-lines l = line_at l.rest l.lines ≡ line_at l.fn.text l.fn.before

abbrev pub decreases-loop-lines : goal.decreases-loop-lines
decreases-loop-lines l = l.lines
