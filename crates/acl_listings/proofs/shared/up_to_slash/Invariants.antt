use Rattle.std.proofs.Common.{◌≤◌}
use Rattle.acl_listings.proofs.shared.up_to_slash.Given as goal

-- it ends no later than at first
abbrev pub invariant-loop-end : goal.invariant-loop-end
invariant-loop-end l = l.end ≤ l.len

abbrev pub decreases-loop-end : goal.decreases-loop-end
decreases-loop-end l = l.end
