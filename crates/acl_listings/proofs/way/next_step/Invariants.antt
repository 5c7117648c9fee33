use Rattle.std.proofs.Common.{◌≡◌, length}
use Rattle.acl_listings.specs.Way.{steps_among}
use Rattle.acl_listings.proofs.way.next_step.Given as goal

-- the steps that are left are all that there were
abbrev pub invariant-loop-part : goal.invariant-loop-part
invariant-loop-part l = steps_among l.parts ≡ steps_among l.fn.parts

abbrev pub decreases-loop-part : goal.decreases-loop-part
decreases-loop-part l = length l.parts
