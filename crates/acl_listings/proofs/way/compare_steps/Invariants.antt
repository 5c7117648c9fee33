use Rattle.std.proofs.Common.{◌≡◌, length}
use Rattle.acl_listings.specs.Way.{steps_among, steps_cmp, steps_of}
use Rattle.acl_listings.proofs.way.compare_steps.Given as goal

-- what is left of the steps compares as all of them do
abbrev pub invariant-loop-step : goal.invariant-loop-step
invariant-loop-step l = steps_cmp (steps_among l.steps) (steps_among l.others) ≡ steps_cmp (steps_of l.one) (steps_of l.other)

abbrev pub decreases-loop-step : goal.decreases-loop-step
decreases-loop-step l = length (steps_among l.steps)
