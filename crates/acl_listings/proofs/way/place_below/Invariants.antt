use Rattle.std.proofs.Common.{◌≡◌, length}
use Rattle.acl_listings.specs.Way.{steps_among, steps_behind, steps_of}
use Rattle.acl_listings.proofs.way.place_below.Given as goal

-- what is left of the steps behind what is left of the folder's is what there was
abbrev pub invariant-loop-first : goal.invariant-loop-first
invariant-loop-first l = steps_behind (steps_among l.folder) (steps_among l.steps) ≡ steps_behind (steps_of l.above) (steps_of l.path)

abbrev pub decreases-loop-first : goal.decreases-loop-first
decreases-loop-first l = length (steps_among l.folder)
