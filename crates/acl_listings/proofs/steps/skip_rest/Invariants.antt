use Rattle.acl_listings.specs.Source.{bytes_to_come}
use Rattle.acl_listings.proofs.StepsLemmas.{HasGoneOn}
use Rattle.acl_listings.proofs.steps.skip_rest.Given as goal

-- what was taken goes on the block
abbrev pub invariant-loop : goal.invariant-loop
invariant-loop g l = record { gone : HasGoneOn (bytes_to_come l.initial.source) (bytes_to_come l.source) l.fn.line l.line }
