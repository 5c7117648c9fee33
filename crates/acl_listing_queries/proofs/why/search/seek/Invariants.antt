use Rattle.acl_listing_queries.specs.WhySteps.{IsSought, asked_by}
use Rattle.acl_listing_queries.proofs.why.search.seek.Given as goal

-- the blocks so far don't have the path
abbrev pub invariant-loop : goal.invariant-loop
invariant-loop g l = IsSought (asked_by l.question).names l.path l.initial.blocks.coming l.blocks.coming l.way
