use Rattle.acl_listings.specs.Cursor.{Stays, blocks_to_come}
use Rattle.acl_listings.specs.Source.{bytes_to_come}
use Rattle.acl_listings.proofs.steps.skip_empty_lines.Given as goal

-- the lines so far belong to no block
abbrev pub invariant-loop : goal.invariant-loop
invariant-loop g l = record { coming : Stays (blocks_to_come l.fn.line (bytes_to_come l.initial.source)) (blocks_to_come l.line (bytes_to_come l.source)) }
