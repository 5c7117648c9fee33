use Rattle.std.proofs.Common.{◌≡◌, ◌++◌, map, take}
use Rattle.acl_listing_queries.specs.WhoSteps.{may_lines}
use Rattle.acl_listing_queries.proofs.who.lines.push_may_lines.Given as goal

-- a line for each place so far
abbrev pub invariant-loop-place : goal.invariant-loop-place
invariant-loop-place l = l.out.items ≡ l.fn.out.items ++ may_lines l.path (map (λ name. name.items) l.names) (take l.place-index l.places) l.reach
