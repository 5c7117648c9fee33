use Rattle.std.proofs.Common.{◌≡◌, ◌++◌, map, take}
use Rattle.std.specs.List.{enumerate_from, flat_map}
use Rattle.acl_listing_queries.specs.ViaSteps.{decided_line_at, shown_if}
use Rattle.acl_listing_queries.proofs.who.decided.push_decided_lines.Given as goal

-- the lines of the names so far
abbrev pub invariant-loop-place : goal.invariant-loop-place
invariant-loop-place l =
    l.out.items ≡ l.fn.out.items ++ flat_map (decided_line_at l.path (map shown_if l.decided) l.reach) (enumerate_from 0 (take l.place (map (λ name. name.items) l.names)))
