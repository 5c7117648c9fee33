use Rattle.std.proofs.Common.{◌≡◌, ◌++◌, map, take}
use Rattle.std.specs.List.{enumerate_from, flat_map}
use Rattle.acl_posix.specs.Perms.{bits_of}
use Rattle.acl_listing_queries.specs.WhoSteps.{number_there}
use Rattle.acl_listing_queries.proofs.who.lines.push_numbers.Given as goal

-- the numbers of the names so far
abbrev pub invariant-loop-place : goal.invariant-loop-place
invariant-loop-place l =
    l.out.items ≡ l.fn.out.items ++ flat_map (λ here. number_there (map bits_of l.letters) l.reach here.0) (enumerate_from 0 (take l.place (map (λ name. name.items) l.names)))
