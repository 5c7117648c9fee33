use Rattle.std.proofs.Common.{◌≡◌, take}
use Rattle.std.specs.List.{zip}
use Rattle.acl_access.specs.Marks.{places_from}
use Rattle.acl_access.specs.Standings.{takes_each}
use Rattle.acl_access.proofs.standing.places_of_takers.Given as goal

-- the places so far
abbrev pub invariant-loop-place : goal.invariant-loop-place
invariant-loop-place l = l.places.items ≡ places_from takes_each 0 (take l.place (zip l.folder l.file))
