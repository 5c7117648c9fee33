use Rattle.std.proofs.Common.{◌≡◌, map, take}
use Rattle.acl_bridge.specs.Files.{view_acl}
use Rattle.acl_access.specs.Standings.{standing_of}
use Rattle.acl_access.proofs.standing.standings_of_each.Given as goal

-- those of the requesters so far
abbrev pub invariant-loop-requester : goal.invariant-loop-requester
invariant-loop-requester l = l.standings.items ≡ map (standing_of l.sticky (view_acl l.file)) (take l.requester-index l.requesters)
