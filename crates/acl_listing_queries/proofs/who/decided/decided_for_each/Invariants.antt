use Rattle.std.proofs.Common.{◌≡◌, map, take}
use Rattle.acl_bridge.specs.Files.{view_acl}
use Rattle.acl_listing_queries.specs.ViaSteps.{asked_of, decided_of, shown_if}
use Rattle.acl_listing_queries.proofs.who.decided.decided_for_each.Given as goal

-- those of the requesters so far
abbrev pub invariant-loop-requester : goal.invariant-loop-requester
invariant-loop-requester l = map shown_if l.decided.items ≡ map (decided_of (asked_of l.what) (view_acl l.file)) (take l.requester-index l.requesters)
