use Rattle.std.proofs.Common.{drop}
use Rattle.acl_bridge.specs.Comparison.{grants_at}
use Rattle.acl_bridge.proofs.ComparisonFirst.{AreLeft}
use Rattle.acl_bridge.proofs.whole_requests.first_difference.Given as goal

-- the requests so far are granted alike to all
abbrev pub invariant-loop-request : goal.invariant-loop-request
invariant-loop-request l = AreLeft (grants_at l.first l.owners) (grants_at l.second l.other_owners) l.requests (drop l.request-index l.requests)
