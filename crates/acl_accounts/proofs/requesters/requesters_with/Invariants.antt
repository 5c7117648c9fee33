use Rattle.std.proofs.Common.{◌≡◌, map, take}
use Rattle.acl_accounts.specs.Accounts.{requester_with}
use Rattle.acl_accounts.specs.Views.{view_membership}
use Rattle.acl_accounts.proofs.requesters.requesters_with.Given as goal

abbrev pub invariant-loop-user : goal.invariant-loop-user
invariant-loop-user l = l.requesters.items ≡ map (requester_with (map view_membership l.memberships)) (take l.user-index l.users)
