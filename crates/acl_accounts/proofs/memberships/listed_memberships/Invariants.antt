use Rattle.std.proofs.Common.{◌≡◌, map, take}
use Rattle.acl_accounts.specs.Accounts.{memberships_of}
use Rattle.acl_accounts.specs.Views.{view_group, view_membership}
use Rattle.acl_accounts.proofs.memberships.listed_memberships.Given as goal

abbrev pub invariant-loop-group : goal.invariant-loop-group
invariant-loop-group l = map view_membership l.memberships.items ≡ memberships_of (map view_group (take l.group-index l.groups))
