use Rattle.std.proofs.Common.{◌≡◌, ◌++◌, map, length}
use Rattle.acl_accounts.specs.Accounts.{membership}
use Rattle.acl_accounts.specs.Rows.{members_of}
use Rattle.acl_accounts.specs.Views.{view_membership}
use Rattle.acl_accounts.proofs.memberships.push_members.Given as goal

-- the memberships so far, and those of the members to come
abbrev pub invariant-loop-name : goal.invariant-loop-name
invariant-loop-name l =
    map view_membership l.memberships.items ++ map (membership l.group.gid) l.members
    ≡ map view_membership l.fn.memberships.items ++ map (membership l.group.gid) (members_of l.group.members.now)

abbrev pub decreases-loop-name : goal.decreases-loop-name
decreases-loop-name l = length l.members
