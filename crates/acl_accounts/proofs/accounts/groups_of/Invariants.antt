use Rattle.std.proofs.Common.{◌≡◌, map, take}
use Rattle.acl_accounts.specs.Accounts.{group_of}
use Rattle.acl_accounts.specs.Views.{view_group}
use Rattle.acl_accounts.proofs.accounts.groups_of.Given as goal

abbrev pub invariant-loop-row : goal.invariant-loop-row
invariant-loop-row l = l.groups.items ≡ map (λ row. group_of (view_group row)) (take l.row-index l.rows)
