use Rattle.std.proofs.Common.{◌≡◌, map, take}
use Rattle.acl_accounts.specs.Accounts.{account_of}
use Rattle.acl_accounts.specs.Views.{view_user}
use Rattle.acl_accounts.proofs.accounts.accounts_of.Given as goal

abbrev pub invariant-loop-row : goal.invariant-loop-row
invariant-loop-row l = l.users.items ≡ map (λ row. account_of (view_user row)) (take l.row-index l.rows)
