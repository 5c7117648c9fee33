use Rattle.std.proofs.Common.{nat_cmp}
use Rattle.std.specs.Cmp.Lexicographic.{slice_cmp}
use Rattle.std.proofs.lemmas.Result.{IfOk-weaker}
use Rattle.acl_accounts.specs.Accounts.{KnownAccount, account_of}
use Rattle.acl_accounts.specs.Views.{view_user}
use Rattle.acl_accounts.specs.declared.rows.UserRow.{UserRow}
use Rattle.acl_accounts.proofs.ResultLemmas.{ascends-map, users_found}
use Rattle.acl_accounts.proofs.accounts.users_by_name.Goals as goal

pub returns-clause-order : goal.returns-clause-order
returns-clause-order c =
    IfOk-weaker c.accounts_of.result _ _
    (λ users are. rw are (ascends-map (slice_cmp nat_cmp) (λ (user : KnownAccount). user.name) (λ (row : UserRow). account_of (view_user row)) c.in_ok-firsts.firsts.items c.in_ok-firsts.ensures.ascends))
    (rw c.deref.ensures.value at c.accounts_of.ensures)

pub returns-clause-found : goal.returns-clause-found
returns-clause-found c =
    IfOk-weaker c.accounts_of.result _ _
    (λ users are. rw are (users_found c.args.rows.now c.in_ok-firsts.firsts.items c.in_ok-firsts.ensures))
    (rw c.deref.ensures.value at c.accounts_of.ensures)
