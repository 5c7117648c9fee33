use Rattle.std.proofs.Common.{nat_cmp}
use Rattle.std.specs.Cmp.Lexicographic.{slice_cmp}
use Rattle.std.proofs.lemmas.Result.{IfOk-weaker}
use Rattle.acl_accounts.specs.Accounts.{KnownAccountGroup, group_of}
use Rattle.acl_accounts.specs.Views.{view_group}
use Rattle.acl_accounts.specs.declared.rows.GroupRow.{GroupRow}
use Rattle.acl_accounts.proofs.ResultLemmas.{ascends-map, groups_found}
use Rattle.acl_accounts.proofs.accounts.groups_by_name.Goals as goal

pub returns-clause-order : goal.returns-clause-order
returns-clause-order c =
    IfOk-weaker c.groups_of.result _ _
    (λ groups are. rw are (ascends-map (slice_cmp nat_cmp) (λ (group : KnownAccountGroup). group.name) (λ (row : GroupRow). group_of (view_group row)) c.in_ok-firsts.firsts.items c.in_ok-firsts.ensures.ascends))
    (rw c.deref.ensures.value at c.groups_of.ensures)

pub returns-clause-found : goal.returns-clause-found
returns-clause-found c =
    IfOk-weaker c.groups_of.result _ _
    (λ groups are. rw are (groups_found c.args.rows.now c.in_ok-firsts.firsts.items c.in_ok-firsts.ensures))
    (rw c.deref.ensures.value at c.groups_of.ensures)
