use Rattle.std.proofs.Common.{◌∙◌, map}
use Rattle.std.proofs.lemmas.Result.{IfOk-weaker}
use Rattle.acl_accounts.specs.Views.{view_group, view_membership}
use Rattle.acl_accounts.proofs.ResultLemmas.{requesters_asked}
use Rattle.acl_accounts.proofs.requesters.requesters_of.Goals as goal

pub returns : goal.returns
returns c =
    let members = map view_membership c.in_ok-memberships.memberships.items in
    IfOk-weaker c.requesters_with.result _ _
    (λ requesters are. are ∙ requesters_asked (map view_group c.args.groups.now) members c.in_ok-memberships.ensures.kept c.args.users.now)
    (rw c.deref.ensures.value at c.requesters_with.ensures)
