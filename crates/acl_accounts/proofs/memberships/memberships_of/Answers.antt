use Rattle.std.proofs.Common.{◌∙◌, sym, ap, map, filter, bytes_eq}
use Rattle.acl_accounts.specs.Accounts as accounts
use Rattle.acl_accounts.specs.Views.{view_membership}
use Rattle.acl_accounts.proofs.SortLemmas.{map-filter}
use Rattle.acl_accounts.proofs.memberships.memberships_of.Goals as goal

pub returns-clause-kept : goal.returns-clause-kept
returns-clause-kept c = λ name.
    let has = λ (member : accounts.Membership). bytes_eq member.name name in
    sym (map-filter view_membership has c.sort_by_name.new.members.items)
    ∙ ap (map view_membership) (c.sort_by_name.ensures.kept name)
    ∙ map-filter view_membership has c.in_ok-memberships.memberships.items
    ∙ ap (filter has) c.in_ok-memberships.ensures
