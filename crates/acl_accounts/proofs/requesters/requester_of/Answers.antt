use Rattle.std.proofs.Common.{◌∙◌, ◌∷◌, ap, map, filter, bytes_eq, List, ℕ}
use Rattle.acl_names.specs.Requester.{Identity}
use Rattle.acl_accounts.specs.declared.memberships.Membership.{Membership}
use Rattle.acl_accounts.specs.Accounts.{each_once}
use Rattle.acl_accounts.proofs.MembershipLemmas.{gids_seen}
use Rattle.acl_accounts.proofs.requesters.requester_of.Goals as goal

abbrev gids_in : ℕ → List Membership → List ℕ
gids_in gid members = each_once (gid ∷ map (λ (member : Membership). member.gid) members)

pub returns : goal.returns
returns c =
    let user = c.args.user.now in
    let members = c.args.memberships.now in
    let gids = c.in_ok-gids.ensures
    ∙ ap (λ gid. gids_in gid c.memberships_with.result.now) c.gid.ensures
    ∙ ap (gids_in user.gid) c.memberships_with.ensures
    ∙ ap (λ name. gids_in user.gid (filter (λ (member : Membership). bytes_eq member.name.now name) members)) c.name.ensures
    ∙ ap (λ gids. each_once (user.gid ∷ gids)) (gids_seen user.name members) in
    c.new.ensures ∙ ap (λ uid. requester uid c.in_ok-gids.gids.items) c.uid.ensures ∙ ap (requester user.uid) gids
  where
    requester : ℕ → List ℕ → Identity
    requester uid gids = record { uid = uid; gids = gids }
