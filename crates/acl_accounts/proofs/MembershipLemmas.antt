-- What is seen of memberships.
use Rattle.std.proofs.Common.{◌≡◌, ◌∙◌, ℕ, List, [], ◌∷◌, map, filter, bytes_eq, refl, ap}
use Rattle.acl_accounts.specs.Accounts.{gids_with}
use Rattle.acl_accounts.specs.Accounts as accounts
use Rattle.acl_accounts.specs.Views.{view_membership}
use Rattle.acl_accounts.specs.declared.memberships.Membership.{Membership}
use Rattle.acl_accounts.proofs.SortLemmas.{map-filter}

gids_map : (members : List Membership) → map (λ (member : Membership). member.gid) members ≡ map (λ (member : accounts.Membership). member.gid) (map view_membership members)
gids_map [] = refl
gids_map (member ∷ members) = ap (λ gids. member.gid ∷ gids) (gids_map members)

pub gids_seen : (name : List ℕ) (members : List Membership)
    → map (λ (member : Membership). member.gid) (filter (λ (member : Membership). bytes_eq member.name.now name) members) ≡ gids_with name (map view_membership members)
gids_seen name members =
    gids_map (filter (λ (member : Membership). bytes_eq member.name.now name) members)
    ∙ ap (map (λ (member : accounts.Membership). member.gid)) (map-filter view_membership (λ (member : accounts.Membership). bytes_eq member.name name) members)
