use Rattle.std.proofs.Common.{◌≡◌, ◌∷◌, map, take}
use Rattle.acl_accounts.specs.Accounts.{each_once}
use Rattle.acl_accounts.specs.Seen.{HaveBeenSeen}
use Rattle.acl_accounts.proofs.memberships.gids_of.Given as goal

abbrev pub invariant-loop-member : goal.invariant-loop-member
invariant-loop-member l = record {
  gids : l.gids.items ≡ each_once (l.fn.gid ∷ map (λ member. member.gid) (take l.member-index l.memberships));
  seen : HaveBeenSeen l.gids.items l.seen;
}
