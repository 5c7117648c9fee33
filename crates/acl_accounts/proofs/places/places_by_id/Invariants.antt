use Rattle.std.proofs.Common.{◌≡◌, ◌≤◌, ◌==◌, ℕ, nat_eq, drop, length}
use Rattle.std.specs.HashMap.{get}
use Rattle.std.specs.List.{position_from}
use Rattle.acl_accounts.proofs.places.places_by_id.Given as goal

-- of the members from the place on, each id has the first
abbrev pub invariant-loop-place : goal.invariant-loop-place
invariant-loop-place g l = record {
  within : l.place ≤ length l.members;
  first : (id : ℕ) → get nat_eq l.places id ≡ position_from (λ member. g.T.Numbered.id_of member == id) l.place (drop l.place l.members);
}

abbrev pub decreases-loop-place : goal.decreases-loop-place
decreases-loop-place g l = l.place
