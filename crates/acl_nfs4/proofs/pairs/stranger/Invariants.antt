use Rattle.std.proofs.Common.{◌≡◌, ◌<◌, ◌||◌, ℕ, true}
use Rattle.acl_nfs4.specs.Comparison.{is_known, is_needed, tried}
use Rattle.acl_nfs4.proofs.pairs.stranger.Given as goal

-- an entry asks for each user so far, or the user is known
abbrev pub invariant-loop-place : goal.invariant-loop-place
invariant-loop-place g l =
    (k : ℕ) → k < l.place
    → (is_needed g.E.AboutWho.who l.first l.owner l.second l.other_owner (tried k) || is_known l.known (tried k)) ≡ true
