use Rattle.std.proofs.Common.{sym, subst, [], ◌∷◌}
use Rattle.acl_broker.specs.Ends.{AreEndsOf, StaysEndOf}
use Rattle.acl_broker.specs.declared.end.End.TheVariants.{Open}
use Rattle.acl_broker.proofs.EndLists.{two_ends_stay}
use Rattle.tests_broker.proofs.threads.submit_from_two_threads.Goals as goal

pub rejoin-requires : goal.rejoin-requires
rejoin-requires g c =
    let first = c.in_ok-first.first in
    let second = c.in_ok-first.second in
    let sides = c.take_in_turn-in_time.new.taker.sides.items in
    let are : AreEndsOf (Open first ∷ Open second ∷ []) sides =
    c.take_in_turn-in_time.ensures (Open first ∷ Open second ∷ []) (subst (λ ends. AreEndsOf ends c.split-ends.result.1.sides.items) c.in_ok-first.ensures c.split-ends.ensures.ends) in
    subst (λ ends. AreEndsOf ends sides) (sym c.in_ok-vec.ensures.items)
    (two_ends_stay (Open first) (Open second) (Open c.join-first.result.end) (Open c.join-second.result.end) sides are
    (subst (λ end. StaysEndOf (Open end) (Open c.join-first.result.end)) c.in_ok-first-2.ensures c.join-first.ensures)
    (subst (λ end. StaysEndOf (Open end) (Open c.join-second.result.end)) c.in-Ok.ensures c.join-second.ensures))
