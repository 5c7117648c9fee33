use Rattle.std.proofs.Common.{sym, subst}
use Rattle.acl_broker.specs.Ends.{IsEndOf}
use Rattle.acl_broker.specs.declared.end.End.TheVariants.{Open}
use Rattle.tests_broker.proofs.threads.submit_all.Goals as goal
use Rattle.tests_broker.proofs.threads.submit_all.Goals.{then-in_time, else-in_time}

pub loop-item-preserved : goal.loop-item-preserved
loop-item-preserved c = λ session taker is.
    let was = c.loop-item.invariant session taker is in
    elim c.if-in_time.branch [
      | then-in_time w ↦ subst (λ end. IsEndOf session (Open end) taker) (sym w.end-is) (w.submit_in_time-in_time.ensures session taker was)
      | else-in_time w ↦ subst (λ end. IsEndOf session (Open end) taker) (sym w.end-is) was
    ]
