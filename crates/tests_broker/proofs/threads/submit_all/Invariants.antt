use Rattle.acl_broker.specs.Ends.{StaysEndOf}
use Rattle.acl_broker.specs.declared.end.End.TheVariants.{Open}
use Rattle.tests_broker.proofs.threads.submit_all.Given as goal

abbrev pub invariant-loop-item : goal.invariant-loop-item
invariant-loop-item l = StaysEndOf (Open l.initial.end) (Open l.end)
