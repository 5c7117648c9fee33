use Rattle.acl_broker.specs.Ends.{StaysEndOf}
use Rattle.acl_broker.specs.declared.end.End.TheVariants.{Open}
use Rattle.tests_broker.proofs.threads.submit_in_time.Given as goal

abbrev pub invariant-loop : goal.invariant-loop
invariant-loop l = StaysEndOf (Open l.initial.end) (Open l.end)
