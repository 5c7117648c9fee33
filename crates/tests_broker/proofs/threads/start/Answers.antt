use Rattle.std.proofs.Common.{subst}
use Rattle.acl_broker.specs.Ends.{IsEndOf}
use Rattle.acl_broker.specs.declared.end.End.TheVariants.{Open}
use Rattle.tests_broker.proofs.threads.start.Goals as goal

pub spawn_with-requires-clause-keeps : goal.spawn_with-requires-clause-keeps
spawn_with-requires-clause-keeps g c κs within = λ worked stays session taker is.
    stays session taker (subst (λ end. IsEndOf session (Open end) taker) c.of.ensures is)
