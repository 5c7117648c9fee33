use Rattle.acl_wire.proofs.KeepingGrants.{modes_stand}
use Rattle.acl_wire.proofs.KeepingLemmas.{last_counts}
use Rattle.acl_wire.proofs.laws.keeping_laws.Goals as goal

pub returns-clause-stands : goal.returns-clause-stands
returns-clause-stands c = modes_stand

pub returns-clause-last : goal.returns-clause-last
returns-clause-last c = last_counts
