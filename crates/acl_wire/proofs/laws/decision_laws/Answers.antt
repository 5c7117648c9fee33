use Rattle.acl_wire.proofs.DecisionLemmas.{lists_decide}
use Rattle.acl_wire.proofs.ValuesLemmas.{are_values, values_decide}
use Rattle.acl_wire.proofs.laws.decision_laws.Goals as goal

pub returns-clause-lists : goal.returns-clause-lists
returns-clause-lists c = lists_decide

pub returns-clause-values : goal.returns-clause-values
returns-clause-values c = values_decide

pub returns-clause-are_values : goal.returns-clause-are_values
returns-clause-are_values c = are_values
