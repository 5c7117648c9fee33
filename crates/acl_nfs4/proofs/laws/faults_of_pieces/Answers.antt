use Rattle.acl_nfs4.proofs.PieceFaultLemmas.{no_shape, unknown_name, no_effect}
use Rattle.acl_nfs4.proofs.laws.faults_of_pieces.Goals as goal

pub returns-clause-syntax : goal.returns-clause-syntax
returns-clause-syntax c = no_shape

pub returns-clause-unknown_name : goal.returns-clause-unknown_name
returns-clause-unknown_name c = unknown_name

pub returns-clause-inherit_only : goal.returns-clause-inherit_only
returns-clause-inherit_only c = no_effect
