use Rattle.acl_posix.proofs.PieceFaultLemmas.{unknown_name, no_shape}
use Rattle.acl_posix.proofs.laws.faults_of_pieces.Goals as goal

pub returns-clause-unknown_name : goal.returns-clause-unknown_name
returns-clause-unknown_name c = unknown_name

pub returns-clause-syntax : goal.returns-clause-syntax
returns-clause-syntax c = no_shape
