use Rattle.acl_bridge.proofs.ComparisonPairs.{pairs_suffice_posix}
use Rattle.acl_bridge.proofs.ComparisonRequests.{two_groups_suffice_posix}
use Rattle.acl_bridge.proofs.laws.posix_comparison_laws.Goals as goal

pub returns-clause-pairs : goal.returns-clause-pairs
returns-clause-pairs c = pairs_suffice_posix

pub returns-clause-two_groups : goal.returns-clause-two_groups
returns-clause-two_groups c = two_groups_suffice_posix
