use Rattle.acl_nfs4.proofs.ComparisonLemmas.{pairs_suffice, two_groups_suffice}
use Rattle.acl_nfs4.proofs.laws.comparison_laws.Goals as goal

pub returns-clause-pairs : goal.returns-clause-pairs
returns-clause-pairs c = pairs_suffice

pub returns-clause-two_groups : goal.returns-clause-two_groups
returns-clause-two_groups c = two_groups_suffice
