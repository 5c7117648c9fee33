use Rattle.acl_access.proofs.ExclusiveLemmas.{changes_are_not_alike}
use Rattle.acl_access.proofs.GroupLemmas.{two_groups_suffice_for_files}
use Rattle.acl_access.proofs.laws.change_laws.Goals as goal

pub returns-clause-two_groups : goal.returns-clause-two_groups
returns-clause-two_groups c = two_groups_suffice_for_files

pub returns-clause-exclusive : goal.returns-clause-exclusive
returns-clause-exclusive c = changes_are_not_alike
