use Rattle.acl_queries.proofs.ExclusiveLemmas.{differ_for_nobody}
use Rattle.acl_queries.proofs.laws.alike_lists_differ_for_nobody.Goals as goal

pub returns : goal.returns
returns c = differ_for_nobody
