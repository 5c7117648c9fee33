use Rattle.acl_audit.proofs.DumpLemmas.{dumps_make_the_tree}
use Rattle.acl_audit.proofs.QuietLemmas.{files_inherit_nothing}
use Rattle.acl_audit.proofs.laws.dump_laws.Goals as goal

pub returns : goal.returns
returns c = record { again = dumps_make_the_tree; files = files_inherit_nothing }
