use Rattle.acl_tree_queries.proofs.DumpRunLemmas.{dumps_make_the_tree_again}
use Rattle.acl_tree_queries.proofs.laws.dump_laws.Goals as goal

pub returns : goal.returns
returns c = record { again = dumps_make_the_tree_again }
