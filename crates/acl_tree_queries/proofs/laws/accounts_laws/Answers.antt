use Rattle.acl_tree_queries.proofs.AccountsLawLemmas.{users_ask_alike}
use Rattle.acl_tree_queries.proofs.laws.accounts_laws.Goals as goal

pub returns : goal.returns
returns c = record { asked = users_ask_alike }
