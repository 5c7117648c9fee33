use Rattle.acl_lang.proofs.ReadAgainLemmas.{acl_again, aces_again}
use Rattle.acl_lang.proofs.laws.printed_lists_are_read_again.Goals as goal

pub returns-clause-acl : goal.returns-clause-acl
returns-clause-acl c = λ known acl names is ids. acl_again known acl names is ids

pub returns-clause-aces : goal.returns-clause-aces
returns-clause-aces c = λ known aces names are ids. aces_again known aces names are ids
