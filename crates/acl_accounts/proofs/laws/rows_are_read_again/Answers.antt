use Rattle.acl_accounts.proofs.TextLemmas.{rows_again}
use Rattle.acl_accounts.proofs.laws.rows_are_read_again.Goals as goal

pub returns : goal.returns
returns c = rows_again
