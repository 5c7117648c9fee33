use Rattle.acl_listing_creation.proofs.AgainLemmas.{said_again}
use Rattle.acl_listing_creation.proofs.laws.what_is_reported_is_read_again.Goals as goal

pub returns : goal.returns
returns c = λ asking blocks. said_again asking blocks
