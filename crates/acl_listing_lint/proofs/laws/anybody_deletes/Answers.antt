use Rattle.acl_listing_lint.proofs.DeletionLemmas.{anybody_deletes}
use Rattle.acl_listing_lint.proofs.laws.anybody_deletes.Goals as goal

pub returns : goal.returns
returns c = anybody_deletes
