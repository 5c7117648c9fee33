use Rattle.acl_listing_queries.proofs.DeletionLawLemmas.{deletions_agree}
use Rattle.acl_listing_queries.proofs.laws.deletion_laws.Goals as goal

pub returns : goal.returns
returns c = record { agree = deletions_agree }
