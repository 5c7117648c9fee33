use Rattle.acl_listing_queries.proofs.ViaLawLemmas.{entries_grant, numbers_allow}
use Rattle.acl_listing_queries.proofs.laws.via_laws.Goals as goal

pub returns : goal.returns
returns c = record { grant = entries_grant; allow = numbers_allow }
