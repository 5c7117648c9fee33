use Rattle.acl_listing_queries.proofs.AllAboveLemmas.{ways_have_all_above, ways_have_all_before}
use Rattle.acl_listing_queries.proofs.WayLawLemmas.{ways_are_all_above}
use Rattle.acl_listing_queries.proofs.laws.way_laws.Goals as goal

pub returns : goal.returns
returns c = record { above = ways_are_all_above; before = ways_have_all_before; any_order = ways_have_all_above }
