use Rattle.acl_listing_queries.proofs.PathLawLemmas.{listed_paths_are_read, printed_paths_are_read}
use Rattle.acl_listing_queries.proofs.laws.path_laws.Goals as goal

pub returns : goal.returns
returns c = record { listed = listed_paths_are_read; printed = printed_paths_are_read }
