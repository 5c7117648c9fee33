use Rattle.acl_listing_lint.proofs.FromDefaultLemmas.{creation_is_bounded, creation_is_silent}
use Rattle.acl_listing_lint.proofs.laws.creation_laws.Goals as goal

pub returns : goal.returns
returns c = record { silent = creation_is_silent; bounded = creation_is_bounded }
