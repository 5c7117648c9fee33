use Rattle.std.proofs.Common.{rules}
use Rattle.std.proofs.lemmas.Fn.{filter_same}
use Rattle.acl_listings.specs.Way.{is_above}
use Rattle.acl_listing_lint.specs.Seen.{Folder}
use Rattle.acl_listing_lint.proofs.seen.leave.Goals as goal

pub returns : goal.returns
returns c = filter_same _ (λ (folder : Folder). is_above folder.path c.args.path.now) _ (λ folder b f' called. search rules) _ _ c.retain.ensures.filtered
