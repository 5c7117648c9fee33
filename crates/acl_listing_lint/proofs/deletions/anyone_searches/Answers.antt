use Rattle.std.proofs.Common.{◌∙◌, ap, refl, sym}
use Rattle.acl_nfs4.specs.Mask.{execute}
use Rattle.acl_listing_lint.specs.Deletions.{anyone_searches}
use Rattle.acl_listing_lint.proofs.deletions.anyone_searches.Goals as goal

pub returns-in-Nfs4 : goal.returns-in-Nfs4
returns-in-Nfs4 c = c.allows.ensures execute refl ∙ ap anyone_searches (sym c.in-Nfs4.is)
