use Rattle.std.proofs.Common.{◌∙◌, ap, refl, sym}
use Rattle.acl_nfs4.specs.Mask.{write_data}
use Rattle.acl_listing_lint.specs.Deletions.{anyone_adds}
use Rattle.acl_listing_lint.proofs.deletions.anyone_adds.Goals as goal

pub returns-in-Nfs4 : goal.returns-in-Nfs4
returns-in-Nfs4 c = c.allows.ensures write_data refl ∙ ap anyone_adds (sym c.in-Nfs4.is)
