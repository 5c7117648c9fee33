use Rattle.std.proofs.Common.{◌∙◌, ap, refl, sym}
use Rattle.acl_access.specs.Deletes.{delete_child}
use Rattle.acl_listing_lint.specs.Deletions.{said_to_anyone}
use Rattle.acl_listing_lint.proofs.deletions.said_to_anyone.Goals as goal

pub returns-in-Nfs4 : goal.returns-in-Nfs4
returns-in-Nfs4 c = c.verdict.ensures delete_child refl ∙ ap said_to_anyone (sym c.in-Nfs4.is)
