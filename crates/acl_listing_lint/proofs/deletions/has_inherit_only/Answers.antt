use Rattle.std.proofs.Common.{◌∙◌}
use Rattle.acl_nfs4.proofs.MaskBits.{contains-one}
use Rattle.acl_listing_lint.proofs.deletions.has_inherit_only.Goals as goal

pub returns : goal.returns
returns c = c.contains.ensures tt ∙ contains-one _ 3
