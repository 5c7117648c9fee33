use Rattle.std.proofs.Common.{◌∙◌}
use Rattle.acl_nfs4.proofs.MaskBits.{contains-one}
use Rattle.acl_nfs4.proofs.flags.Flags.has_no_propagate_inherit.Goals as goal

pub returns : goal.returns
returns c = c.contains.ensures tt ∙ contains-one _ 2
