use Rattle.std.proofs.Common.{◌∙◌}
use Rattle.acl_nfs4.proofs.MaskBits.{contains-one}
use Rattle.acl_nfs4.proofs.flags.Flags.has_identifier_group.Goals as goal

pub returns : goal.returns
returns c = c.contains.ensures tt ∙ contains-one _ 6
