use Rattle.std.proofs.Common.{◌∙◌, ap}
use Rattle.acl_names.specs.Bits.{has_all}
use Rattle.acl_nfs4.proofs.MaskBits.{contains-one}
use Rattle.acl_wire.proofs.numbers.has_bit.Goals as goal

pub returns : goal.returns
returns c = λ place is. ap (has_all c.args.set) is ∙ contains-one c.args.set place
