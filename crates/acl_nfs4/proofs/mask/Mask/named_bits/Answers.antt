use Rattle.bitflags.proofs.OnLiterals.{bitflags_on_literals}
use Rattle.std.proofs.Common.{◌∙◌, ap}
use Rattle.acl_names.specs.Bits.{◌∩◌}
use Rattle.acl_nfs4.proofs.mask.Mask.named_bits.Goals as goal

pub returns : goal.returns
unfolding bitflags_on_literals
returns c = c.intersection.ensures tt ∙ ap (λ all. c.args.self.0 ∩ all) (c.all.ensures tt)
