use Rattle.std.proofs.Common.{◌∙◌, ap, ℕ}
use Rattle.acl_names.specs.Bits.{has, ◌∩◌}
use Rattle.acl_nfs4.specs.Mask.{mask_bits, mask_of}
use Rattle.acl_access.proofs.ChangeLemmas.{allowed_alone_are}
use Rattle.acl_access.proofs.allowed.allowed_alone.Goals as goal

pub returns : goal.returns
returns g c = λ bit.
    ap (λ (m : ℕ). has m bit)
    (c.intersection.ensures tt ∙ ap (λ (m : ℕ). mask_bits c.args.bits ∩ m) (c.mask_of.ensures ∙ ap mask_of c.granted_alone.ensures))
    ∙ allowed_alone_are c.args.acl.now c.args.owner c.args.group (g.S.Subject.identity c.args.subject.now) (mask_bits c.args.bits) c.requires bit
