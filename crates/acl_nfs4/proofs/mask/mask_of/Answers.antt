use Rattle.std.proofs.Common.{◌∙◌, ap, ap₂, cond, ℕ}
use Rattle.acl_names.specs.Bits.{◌∪◌}
use Rattle.acl_nfs4.specs.Mask.{mask_of}
use Rattle.acl_nfs4.proofs.MaskBits.{contains-one}
use Rattle.acl_nfs4.proofs.mask.mask_of.Goals as goal

pub returns : goal.returns
unfolding mask_of
returns c =
    c.union-2.ensures tt
    ∙ ap₂ (λ (a b : ℕ). a ∪ b)
    (c.union.ensures tt
    ∙ ap₂ (λ (a b : ℕ). a ∪ b)
    (c.bits_if-read.ensures tt ∙ ap (λ b. cond b 1 0) (c.contains.ensures tt ∙ contains-one c.args.perms.0 2))
    (c.bits_if-write.ensures tt ∙ ap (λ b. cond b 6 0) (c.contains-2.ensures tt ∙ contains-one c.args.perms.0 1)))
    (c.bits_if-execute.ensures tt ∙ ap (λ b. cond b 32 0) (c.contains-3.ensures tt ∙ contains-one c.args.perms.0 0))
