use Rattle.std.proofs.Common.{ℕ, ◌^◌, ◌<◌, subst}
use Rattle.acl_nfs4.specs.Mask.{mask_bits}
use Rattle.acl_nfs4.proofs.MaskLemmas.{decided}
use Rattle.acl_nfs4.proofs.acl.Acl4.grants4.Goals as goal

pub returns-clause-test : goal.returns-clause-test
returns-clause-test c =
    decided c.grants.result c.args.self.now c.args.owner c.args.group c.args.requester.now (mask_bits c.args.requested)
    (subst (λ (n : ℕ). n < 2 ^ 32) (c.bits-bits.ensures tt) c.bits-bits.type_inv) (rw c.aces.ensures.value at c.grants.ensures)
