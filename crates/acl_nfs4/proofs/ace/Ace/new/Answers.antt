use Rattle.std.proofs.Common.{◌∙◌, ap, ap₂, ℕ}
use Rattle.acl_names.specs.Bits.{without, ◌∪◌}
use Rattle.acl_nfs4.proofs.AceLemmas.{IsAce-made}
use Rattle.acl_nfs4.proofs.ace.Ace.new.Goals as goal

pub invariant_of-result : goal.invariant_of-result
invariant_of-result c =
    IsAce-made c.args.kind c.args.flags.0 c.args.who c.args.mask.0
    (c.union.ensures tt
    ∙ ap₂ (λ (a b : ℕ). a ∪ b) (c.without-own.ensures tt ∙ ap (λ (f : ℕ). without f 64) c.named_bits.ensures) c.flags.ensures)
    c.named_bits-2.ensures
