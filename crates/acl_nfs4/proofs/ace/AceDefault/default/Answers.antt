use Rattle.std.proofs.Common.{sym, subst, refl, ℕ}
use Rattle.acl_names.specs.Bits.{has}
use Rattle.acl_nfs4.specs.Ace.{IsAce}
use Rattle.acl_nfs4.specs.declared.ace.AceType.TheVariants.{Allow}
use Rattle.acl_nfs4.specs.declared.who.Who.TheVariants.{Owner}
use Rattle.acl_nfs4.proofs.ace.AceDefault.default.Goals as goal

pub invariant_of-result : goal.invariant_of-result
unfolding has
invariant_of-result c =
    subst (λ (flags : ℕ). IsAce (record { kind = Allow; flags = flags; who = Owner; mask = c.empty-2.result.0 })) (sym (c.empty.ensures tt))
    (subst (λ (mask : ℕ). IsAce (record { kind = Allow; flags = 0; who = Owner; mask = mask })) (sym (c.empty-2.ensures tt))
    (record { known_flags = refl; known_mask = refl; group_flag = refl }))
