use Rattle.std.proofs.Common.{sym, subst, ◌<◌, ℕ}
use Rattle.acl_nfs4.specs.Evaluation.{of_class}
use Rattle.acl_nfs4.specs.declared.who.Who.TheVariants.{Owner, Group, Everyone}
use Rattle.acl_nfs4.proofs.EvaluationMode.{shown_to-small}
use Rattle.acl_nfs4.proofs.acl.Acl4.mode4.Goals as goal

pub invariant_of-result : goal.invariant_of-result
invariant_of-result c =
    let aces = c.aces-aces.result.now in
    record {
      user_is = subst (λ (n : ℕ). n < 8) (sym c.shown_to.ensures) (shown_to-small (of_class Owner) aces);
      group_is = subst (λ (n : ℕ). n < 8) (sym c.shown_to-2.ensures) (shown_to-small (of_class Group) aces);
      other_is = subst (λ (n : ℕ). n < 8) (sym c.shown_to-3.ensures) (shown_to-small (of_class Everyone) aces);
    }
