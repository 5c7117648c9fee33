-- The mode that entries of numbers show, by the bits that they allow the classes.
use Rattle.std.proofs.Common.{◌≡◌, ◌∙◌, ℕ, Bool, true, cond, ◌&&◌, List, ap, ap₂, refl}
use Rattle.acl_names.specs.Bits.{has, ◌∪◌}
use Rattle.acl_nfs4.specs.Ace.{Nfsace4}
use Rattle.acl_nfs4.specs.Evaluation.{allows, of_class, shown_to}
use Rattle.acl_nfs4.specs.Mask.{mode_bits}
use Rattle.acl_nfs4.specs.declared.who.Who.{Who}
use Rattle.acl_nfs4.specs.declared.who.Who.TheVariants.{Owner, Group, Everyone}
use Rattle.acl_nfs4.proofs.EvaluationMode.{shown_to-small}
use Rattle.acl_posix.specs.Mode.{AreClasses}
use Rattle.acl_wire.specs.Shown.{perms_shown}

module _ (applies : Who → Bool) (aces : List Nfsace4) (allowed : ℕ) (is : (bit : ℕ) → has allowed bit ≡ (has mode_bits bit && allows applies bit aces)) where
  of_mode : (bit : ℕ) → has mode_bits bit ≡ true → has allowed bit ≡ allows applies bit aces
  of_mode bit e = is bit ∙ ap (λ b. b && allows applies bit aces) e

  pub perms-shown : perms_shown allowed ≡ shown_to applies aces
  unfolding has
  perms-shown =
      ap₂ (λ a b. a ∪ b)
      (ap₂ (λ a b. a ∪ b) (ap (λ b. cond b 4 0) (of_mode 0 refl)) (ap₂ (λ a b. cond (a && b) 2 0) (of_mode 1 refl) (of_mode 2 refl)))
      (ap (λ b. cond b 1 0) (of_mode 5 refl))

-- what is shown to the classes is a mode
pub are-shown : (aces : List Nfsace4) (user group other : ℕ) → user ≡ shown_to (of_class Owner) aces → group ≡ shown_to (of_class Group) aces → other ≡ shown_to (of_class Everyone) aces
    → AreClasses (record { user = user; group = group; other = other })
are-shown aces user group other u g o = record {
  user_is = rw u (shown_to-small (of_class Owner) aces);
  group_is = rw g (shown_to-small (of_class Group) aces);
  other_is = rw o (shown_to-small (of_class Everyone) aces);
}
