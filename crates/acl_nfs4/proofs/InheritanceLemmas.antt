-- What an entry is in what is made below.
use Rattle.std.proofs.Common.{◌≡◌, ℕ, Bool, true, false, not, ◌&&◌, ◌||◌, refl, sym, ap, ap₂, subst, ◌∙◌, Option, Some, IfSome}
use Rattle.std.proofs.Math.Bool.{and-false, and-true, or-false}
use Rattle.acl_names.specs.Bits.{has, without, ◌∩◌, ◌∪◌}
use Rattle.acl_names.proofs.BitSets.{has-or, has-without}
use Rattle.acl_nfs4.specs.Flags.{all_flags, inheritance_flags, identifier_group}
use Rattle.acl_nfs4.specs.Inheritance.{flags_below}
use Rattle.acl_nfs4.specs.declared.inheritance.Kind.{Kind}
use Rattle.acl_nfs4.specs.declared.inheritance.Kind.TheVariants.{File, Dir}
use Rattle.acl_nfs4.proofs.AceLemmas.{within-from, within-has, within-or, within-without}

-- flags of inheritance alone, with an effect where the entry stands or below
pub record IsPassedOn (below : ℕ) : Type 0 where
  pub within : below ∩ inheritance_flags ≡ below
  pub effective : (has below 3 && not (has below 0 || has below 1)) ≡ false

-- each row of the table gives such flags
pub flags_below-passed : (kind : Kind) (f d n : Bool) → IfSome (flags_below kind f d n) IsPassedOn
unfolding has
flags_below-passed File true d n = record { within = refl; effective = refl }
flags_below-passed File false d n = tt
flags_below-passed Dir false false n = tt
flags_below-passed Dir true false false = record { within = refl; effective = refl }
flags_below-passed Dir true false true = tt
flags_below-passed Dir false true false = record { within = refl; effective = refl }
flags_below-passed Dir true true false = record { within = refl; effective = refl }
flags_below-passed Dir false true true = record { within = refl; effective = refl }
flags_below-passed Dir true true true = record { within = refl; effective = refl }

-- what a row gives is such flags
pub passed_on : (kind : Kind) (f d n : Bool) (below : ℕ) → Some below ≡ flags_below kind f d n → IsPassedOn below
passed_on kind f d n below row = subst (λ (o : Option ℕ). IfSome o IsPassedOn) (sym row) (flags_below-passed kind f d n)

inheritance-within : inheritance_flags ∩ all_flags ≡ inheritance_flags
inheritance-within = refl

no_group_flag : has inheritance_flags identifier_group ≡ false
unfolding has
no_group_flag = refl

-- flags with these in place of their own of inheritance
pub passed-within : (flags below : ℕ) → flags ∩ all_flags ≡ flags → IsPassedOn below
    → (without flags inheritance_flags ∪ below) ∩ all_flags ≡ without flags inheritance_flags ∪ below
passed-within flags below known passed =
    within-or (without flags inheritance_flags) below all_flags
    (within-without flags inheritance_flags all_flags known)
    (within-from below all_flags (λ k e. within-has inheritance_flags all_flags k inheritance-within (within-has below inheritance_flags k passed.within e)))

pub passed-group_flag : (flags below : ℕ) → IsPassedOn below
    → has (without flags inheritance_flags ∪ below) identifier_group ≡ has flags identifier_group
passed-group_flag flags below passed =
    has-or (without flags inheritance_flags) below identifier_group
    ∙ ap₂ (λ a b. a || b)
    (has-without flags inheritance_flags identifier_group ∙ ap (λ b. has flags identifier_group && not b) no_group_flag ∙ and-true (has flags identifier_group))
    (outside (has below identifier_group) refl)
    ∙ or-false (has flags identifier_group)
  where
    outside : (b : Bool) → has below identifier_group ≡ b → b ≡ false
    outside true e = sym (within-has below inheritance_flags identifier_group passed.within e) ∙ no_group_flag
    outside false e = refl

passed-has : (flags below k : ℕ) → has inheritance_flags k ≡ true → has (without flags inheritance_flags ∪ below) k ≡ has below k
passed-has flags below k inside =
    has-or (without flags inheritance_flags) below k
    ∙ ap (λ b. b || has below k) (has-without flags inheritance_flags k ∙ ap (λ b. has flags k && not b) inside ∙ and-false (has flags k))

pub passed-effective : (flags below : ℕ) → IsPassedOn below
    → (has (without flags inheritance_flags ∪ below) 3
    && not (has (without flags inheritance_flags ∪ below) 0 || has (without flags inheritance_flags ∪ below) 1)) ≡ false
unfolding has
passed-effective flags below passed =
    ap₂ (λ i h. i && not h) (passed-has flags below 3 refl)
    (ap₂ (λ f d. f || d) (passed-has flags below 0 refl) (passed-has flags below 1 refl))
    ∙ passed.effective
