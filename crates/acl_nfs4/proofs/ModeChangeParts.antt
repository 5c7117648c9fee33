-- The parts of an entry beside a mode: that they are entries with an effect, and where the list of them ends.
use Rattle.std.proofs.Common.{◌≡◌, ℕ, Bool, true, false, cond, not, ◌&&◌, ◌||◌, refl, sym, ap, ap₂, subst, ◌∙◌, List, [], ◌∷◌, ◌++◌, length-append, append_assoc, arith}
use Rattle.std.proofs.lemmas.Bool.{true≢false, and_parts}
use Rattle.std.proofs.Math.Bool.{and-false, and-true, or-false}
use Rattle.acl_names.specs.Bits.{has, without, ◌∩◌, ◌∪◌}
use Rattle.acl_names.proofs.BitSets.{has-or, has-without}
use Rattle.acl_nfs4.specs.Ace.{Nfsace4, IsAce, decides, is_allow, is_idle, is_inheritable, unless_empty}
use Rattle.acl_nfs4.specs.Acl.{IsTooLong}
use Rattle.acl_nfs4.specs.Flags.{all_flags, inheritance_flags, identifier_group}
use Rattle.acl_nfs4.specs.Mask.{all_masks, mode_bits, mask_of, rest_of}
use Rattle.acl_nfs4.specs.ModeChange.{kept_mask, kept_of_entry}
use Rattle.acl_nfs4.specs.Who.{is_special}
use Rattle.acl_nfs4.proofs.AceLemmas.{within-from, within-has, within-or, within-without}
use Rattle.acl_nfs4.proofs.ModeChangeKept.{kept_of-cases, inherited_part, effective_part, reduced, cleared}
use Rattle.acl_nfs4.proofs.MaskOfModes.{mask_of-within}

-- ---- flags

pub inherit_only-within : (flags : ℕ) → flags ∩ all_flags ≡ flags → (flags ∪ 8) ∩ all_flags ≡ flags ∪ 8
inherit_only-within flags known = within-or flags 8 all_flags known refl

or_eight : (flags k : ℕ) → has 8 k ≡ false → has (flags ∪ 8) k ≡ has flags k
or_eight flags k outside = has-or flags 8 k ∙ ap (λ b. has flags k || b) outside ∙ or-false (has flags k)

pub inherit_only-group_flag : (flags : ℕ) → has (flags ∪ 8) identifier_group ≡ has flags identifier_group
unfolding has
inherit_only-group_flag flags = or_eight flags identifier_group refl

pub inherit_only-effective : (ace : Nfsace4) → is_inheritable ace ≡ true → is_idle (inherited_part ace) ≡ false
unfolding has
inherit_only-effective ace inherits =
    ap (λ b. has (ace.flags ∪ 8) 3 && not b)
    (ap₂ (λ f d. f || d) (or_eight ace.flags 0 refl) (or_eight ace.flags 1 refl) ∙ inherits)
    ∙ and-false (has (ace.flags ∪ 8) 3)

pub cleared-group_flag : (flags : ℕ) → has (without flags inheritance_flags) identifier_group ≡ has flags identifier_group
unfolding has
cleared-group_flag flags =
    has-without flags inheritance_flags identifier_group ∙ and-true (has flags identifier_group)

pub cleared-effective : (group : ℕ) (ace : Nfsace4) → is_idle (effective_part group ace) ≡ false
unfolding has
cleared-effective group ace = ap (λ b. b && not (is_inheritable (effective_part group ace))) (cleared ace.flags 3 refl)

-- ---- masks

mode_bits-within : (mask : ℕ) → ((k : ℕ) → has mask k ≡ true → has mode_bits k ≡ true) → mask ∩ all_masks ≡ mask
mode_bits-within mask inside = within-from mask all_masks (λ k e. within-has mode_bits all_masks k refl (inside k e))

-- what the mode's permissions stand for, and what they lack, has a name
pub mask_of-known : (perms : ℕ) {mask : ℕ} → mask ≡ mask_of perms → mask ∩ all_masks ≡ mask
mask_of-known perms is =
    subst (λ (mask : ℕ). mask ∩ all_masks ≡ mask) (sym is) (mode_bits-within (mask_of perms) (mask_of-within perms))

pub rest_of-known : (perms : ℕ) {mask : ℕ} → mask ≡ rest_of perms → mask ∩ all_masks ≡ mask
rest_of-known perms is =
    subst (λ (mask : ℕ). mask ∩ all_masks ≡ mask) (sym is)
    (mode_bits-within (rest_of perms) (λ k e. (and_parts (has mode_bits k) _ (sym (has-without mode_bits (mask_of perms) k) ∙ e)).0))

-- so has what is left of it
pub denial-known : (bits denied : ℕ) {mask : ℕ} → bits ∩ all_masks ≡ bits → mask ≡ without bits denied → mask ∩ all_masks ≡ mask
denial-known bits denied known is =
    subst (λ (mask : ℕ). mask ∩ all_masks ≡ mask) (sym is) (within-without bits denied all_masks known)

pub kept_mask-known : (group : ℕ) (ace : Nfsace4) {mask : ℕ} → mask ≡ kept_mask group ace → IsAce ace → mask ∩ all_masks ≡ mask
unfolding kept_mask
kept_mask-known group ace is valid =
    subst (λ (mask : ℕ). mask ∩ all_masks ≡ mask) (sym is) (go (is_special ace.who) (is_allow ace.kind))
  where
    go : (s a : Bool)
        → cond s (without ace.mask mode_bits) (cond a (without ace.mask (rest_of group)) ace.mask) ∩ all_masks
        ≡ cond s (without ace.mask mode_bits) (cond a (without ace.mask (rest_of group)) ace.mask)
    go true a = within-without ace.mask mode_bits all_masks valid.known_mask
    go false true = within-without ace.mask (rest_of group) all_masks valid.known_mask
    go false false = valid.known_mask

-- ---- what an entry leaves, case by case

pub kept_of-stays : (group : ℕ) (ace : Nfsace4) → decides ace ≡ false → kept_of_entry group ace ≡ ace ∷ []
kept_of-stays group ace e =
    kept_of-cases group ace (λ these. these ≡ ace ∷ [])
    (λ _. refl) (λ d _. absurd (true≢false (sym d ∙ e))) (λ d _. absurd (true≢false (sym d ∙ e)))

pub kept_of-parts : (group : ℕ) (ace : Nfsace4) → decides ace ≡ true → is_inheritable ace ≡ true
    → kept_of_entry group ace ≡ inherited_part ace ∷ unless_empty (effective_part group ace)
kept_of-parts group ace d i =
    kept_of-cases group ace (λ these. these ≡ inherited_part ace ∷ unless_empty (effective_part group ace))
    (λ e. absurd (true≢false (sym d ∙ e))) (λ _ _. refl) (λ _ e. absurd (true≢false (sym i ∙ e)))

pub kept_of-rest : (group : ℕ) (ace : Nfsace4) → decides ace ≡ true → is_inheritable ace ≡ false → kept_of_entry group ace ≡ unless_empty (reduced group ace)
kept_of-rest group ace d i =
    kept_of-cases group ace (λ these. these ≡ unless_empty (reduced group ace))
    (λ e. absurd (true≢false (sym d ∙ e))) (λ _ e. absurd (true≢false (sym e ∙ i))) (λ _ _. refl)

-- ---- lists that are too long

-- what is too long stays too long with more after it
pub too_long-more : (most : ℕ) (front more : List Nfsace4) → IsTooLong most front → IsTooLong most (front ++ more)
too_long-more most front more long = omega (arith, length-append front more, long)

pub too_long-within : (most : ℕ) (made next rest whole : List Nfsace4) → made ++ (next ++ rest) ≡ whole → IsTooLong most (made ++ next) → IsTooLong most whole
too_long-within most made next rest whole e long =
    subst (IsTooLong most) (append_assoc made next rest ∙ e) (too_long-more most (made ++ next) rest long)
