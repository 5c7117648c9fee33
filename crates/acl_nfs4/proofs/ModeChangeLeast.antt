-- A mode that is set with the least denials decides as one that is set with all.
use Rattle.std.proofs.Common.{◌≡◌, ℕ, Bool, true, false, cond, not, ◌&&◌, ◌||◌, refl, sym, ap, ap₂, ◌∙◌, List, [], ◌∷◌, ◌++◌, append-nil, Option, Some, None, flat_map, unwrap_or}
use Rattle.std.specs.List.{list_any}
use Rattle.std.proofs.lemmas.Bool.{true≢false, and_parts, and_from}
use Rattle.acl_names.specs.Bits.{has, without, ◌∩◌}
use Rattle.acl_names.proofs.BitSets.{has-without, has-zero, no_bits}
use Rattle.acl_nfs4.specs.Ace.{Nfsace4, plain_ace, unless_empty}
use Rattle.acl_nfs4.specs.Evaluation.{allows, mode_of, of_class, shown_to, verdict}
use Rattle.acl_nfs4.specs.Mask.{all_masks, mask_of, mode_bits, rest_of}
use Rattle.acl_nfs4.specs.ModeChange.{beyond_group, denial_of, denials, denied_to, for_others, for_owner, kept_of_list, named_whos, with_denials, with_mode, with_mode_least, without_denials}
use Rattle.acl_nfs4.specs.ModeChangeLaws.{DecideEachAlike, GrantsGroup, GrantsOthers, GrantsOwner, LimitsNamed}
use Rattle.acl_nfs4.specs.declared.ace.AceType.TheVariants.{Allow, Deny}
use Rattle.acl_nfs4.specs.declared.who.Who.{Who}
use Rattle.acl_nfs4.specs.declared.who.Who.TheVariants.{Owner, Group, Everyone}
use Rattle.acl_posix.specs.Mode.{AreClasses, Classes}
use Rattle.acl_nfs4.proofs.AceLemmas.{within-without}
use Rattle.acl_nfs4.proofs.EvaluationLemmas.{or_else, verdict-allow, verdict-append, verdict-deny}
use Rattle.acl_nfs4.proofs.MaskOfModes.{mask_of-within}
use Rattle.acl_nfs4.proofs.ModeChangeGrants.{grants-group, grants-others, grants-owner, limits-named, mode_of-with_mode}
use Rattle.acl_nfs4.proofs.ModeChangeParts.{mask_of-known}

module _ (applies : Who → Bool) (bit : ℕ) where
  -- whether one of them asks, to whom the list doesn't deny the bit
  abbrev is_undenied : List Nfsace4 → List Who → Bool
  is_undenied aces whos = list_any (λ who. applies who && not (has (denied_to who aces) bit)) whos

  -- denials deny each of the bits to the same
  denials-verdict : (bits : ℕ) (aces : List Nfsace4) (whos : List Who)
      → verdict applies bit (flat_map (denial_of bits aces) whos) ≡ cond (has bits bit && is_undenied aces whos) (Some false) None
  denials-verdict bits aces [] = nobody (has bits bit)
    where
      nobody : (b : Bool) → verdict applies bit [] ≡ cond (b && false) (Some false) None
      nobody true = refl
      nobody false = refl
  denials-verdict bits aces (who ∷ whos) =
      verdict-append applies bit (denial_of bits aces who) (flat_map (denial_of bits aces) whos)
      ∙ ap₂ or_else
      (verdict-deny applies bit who (without bits (denied_to who aces)) ∙ ap (λ h. cond (applies who && h) (Some false) None) (has-without bits (denied_to who aces) bit))
      (denials-verdict bits aces whos)
      ∙ one (applies who) (has bits bit) (has (denied_to who aces) bit) (is_undenied aces whos)
    where
      one : (a b d e : Bool) → or_else (cond (a && (b && not d)) (Some false) None) (cond (b && e) (Some false) None) ≡ cond (b && ((a && not d) || e)) (Some false) None
      one true true true e = refl
      one true true false e = refl
      one true false d e = refl
      one false true d e = refl
      one false false d e = refl

  -- the entries behind the denials allow no bit that neither the group nor the others have
  nothing_behind : (group other : ℕ) → has (mask_of group) bit ≡ false → has (mask_of other) bit ≡ false → unwrap_or (verdict applies bit (for_others group other)) false ≡ false
  nothing_behind group other lacks lacks_too =
      ap (λ v. unwrap_or v false)
      (verdict-append applies bit (plain_ace Allow Group (mask_of group) ++ plain_ace Deny Group (rest_of group)) (plain_ace Allow Everyone (mask_of other))
      ∙ ap₂ or_else
      (verdict-append applies bit (plain_ace Allow Group (mask_of group)) (plain_ace Deny Group (rest_of group))
      ∙ ap₂ or_else
      (verdict-allow applies bit Group (mask_of group) ∙ ap (λ h. cond (applies Group && h) (Some true) None) lacks)
      (verdict-deny applies bit Group (rest_of group)))
      (verdict-allow applies bit Everyone (mask_of other) ∙ ap (λ h. cond (applies Everyone && h) (Some true) None) lacks_too))
      ∙ none (applies Group) (has (rest_of group) bit) (applies Everyone)
    where
      none : (g r e : Bool) → unwrap_or (or_else (or_else (cond (g && false) (Some true) None) (cond (g && r) (Some false) None)) (cond (e && false) (Some true) None)) false ≡ false
      none true true e = refl
      none true false true = refl
      none true false false = refl
      none false r true = refl
      none false r false = refl

  module _ (aces : List Nfsace4) (mode : Classes) where
    allows-with_denials : (bits : ℕ) → allows applies bit (with_denials bits aces mode)
        ≡ unwrap_or (or_else (verdict applies bit (for_owner mode.user ++ kept_of_list mode.group aces))
        (or_else (cond (has bits bit && is_undenied aces (named_whos aces)) (Some false) None) (verdict applies bit (for_others mode.group mode.other)))) false
    allows-with_denials bits =
        ap (λ v. unwrap_or v false)
        (verdict-append applies bit ((for_owner mode.user ++ kept_of_list mode.group aces) ++ denials bits aces) (for_others mode.group mode.other)
        ∙ ap (λ v. or_else v (verdict applies bit (for_others mode.group mode.other)))
        (verdict-append applies bit (for_owner mode.user ++ kept_of_list mode.group aces) (denials bits aces)
        ∙ ap (or_else (verdict applies bit (for_owner mode.user ++ kept_of_list mode.group aces))) (denials-verdict bits aces (named_whos aces)))
        ∙ regrouped (verdict applies bit (for_owner mode.user ++ kept_of_list mode.group aces))
        (cond (has bits bit && is_undenied aces (named_whos aces)) (Some false) None) (verdict applies bit (for_others mode.group mode.other)))
      where
        regrouped : (x y z : Option Bool) → or_else (or_else x y) z ≡ or_else x (or_else y z)
        regrouped None y z = refl
        regrouped (Some x) y z = refl

    beyond-has : has (beyond_group mode) bit ≡ (has (mask_of mode.other) bit && not (has (mask_of mode.group) bit))
    beyond-has = has-without (mask_of mode.other) (mask_of mode.group) bit

    rest-has : has (rest_of mode.group) bit ≡ (has mode_bits bit && not (has (mask_of mode.group) bit))
    rest-has = has-without mode_bits (mask_of mode.group) bit

    -- what the others have beyond the group, the group lacks
    is_lacking : has (beyond_group mode) bit ≡ true → has (rest_of mode.group) bit ≡ true
    is_lacking beyond =
        let parts = and_parts (has (mask_of mode.other) bit) (not (has (mask_of mode.group) bit)) (sym beyond-has ∙ beyond) in
        rest-has ∙ and_from _ _ (mask_of-within mode.other bit parts.0) parts.1

    -- and of what it lacks beside that nothing is allowed behind
    is_allowed_to_none : has (rest_of mode.group) bit ≡ true → has (beyond_group mode) bit ≡ false → unwrap_or (verdict applies bit (for_others mode.group mode.other)) false ≡ false
    is_allowed_to_none lacking beyond =
        let parts = and_parts (has mode_bits bit) (not (has (mask_of mode.group) bit)) (sym rest-has ∙ lacking) in
        let lacks : has (mask_of mode.group) bit ≡ false = denied (has (mask_of mode.group) bit) parts.1 in
        nothing_behind mode.group mode.other lacks
        (alone (has (mask_of mode.other) bit) (has (mask_of mode.group) bit) lacks (sym beyond-has ∙ beyond))
      where
        denied : (b : Bool) → not b ≡ true → b ≡ false
        denied true e = sym e
        denied false e = refl

        alone : (o g : Bool) → g ≡ false → (o && not g) ≡ false → o ≡ false
        alone true false g e = e
        alone true true g e = g
        alone false g is e = refl

    pub least-allows : allows applies bit (with_mode_least aces mode) ≡ allows applies bit (with_mode aces mode)
    least-allows =
        allows-with_denials (beyond_group mode)
        ∙ same (verdict applies bit (for_owner mode.user ++ kept_of_list mode.group aces)) (has (beyond_group mode) bit) (has (rest_of mode.group) bit)
        (is_undenied aces (named_whos aces)) (verdict applies bit (for_others mode.group mode.other)) is_lacking is_allowed_to_none
        ∙ sym (allows-with_denials (rest_of mode.group))
      where
        same : (x : Option Bool) (b r e : Bool) (y : Option Bool) → (b ≡ true → r ≡ true) → (r ≡ true → b ≡ false → unwrap_or y false ≡ false)
            → unwrap_or (or_else x (or_else (cond (b && e) (Some false) None) y)) false ≡ unwrap_or (or_else x (or_else (cond (r && e) (Some false) None) y)) false
        same (Some x) b r e y within none = refl
        same None true true e y within none = refl
        same None false false e y within none = refl
        same None true false e y within none = absurd (true≢false (sym (within refl)))
        same None false true true y within none = none refl refl
        same None false true false y within none = refl

pub least-alike : (aces : List Nfsace4) (mode : Classes) → DecideEachAlike (with_mode_least aces mode) (with_mode aces mode)
least-alike aces mode applies bit = least-allows applies bit aces mode

-- lists that decide alike show one mode
shown_to-alike : (applies : Who → Bool) (first second : List Nfsace4) → ((bit : ℕ) → allows applies bit first ≡ allows applies bit second) → shown_to applies first ≡ shown_to applies second
shown_to-alike applies first second alike = rw (alike 0, alike 1, alike 2, alike 5) refl

module _ (aces : List Nfsace4) (mode : Classes) where
  pub least-shows : AreClasses mode → mode_of (with_mode_least aces mode) ≡ mode
  least-shows are = (λ i. record { user = shown Owner i; group = shown Group i; other = shown Everyone i }) ∙ mode_of-with_mode aces mode are
    where
      shown : (class : Who) → shown_to (of_class class) (with_mode_least aces mode) ≡ shown_to (of_class class) (with_mode aces mode)
      shown class = shown_to-alike (of_class class) (with_mode_least aces mode) (with_mode aces mode) (least-alike aces mode (of_class class))

  pub least-owner : GrantsOwner (with_mode_least aces mode) mode
  least-owner owner group requester bit of_mode is = least-alike aces mode _ bit ∙ grants-owner aces mode owner group requester bit of_mode is

  pub least-group : GrantsGroup aces (with_mode_least aces mode) mode
  least-group owner group requester bit of_mode ne none is = least-alike aces mode _ bit ∙ grants-group aces mode owner group requester bit of_mode ne none is

  pub least-others : GrantsOthers aces (with_mode_least aces mode) mode
  least-others owner group requester bit of_mode ne none is = least-alike aces mode _ bit ∙ grants-others aces mode owner group requester bit of_mode ne none is

  pub least-named : LimitsNamed aces (with_mode_least aces mode) mode
  least-named owner group requester bit of_mode ne named lacks = least-alike aces mode _ bit ∙ limits-named aces mode owner group requester bit of_mode ne named lacks

-- what the others have beyond the group has a name
pub beyond-known : (mode : Classes) {mask : ℕ} → mask ≡ beyond_group mode → mask ∩ all_masks ≡ mask
beyond-known mode is = rw is (within-without (mask_of mode.other) (mask_of mode.group) all_masks (mask_of-known mode.other refl))

-- a mode whose others have no more than its group denies nobody anything by name
pub least-undenied : (aces : List Nfsace4) (mode : Classes) → beyond_group mode ≡ 0 → with_mode_least aces mode ≡ without_denials aces mode
unfolding unless_empty
least-undenied aces mode none =
    ap (λ (bits : ℕ). with_denials bits aces mode) none
    ∙ ap (λ xs. xs ++ for_others mode.group mode.other)
    (ap (λ xs. (for_owner mode.user ++ kept_of_list mode.group aces) ++ xs) (nobody (named_whos aces)) ∙ append-nil (for_owner mode.user ++ kept_of_list mode.group aces))
  where
    nothing : (denied : ℕ) → without 0 denied ≡ 0
    nothing denied = no_bits (without 0 denied) (λ k. has-without 0 denied k ∙ ap (λ b. b && not (has denied k)) (has-zero k))

    one : (who : Who) → denial_of 0 aces who ≡ []
    one who = ap (plain_ace Deny who) (nothing (denied_to who aces))

    nobody : (whos : List Who) → flat_map (denial_of 0 aces) whos ≡ []
    nobody [] = refl
    nobody (who ∷ whos) = ap₂ (λ xs ys. xs ++ ys) (one who) (nobody whos)
