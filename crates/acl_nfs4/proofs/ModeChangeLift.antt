-- A mode that is set with the least denials is lifted by a mode that is set later.
use Rattle.std.proofs.Common.{◌≡◌, ℕ, Bool, true, false, cond, not, ◌&&◌, ◌||◌, refl, sym, ap, ap₂, ◌∙◌, List, [], ◌∷◌, ◌++◌, Option, Some, None, find, option_map, unwrap_or}
use Rattle.std.specs.List.{list_any}
use Rattle.std.proofs.lemmas.Bool.{true≢false, and_parts, and_from, ne_eqb}
use Rattle.std.proofs.lemmas.List.Folds.{list_any-append}
use Rattle.std.proofs.Math.Bool.{or-false}
use Rattle.acl_names.specs.Bits.{has, without}
use Rattle.acl_names.proofs.AnyLemmas.{false_unless, list_any-weaken}
use Rattle.acl_names.proofs.BitSets.{has-without, has-zero}
use Rattle.acl_nfs4.specs.Ace.{Nfsace4, decides, is_allow, plain_ace, unless_empty}
use Rattle.acl_nfs4.specs.Evaluation.{allows, speaks, verdict}
use Rattle.acl_nfs4.specs.Mask.{mask_of, mode_bits, rest_of}
use Rattle.acl_nfs4.specs.ModeChange.{beyond_group, for_others, for_owner, kept_mask, kept_of_entry, kept_of_list, with_mode_least, without_denials}
use Rattle.acl_nfs4.specs.ModeChangeLaws.{LaterModesLift}
use Rattle.acl_nfs4.specs.Who.{is_special, matches}
use Rattle.acl_nfs4.specs.declared.ace.AceType.TheVariants.{Allow, Deny}
use Rattle.acl_nfs4.specs.declared.who.Who.{Who}
use Rattle.acl_nfs4.specs.declared.who.Who.TheVariants.{Owner, Group, Everyone}
use Rattle.acl_posix.specs.Mode.{Classes}
use Rattle.acl_nfs4.proofs.EvaluationLemmas.{or_else, verdict-allow, verdict-append, verdict-deny}
use Rattle.acl_nfs4.proofs.MaskOfModes.{mask_of-within}
use Rattle.acl_nfs4.proofs.ModeChangeDenials.{list_any-kept}
use Rattle.acl_nfs4.proofs.ModeChangeGrants.{kept_mask-special, speaks-from, speaks-parts}
use Rattle.acl_nfs4.proofs.ModeChangeKept.{decides-inherited_part, effective_part, inherited_part, kept_of-cases, reduced, unless_empty-cases}
use Rattle.acl_nfs4.proofs.ModeChangeLeast.{least-undenied}

module _ (applies : Who → Bool) (bit : ℕ) where
  abbrev refuses : Nfsace4 → Bool
  refuses ace = speaks applies bit ace && not (is_allow ace.kind)

  abbrev refuses_by_name : Nfsace4 → Bool
  refuses_by_name ace = not (is_special ace.who) && refuses ace

  -- where no entry refuses the bit, it is allowed by them or as what comes behind says
  unrefused : (rest : Option Bool) → unwrap_or rest false ≡ true → (aces : List Nfsace4) → list_any refuses aces ≡ false → unwrap_or (or_else (verdict applies bit aces) rest) false ≡ true
  unrefused rest behind [] none = behind
  unrefused rest behind (ace ∷ aces) none = by (speaks applies bit ace) (is_allow ace.kind) refl none (unrefused rest behind aces)
    where
      by : (s a : Bool) → is_allow ace.kind ≡ a → ((s && not a) || list_any refuses aces) ≡ false
          → (list_any refuses aces ≡ false → unwrap_or (or_else (verdict applies bit aces) rest) false ≡ true)
          → unwrap_or (or_else (option_map (λ (other : Nfsace4). is_allow other.kind) (cond s (Some ace) (find (speaks applies bit) aces))) rest) false ≡ true
      by true true allow none more = allow
      by true false deny none more = absurd (true≢false none)
      by false a is none more = more none

  of_nobody : (applies Owner ≡ false) → (user : ℕ) → verdict applies bit (for_owner user) ≡ None
  of_nobody other user =
      verdict-append applies bit (plain_ace Allow Owner (mask_of user)) (plain_ace Deny Owner (rest_of user))
      ∙ ap₂ or_else
      (verdict-allow applies bit Owner (mask_of user) ∙ ap (λ b. cond (b && has (mask_of user) bit) (Some true) None) other)
      (verdict-deny applies bit Owner (rest_of user) ∙ ap (λ b. cond (b && has (rest_of user) bit) (Some false) None) other)

  for_all : (group other : ℕ) → applies Everyone ≡ true → has (mask_of group) bit ≡ true → has (mask_of other) bit ≡ true → unwrap_or (verdict applies bit (for_others group other)) false ≡ true
  for_all group other everyone in_group in_other =
      ap (λ v. unwrap_or v false)
      (verdict-append applies bit (plain_ace Allow Group (mask_of group) ++ plain_ace Deny Group (rest_of group)) (plain_ace Allow Everyone (mask_of other))
      ∙ ap₂ or_else
      (verdict-append applies bit (plain_ace Allow Group (mask_of group)) (plain_ace Deny Group (rest_of group))
      ∙ ap₂ or_else
      (verdict-allow applies bit Group (mask_of group) ∙ ap (λ h. cond (applies Group && h) (Some true) None) in_group)
      (verdict-deny applies bit Group (rest_of group)))
      (verdict-allow applies bit Everyone (mask_of other) ∙ ap₂ (λ e h. cond (e && h) (Some true) None) everyone in_other))
      ∙ granted (applies Group) (has (rest_of group) bit)
    where
      granted : (g r : Bool) → unwrap_or (or_else (or_else (cond (g && true) (Some true) None) (cond (g && r) (Some false) None)) (Some true)) false ≡ true
      granted true r = refl
      granted false r = refl

  module _ (of_mode : has mode_bits bit ≡ true) where
    -- an entry that refuses the bit beside a mode did so before, by name
    refused_before : (group : ℕ) (ace : Nfsace4) → list_any refuses (kept_of_entry group ace) ≡ true → refuses_by_name ace ≡ true
    unfolding kept_mask
    refused_before group ace =
        kept_of-cases group ace (λ these. list_any refuses these ≡ true → refuses_by_name ace ≡ true)
        (λ d e. absurd (true≢false (sym (speaks-parts applies bit ace (and_parts (speaks applies bit ace) (not (is_allow ace.kind)) (sym (or-false (refuses ace)) ∙ e)).0).0 ∙ d)))
        (λ d i e.
        from_part (effective_part group ace) d refl refl refl
        (sym (ap (λ b. b || list_any refuses (unless_empty (effective_part group ace)))
        (false_unless (refuses (inherited_part ace))
        (λ s. sym (decides-inherited_part ace) ∙ (speaks-parts applies bit (inherited_part ace) (and_parts (speaks applies bit (inherited_part ace)) (not (is_allow ace.kind)) s).0).0)))
        ∙ e))
        (λ d i. from_part (reduced group ace) d refl refl refl)
      where
        not_special : (s : Bool) → is_special ace.who ≡ s → has (kept_mask group ace) bit ≡ true → not s ≡ true
        not_special false e h = refl
        not_special true e h = sym (kept_mask-special applies bit of_mode group ace e) ∙ h

        in_both : (removed : ℕ) → has (without ace.mask removed) bit ≡ true → has ace.mask bit ≡ true
        in_both removed e = (and_parts (has ace.mask bit) (not (has removed bit)) (sym (has-without ace.mask removed bit) ∙ e)).0

        was_there : (s a : Bool) → has (cond s (without ace.mask mode_bits) (cond a (without ace.mask (rest_of group)) ace.mask)) bit ≡ true → has ace.mask bit ≡ true
        was_there true a e = in_both mode_bits e
        was_there false true e = in_both (rest_of group) e
        was_there false false e = e

        from_part : (part : Nfsace4) → decides ace ≡ true → part.who ≡ ace.who → part.kind ≡ ace.kind → part.mask ≡ kept_mask group ace
            → list_any refuses (unless_empty part) ≡ true → refuses_by_name ace ≡ true
        from_part part d who kind mask =
            unless_empty-cases part (λ these. list_any refuses these ≡ true → refuses_by_name ace ≡ true)
            (λ _ e. absurd (true≢false (sym e)))
            (λ _ e.
            let both = and_parts (speaks applies bit part) (not (is_allow part.kind)) (sym (or-false (refuses part)) ∙ e) in
            let parts = speaks-parts applies bit part both.0 in
            let kept : has (kept_mask group ace) bit ≡ true = ap (λ m. has m bit) (sym mask) ∙ parts.2 in
            and_from _ _ (not_special (is_special ace.who) refl kept)
            (and_from _ _
            (speaks-from applies bit ace d (ap applies (sym who) ∙ parts.1) (was_there (is_special ace.who) (is_allow ace.kind) kept))
            (ap (λ k. not (is_allow k)) (sym kind) ∙ both.1)))

    none_kept : (group : ℕ) (aces : List Nfsace4) → list_any refuses_by_name aces ≡ false → list_any refuses (kept_of_list group aces) ≡ false
    none_kept group aces none =
        false_unless (list_any refuses (kept_of_list group aces))
        (λ some. sym none ∙ list_any-weaken (λ ace. list_any refuses (kept_of_entry group ace)) refuses_by_name (refused_before group) aces (sym (list_any-kept refuses group aces) ∙ some))

    -- nor is there one in the list with the mode set
    none_set : (aces : List Nfsace4) (mode : Classes) → list_any refuses_by_name aces ≡ false → list_any refuses_by_name (without_denials aces mode) ≡ false
    none_set aces mode none =
        list_any-append refuses_by_name (for_owner mode.user ++ kept_of_list mode.group aces) (for_others mode.group mode.other)
        ∙ ap₂ (λ a b. a || b)
        (list_any-append refuses_by_name (for_owner mode.user) (kept_of_list mode.group aces)
        ∙ ap₂ (λ a b. a || b)
        (list_any-append refuses_by_name (plain_ace Allow Owner (mask_of mode.user)) (plain_ace Deny Owner (rest_of mode.user))
        ∙ ap₂ (λ a b. a || b) (plain _ refl) (plain _ refl))
        (false_unless (list_any refuses_by_name (kept_of_list mode.group aces))
        (λ some. sym (none_kept mode.group aces none)
        ∙ list_any-weaken refuses_by_name refuses (λ ace e. (and_parts (not (is_special ace.who)) (refuses ace) e).1) (kept_of_list mode.group aces) some)))
        (list_any-append refuses_by_name (plain_ace Allow Group (mask_of mode.group) ++ plain_ace Deny Group (rest_of mode.group)) (plain_ace Allow Everyone (mask_of mode.other))
        ∙ ap₂ (λ a b. a || b)
        (list_any-append refuses_by_name (plain_ace Allow Group (mask_of mode.group)) (plain_ace Deny Group (rest_of mode.group))
        ∙ ap₂ (λ a b. a || b) (plain _ refl) (plain _ refl))
        (plain _ refl))
      where
        plain : (ace : Nfsace4) → is_special ace.who ≡ true → list_any refuses_by_name (unless_empty ace) ≡ false
        plain ace special =
            unless_empty-cases ace (λ these. list_any refuses_by_name these ≡ false) (λ _. refl)
            (λ _. ap (λ s. (not s && refuses ace) || false) special)

    granted_by : (aces : List Nfsace4) (mode : Classes) → applies Owner ≡ false → applies Everyone ≡ true → beyond_group mode ≡ 0 → has (mask_of mode.other) bit ≡ true
        → list_any refuses_by_name aces ≡ false → allows applies bit (without_denials aces mode) ≡ true
    granted_by aces mode owner everyone within in_other none =
        let no_more : has (mask_of mode.other) bit && not (has (mask_of mode.group) bit) ≡ false =
        sym (has-without (mask_of mode.other) (mask_of mode.group) bit) ∙ ap (λ (m : ℕ). has m bit) within ∙ has-zero bit in
        ap (λ v. unwrap_or v false)
        (verdict-append applies bit (for_owner mode.user ++ kept_of_list mode.group aces) (for_others mode.group mode.other)
        ∙ ap (λ v. or_else v (verdict applies bit (for_others mode.group mode.other)))
        (verdict-append applies bit (for_owner mode.user) (kept_of_list mode.group aces)
        ∙ ap (λ v. or_else v (verdict applies bit (kept_of_list mode.group aces))) (of_nobody owner mode.user)))
        ∙ unrefused (verdict applies bit (for_others mode.group mode.other))
        (for_all mode.group mode.other everyone (shared (has (mask_of mode.other) bit) (has (mask_of mode.group) bit) in_other no_more) in_other)
        (kept_of_list mode.group aces) (none_kept mode.group aces none)
      where
        shared : (o g : Bool) → o ≡ true → (o && not g) ≡ false → g ≡ true
        shared true true is none = refl
        shared true false is none = absurd (true≢false none)
        shared false g is none = absurd (true≢false (sym is))

pub later_modes_lift : LaterModesLift
later_modes_lift aces first second owner group requester bit within_first within_second other none in_other =
    let applies = matches owner group requester in
    let of_mode : has mode_bits bit ≡ true = mask_of-within second.other bit in_other in
    let set : with_mode_least aces first ≡ without_denials aces first = least-undenied aces first within_first in
    let still : list_any (refuses_by_name applies bit) (with_mode_least aces first) ≡ false = ap (list_any (refuses_by_name applies bit)) set ∙ none_set applies bit of_mode aces first none in
    ap (allows applies bit) (least-undenied (with_mode_least aces first) second within_second)
    ∙ granted_by applies bit of_mode (with_mode_least aces first) second (ne_eqb requester.uid owner other) refl within_second in_other still
