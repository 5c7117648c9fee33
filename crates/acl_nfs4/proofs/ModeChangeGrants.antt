-- Whom a list with a mode set grants what.
use Rattle.std.proofs.Common.{◌≡◌, ℕ, Bool, true, false, cond, not, ◌&&◌, ◌||◌, refl, sym, ap, ◌∙◌, List, [], ◌∷◌, ◌++◌, ap₂, Option, Some, None, inl, inr, ◌⊎◌, find, filter, option_map, unwrap_or}
use Rattle.std.specs.List.{list_any}
use Rattle.std.proofs.lemmas.Bool.{true≢false, and_parts, and_from, eq-eqb, ne_eqb, or_cases, or_from}
use Rattle.std.proofs.lemmas.List.Folds.{list_any-append}
use Rattle.std.proofs.Math.Bool.{and-false, or-false}
use Rattle.acl_names.specs.Bits.{has, without}
use Rattle.acl_nfs4.specs.Ace.{decides, is_allow, is_deny, plain_ace, unless_empty, Nfsace4}
use Rattle.acl_nfs4.specs.Who.{is_special, matches, same_who}
use Rattle.acl_nfs4.specs.Mask.{mask_of, mode_bits, rest_of}
use Rattle.acl_nfs4.specs.Evaluation.{speaks, verdict, allows, shown_to, of_class, mode_of}
use Rattle.acl_nfs4.specs.ModeChange.{kept_of_list, kept_mask, without_repeats, named_whos, denial_of, for_owner, for_others, with_mode, denials, kept_of_entry, names}
use Rattle.acl_nfs4.specs.ModeChangeLaws.{names_any, GrantsOwner, GrantsGroup, GrantsOthers, LimitsNamed}
use Rattle.acl_posix.specs.Mode.{Classes, AreClasses}
use Rattle.acl_nfs4.specs.declared.ace.AceType.TheVariants.{Allow, Deny}
use Rattle.acl_nfs4.specs.declared.who.Who.{Who}
use Rattle.acl_nfs4.specs.declared.who.Who.TheVariants.{Owner, Group, Everyone}
use Rattle.acl_names.proofs.BitSets.{has-without}
use Rattle.acl_nfs4.proofs.MaskOfModes.{has-rest_of_mask, has-mask_of}
use Rattle.acl_nfs4.proofs.ModeChangeDenials.{denies, same_who-refl, same_who-true, list_any-kept, denied_anyway}
use Rattle.acl_nfs4.proofs.ModeChangeTwice.{middle, regroup}
use Rattle.acl_nfs4.proofs.ModeChangeKept.{kept_of-cases, inherited_part, effective_part, reduced, decides-inherited_part, unless_empty-cases}
use Rattle.acl_names.proofs.AnyLemmas.{false_unless, list_any-elim}
use Rattle.acl_names.proofs.AnyLemmas.{list_any-none, list_any-witness, list_any-flat_map, list_any-filter}
use Rattle.acl_names.proofs.AnyLemmas.{list_any-map, list_any-weaken}
use Rattle.acl_nfs4.proofs.EvaluationMode.{shown_to-allows}
use Rattle.acl_nfs4.proofs.EvaluationLemmas.{or_else, verdict-append, verdict-allow, verdict-deny}

module _ (applies : Who → Bool) (bit : ℕ) where
  -- if no entry speaks, nothing is said
  verdict-silent : (aces : List Nfsace4) → list_any (speaks applies bit) aces ≡ false → verdict applies bit aces ≡ None
  verdict-silent [] none = refl
  verdict-silent (ace ∷ aces) none = go (speaks applies bit ace) none (verdict-silent aces)
    where
      go : (b : Bool) → (b || list_any (speaks applies bit) aces) ≡ false → (list_any (speaks applies bit) aces ≡ false → verdict applies bit aces ≡ None)
          → option_map (λ (other : Nfsace4). is_allow other.kind) (cond b (Some ace) (find (speaks applies bit) aces)) ≡ None
      go true none rest = absurd (true≢false none)
      go false none rest = rest none

  abbrev speaks_for : Nfsace4 → Bool
  speaks_for ace = speaks applies bit ace && is_allow ace.kind

  -- if some entry speaks and none of those allows, the bit is denied
  verdict-denied : (aces : List Nfsace4) → list_any (speaks applies bit) aces ≡ true → list_any speaks_for aces ≡ false → verdict applies bit aces ≡ Some false
  verdict-denied [] some none = absurd (true≢false (sym some))
  verdict-denied (ace ∷ aces) some none = go (speaks applies bit ace) some none (is_allow ace.kind) refl (verdict-denied aces)
    where
      go : (b : Bool) → (b || list_any (speaks applies bit) aces) ≡ true → ((b && is_allow ace.kind) || list_any speaks_for aces) ≡ false
          → (a : Bool) → is_allow ace.kind ≡ a
          → (list_any (speaks applies bit) aces ≡ true → list_any speaks_for aces ≡ false → verdict applies bit aces ≡ Some false)
          → option_map (λ (other : Nfsace4). is_allow other.kind) (cond b (Some ace) (find (speaks applies bit) aces)) ≡ Some false
      go true some none true e rest = absurd (true≢false (sym (ap (λ x. x || list_any speaks_for aces) e) ∙ none))
      go true some none false e rest = ap (λ x. Some x) e
      go false some none a e rest = rest some none

  pub speaks-parts : (ace : Nfsace4) → speaks applies bit ace ≡ true → (decides ace ≡ true) × (applies ace.who ≡ true) × (has ace.mask bit ≡ true)
  unfolding speaks
  speaks-parts ace e =
      let outer = and_parts (decides ace) (applies ace.who && has ace.mask bit) e in
      let inner = and_parts (applies ace.who) (has ace.mask bit) outer.1 in
      (outer.0, inner.0, inner.1)

  pub speaks-from : (ace : Nfsace4) → decides ace ≡ true → applies ace.who ≡ true → has ace.mask bit ≡ true → speaks applies bit ace ≡ true
  unfolding speaks
  speaks-from ace d a h = and_from _ _ d (and_from _ _ a h)

  module _ (of_mode : has mode_bits bit ≡ true) where
    -- an ALLOW and a DENY that settle a mode's permissions for a who
    verdict-pair : (who : Who) (perms : ℕ)
        → verdict applies bit (plain_ace Allow who (mask_of perms) ++ plain_ace Deny who (rest_of perms))
        ≡ cond (applies who) (Some (has (mask_of perms) bit)) None
    verdict-pair who perms =
        verdict-append applies bit (plain_ace Allow who (mask_of perms)) (plain_ace Deny who (rest_of perms))
        ∙ ap₂ or_else (verdict-allow applies bit who (mask_of perms))
        (verdict-deny applies bit who (rest_of perms)
        ∙ ap (λ b. cond (applies who && b) (Some false) None) (has-rest_of_mask perms bit of_mode))
        ∙ settle (applies who) (has (mask_of perms) bit)
      where
        settle : (t h : Bool) → or_else (cond (t && h) (Some true) None) (cond (t && not h) (Some false) None) ≡ cond t (Some h) None
        settle true true = refl
        settle true false = refl
        settle false h = refl

    pub kept_mask-special : (group : ℕ) (ace : Nfsace4) → is_special ace.who ≡ true → has (kept_mask group ace) bit ≡ false
    unfolding kept_mask
    kept_mask-special group ace e =
        ap (λ s. has (cond s (without ace.mask mode_bits) (cond (is_allow ace.kind) (without ace.mask (rest_of group)) ace.mask)) bit) e
        ∙ has-without ace.mask mode_bits bit
        ∙ ap (λ b. has ace.mask bit && not b) of_mode
        ∙ and-false (has ace.mask bit)

    kept_mask-allow : (group : ℕ) (ace : Nfsace4) → is_allow ace.kind ≡ true → has (rest_of group) bit ≡ true → has (kept_mask group ace) bit ≡ false
    unfolding kept_mask
    kept_mask-allow group ace allow lacks =
        ap (λ a. has (cond (is_special ace.who) (without ace.mask mode_bits) (cond a (without ace.mask (rest_of group)) ace.mask)) bit) allow
        ∙ go (is_special ace.who)
      where
        go : (s : Bool) → has (cond s (without ace.mask mode_bits) (without ace.mask (rest_of group))) bit ≡ false
        go true = has-without ace.mask mode_bits bit ∙ ap (λ b. has ace.mask bit && not b) of_mode ∙ and-false (has ace.mask bit)
        go false = has-without ace.mask (rest_of group) bit ∙ ap (λ b. has ace.mask bit && not b) lacks ∙ and-false (has ace.mask bit)

    -- an entry that still speaks of a bit of the mode is about a named user or group, and was there
    still_speaks : (group : ℕ) (ace : Nfsace4) → list_any (speaks applies bit) (kept_of_entry group ace) ≡ true
        → ((decides ace && not (is_special ace.who)) && applies ace.who) ≡ true
    still_speaks group ace =
        kept_of-cases group ace (λ these. list_any (speaks applies bit) these ≡ true → ((decides ace && not (is_special ace.who)) && applies ace.who) ≡ true)
        (λ d e. absurd (true≢false (sym (speaks-parts ace (sym (or-false (speaks applies bit ace)) ∙ e)).0 ∙ d)))
        (λ d i e.
        from_part (effective_part group ace) d refl refl
        (sym (ap (λ b. b || list_any (speaks applies bit) (unless_empty (effective_part group ace)))
        (false_unless (speaks applies bit (inherited_part ace))
        (λ s. sym (decides-inherited_part ace) ∙ (speaks-parts (inherited_part ace) s).0)))
        ∙ e))
        (λ d i. from_part (reduced group ace) d refl refl)
      where
        not_special : (s : Bool) → is_special ace.who ≡ s → has (kept_mask group ace) bit ≡ true → not s ≡ true
        not_special false e h = refl
        not_special true e h = sym (kept_mask-special group ace e) ∙ h

        from_part : (part : Nfsace4) → decides ace ≡ true → part.who ≡ ace.who → part.mask ≡ kept_mask group ace
            → list_any (speaks applies bit) (unless_empty part) ≡ true → ((decides ace && not (is_special ace.who)) && applies ace.who) ≡ true
        from_part part d who mask =
            unless_empty-cases part (λ these. list_any (speaks applies bit) these ≡ true → ((decides ace && not (is_special ace.who)) && applies ace.who) ≡ true)
            (λ _ e. absurd (true≢false (sym e)))
            (λ _ e.
            let parts = speaks-parts part (sym (or-false (speaks applies bit part)) ∙ e) in
            and_from _ _
            (and_from _ _ d (not_special (is_special ace.who) refl (ap (λ m. has m bit) (sym mask) ∙ parts.2)))
            (ap applies (sym who) ∙ parts.1))

    -- an entry that still speaks of a bit that the mode's group lacks denies it
    still_denies : (group : ℕ) → has (rest_of group) bit ≡ true → (ace : Nfsace4) → list_any speaks_for (kept_of_entry group ace) ≡ true → false ≡ true
    still_denies group lacks ace =
        kept_of-cases group ace (λ these. list_any speaks_for these ≡ true → false ≡ true)
        (λ d e. sym d ∙ (speaks-parts ace (and_parts (speaks applies bit ace) (is_allow ace.kind) (sym (or-false (speaks_for ace)) ∙ e)).0).0)
        (λ d i e.
        from_part (effective_part group ace) refl refl
        (sym (ap (λ b. b || list_any speaks_for (unless_empty (effective_part group ace)))
        (false_unless (speaks_for (inherited_part ace))
        (λ s. sym (decides-inherited_part ace)
        ∙ (speaks-parts (inherited_part ace) (and_parts (speaks applies bit (inherited_part ace)) (is_allow ace.kind) s).0).0)))
        ∙ e))
        (λ d i. from_part (reduced group ace) refl refl)
      where
        from_part : (part : Nfsace4) → part.kind ≡ ace.kind → part.mask ≡ kept_mask group ace
            → list_any speaks_for (unless_empty part) ≡ true → false ≡ true
        from_part part kind mask =
            unless_empty-cases part (λ these. list_any speaks_for these ≡ true → false ≡ true)
            (λ _ e. e)
            (λ _ e.
            let both = and_parts (speaks applies bit part) (is_allow part.kind) (sym (or-false (speaks_for part)) ∙ e) in
            sym (kept_mask-allow group ace (ap is_allow (sym kind) ∙ both.1) lacks)
            ∙ ap (λ m. has m bit) (sym mask) ∙ (speaks-parts part both.0).2)

    -- ---- the middle of the list

    -- whoever is named once is named
    any_distinct : (whos : List Who) → list_any applies (without_repeats whos) ≡ true → list_any applies whos ≡ true
    any_distinct [] e = e
    any_distinct (who ∷ whos) e = go (applies who) e (any_distinct whos)
      where
        rest : list_any applies (filter (λ other. not (same_who other who)) (without_repeats whos)) ≡ true → list_any applies (without_repeats whos) ≡ true
        rest f =
            list_any-weaken (λ other. not (same_who other who) && applies other) applies
            (λ other both. (and_parts (not (same_who other who)) (applies other) both).1) (without_repeats whos)
            (list_any-filter (λ other. not (same_who other who)) applies (without_repeats whos) ∙ f)

        go : (b : Bool) → (b || list_any applies (filter (λ other. not (same_who other who)) (without_repeats whos))) ≡ true
            → (list_any applies (without_repeats whos) ≡ true → list_any applies whos ≡ true) → (b || list_any applies whos) ≡ true
        go true e again = refl
        go false e again = again (rest e)

    any_named_in : (aces : List Nfsace4) → list_any applies (named_whos aces) ≡ true → names_any applies aces ≡ true
    any_named_in aces e =
        list_any-filter (λ ace. decides ace && not (is_special ace.who)) (λ ace. applies ace.who) aces
        ∙ sym (list_any-map applies (λ (ace : Nfsace4). ace.who) (filter (λ ace. decides ace && not (is_special ace.who)) aces))
        ∙ any_distinct _ e

    module _ (aces : List Nfsace4) (mode : Classes) where
      either_part : (test : Nfsace4 → Bool) → list_any test (middle (rest_of mode.group) aces mode) ≡ true
          → (list_any test (kept_of_list mode.group aces) ≡ true) ⊎ (list_any test (denials (rest_of mode.group) aces) ≡ true)
      either_part test e = or_cases _ _ (sym (list_any-append test (kept_of_list mode.group aces) (denials (rest_of mode.group) aces)) ∙ e)

      -- who is spoken to in the middle was named
      spoken_to_named : list_any (speaks applies bit) (middle (rest_of mode.group) aces mode) ≡ true → names_any applies aces ≡ true
      spoken_to_named e = go (either_part (speaks applies bit) e)
        where
          of_denial : (who : Who) → list_any (speaks applies bit) (denial_of (rest_of mode.group) aces who) ≡ true → applies who ≡ true
          of_denial who =
              unless_empty-cases _ (λ these. list_any (speaks applies bit) these ≡ true → applies who ≡ true)
              (λ _ f. absurd (true≢false (sym f)))
              (λ _ f. (speaks-parts _ (sym (or-false _) ∙ f)).1)

          go : (list_any (speaks applies bit) (kept_of_list mode.group aces) ≡ true) ⊎ (list_any (speaks applies bit) (denials (rest_of mode.group) aces) ≡ true)
              → names_any applies aces ≡ true
          go (inl k) =
              list_any-weaken (λ ace. list_any (speaks applies bit) (kept_of_entry mode.group ace)) (λ ace. (decides ace && not (is_special ace.who)) && applies ace.who)
              (still_speaks mode.group) aces
              (sym (list_any-kept (speaks applies bit) mode.group aces) ∙ k)
          go (inr d) =
              any_named_in aces
              (list_any-weaken (λ who. list_any (speaks applies bit) (denial_of (rest_of mode.group) aces who)) applies of_denial (named_whos aces)
              (sym (list_any-flat_map (speaks applies bit) (denial_of (rest_of mode.group) aces) (named_whos aces)) ∙ d))

      middle_silent : names_any applies aces ≡ false → verdict applies bit (middle (rest_of mode.group) aces mode) ≡ None
      middle_silent none =
          verdict-silent (middle (rest_of mode.group) aces mode)
          (false_unless (list_any (speaks applies bit) (middle (rest_of mode.group) aces mode)) (λ some. sym none ∙ spoken_to_named some))

      -- nothing in the middle allows a bit that the mode's group lacks
      none_allows : has (rest_of mode.group) bit ≡ true → list_any speaks_for (middle (rest_of mode.group) aces mode) ≡ false
      none_allows lacks = false_unless (list_any speaks_for (middle (rest_of mode.group) aces mode)) (λ some. go (either_part speaks_for some))
        where
          of_denial : (who : Who) → list_any speaks_for (denial_of (rest_of mode.group) aces who) ≡ true → false ≡ true
          of_denial who =
              unless_empty-cases _ (λ these. list_any speaks_for these ≡ true → false ≡ true)
              (λ _ f. f)
              (λ _ f. (and_parts _ false (sym (or-false _) ∙ f)).1)

          go : (list_any speaks_for (kept_of_list mode.group aces) ≡ true) ⊎ (list_any speaks_for (denials (rest_of mode.group) aces) ≡ true) → false ≡ true
          go (inl k) =
              list_any-elim (λ ace. list_any speaks_for (kept_of_entry mode.group ace)) (false ≡ true) (still_denies mode.group lacks) aces
              (sym (list_any-kept speaks_for mode.group aces) ∙ k)
          go (inr d) =
              list_any-elim (λ who. list_any speaks_for (denial_of (rest_of mode.group) aces who)) (false ≡ true) of_denial (named_whos aces)
              (sym (list_any-flat_map speaks_for (denial_of (rest_of mode.group) aces) (named_whos aces)) ∙ d)

      -- and whoever is named is denied it there
      some_speaks : has (rest_of mode.group) bit ≡ true → names_any applies aces ≡ true → list_any (speaks applies bit) (middle (rest_of mode.group) aces mode) ≡ true
      some_speaks lacks =
          list_any-witness (λ ace. (decides ace && not (is_special ace.who)) && applies ace.who) _ aces
          (λ ace e among.
          let parts = and_parts (decides ace && not (is_special ace.who)) (applies ace.who) e in
          list_any-weaken (denies ace.who bit) (speaks applies bit) (spoken ace.who parts.1) (middle (rest_of mode.group) aces mode)
          (denied_anyway mode.group (rest_of mode.group) aces ace.who bit (among (names ace.who) (and_from _ _ parts.0 (same_who-refl ace.who))) lacks))
        where
          spoken : (who : Who) → applies who ≡ true → (ace : Nfsace4) → denies who bit ace ≡ true → speaks applies bit ace ≡ true
          spoken who a ace e =
              let outer = and_parts (decides ace && (is_deny ace.kind && same_who ace.who who)) (has ace.mask bit) e in
              let inner = and_parts (decides ace) (is_deny ace.kind && same_who ace.who who) outer.0 in
              speaks-from ace inner.0
              (ap applies (same_who-true ace.who who (and_parts (is_deny ace.kind) (same_who ace.who who) inner.1).1) ∙ a)
              outer.1

      middle_denies : has (rest_of mode.group) bit ≡ true → names_any applies aces ≡ true → verdict applies bit (middle (rest_of mode.group) aces mode) ≡ Some false
      middle_denies lacks named = verdict-denied (middle (rest_of mode.group) aces mode) (some_speaks lacks named) (none_allows lacks)

      -- ---- the whole list

      verdict-with_mode : verdict applies bit (with_mode aces mode)
          ≡ or_else (cond (applies Owner) (Some (has (mask_of mode.user) bit)) None)
          (or_else (verdict applies bit (middle (rest_of mode.group) aces mode))
          (or_else (cond (applies Group) (Some (has (mask_of mode.group) bit)) None)
          (cond (applies Everyone && has (mask_of mode.other) bit) (Some true) None)))
      verdict-with_mode =
          ap (verdict applies bit) (regroup (rest_of mode.group) aces mode)
          ∙ verdict-append applies bit (for_owner mode.user) (middle (rest_of mode.group) aces mode ++ for_others mode.group mode.other)
          ∙ ap₂ or_else (verdict-pair Owner mode.user)
          (verdict-append applies bit (middle (rest_of mode.group) aces mode) (for_others mode.group mode.other)
          ∙ ap (or_else (verdict applies bit (middle (rest_of mode.group) aces mode)))
          (verdict-append applies bit (plain_ace Allow Group (mask_of mode.group) ++ plain_ace Deny Group (rest_of mode.group)) (plain_ace Allow Everyone (mask_of mode.other))
          ∙ ap₂ or_else (verdict-pair Group mode.group) (verdict-allow applies bit Everyone (mask_of mode.other))))

      allowed-owner : applies Owner ≡ true → allows applies bit (with_mode aces mode) ≡ has (mask_of mode.user) bit
      allowed-owner owner =
          ap (λ v. unwrap_or v false)
          (verdict-with_mode
          ∙ ap (λ b. or_else (cond b (Some (has (mask_of mode.user) bit)) None)
          (or_else (verdict applies bit (middle (rest_of mode.group) aces mode))
          (or_else (cond (applies Group) (Some (has (mask_of mode.group) bit)) None)
          (cond (applies Everyone && has (mask_of mode.other) bit) (Some true) None)))) owner)

      -- to those who are not the owner the middle speaks first
      allowed-others : (said : Option Bool) → applies Owner ≡ false → verdict applies bit (middle (rest_of mode.group) aces mode) ≡ said
          → allows applies bit (with_mode aces mode)
          ≡ unwrap_or (or_else said
          (or_else (cond (applies Group) (Some (has (mask_of mode.group) bit)) None)
          (cond (applies Everyone && has (mask_of mode.other) bit) (Some true) None))) false
      allowed-others said owner is =
          ap (λ v. unwrap_or v false)
          (verdict-with_mode
          ∙ ap₂ (λ b v. or_else (cond b (Some (has (mask_of mode.user) bit)) None)
          (or_else v
          (or_else (cond (applies Group) (Some (has (mask_of mode.group) bit)) None)
          (cond (applies Everyone && has (mask_of mode.other) bit) (Some true) None)))) owner is)

      allowed-group : applies Owner ≡ false → applies Group ≡ true → names_any applies aces ≡ false
          → allows applies bit (with_mode aces mode) ≡ has (mask_of mode.group) bit
      allowed-group owner group none =
          allowed-others None owner (middle_silent none)
          ∙ ap (λ b. unwrap_or (or_else (cond b (Some (has (mask_of mode.group) bit)) None)
          (cond (applies Everyone && has (mask_of mode.other) bit) (Some true) None)) false) group

      allowed-other : applies Owner ≡ false → applies Group ≡ false → applies Everyone ≡ true → names_any applies aces ≡ false
          → allows applies bit (with_mode aces mode) ≡ has (mask_of mode.other) bit
      allowed-other owner group everyone none =
          allowed-others None owner (middle_silent none)
          ∙ ap₂ (λ b c. unwrap_or (or_else (cond b (Some (has (mask_of mode.group) bit)) None)
          (cond (c && has (mask_of mode.other) bit) (Some true) None)) false) group everyone
          ∙ alone (has (mask_of mode.other) bit)
        where
          alone : (b : Bool) → unwrap_or (cond b (Some true) None) false ≡ b
          alone true = refl
          alone false = refl

      allowed-named : applies Owner ≡ false → names_any applies aces ≡ true → has (mask_of mode.group) bit ≡ false
          → allows applies bit (with_mode aces mode) ≡ false
      allowed-named owner named lacks =
          allowed-others (Some false) owner (middle_denies (has-rest_of_mask mode.group bit of_mode ∙ ap not lacks) named)

-- ---- the law

-- no named who is among those by whom a mode is reported
names-none : (applies : Who → Bool) → ((who : Who) → is_special who ≡ false → applies who ≡ false) → (aces : List Nfsace4) → names_any applies aces ≡ false
names-none applies none aces = list_any-none (λ ace. (decides ace && not (is_special ace.who)) && applies ace.who) (λ ace. each (decides ace) ace.who (is_special ace.who) refl) aces
  where
    each : (d : Bool) (who : Who) (s : Bool) → is_special who ≡ s → ((d && not s) && applies who) ≡ false
    each d who true e = ap (λ b. b && applies who) (and-false d)
    each d who false e = ap (λ b. (d && true) && b) (none who e) ∙ and-false (d && true)

module _ (aces : List Nfsace4) (mode : Classes) where
  pub grants-owner : GrantsOwner (with_mode aces mode) mode
  grants-owner owner group requester bit of_mode is =
      allowed-owner (matches owner group requester) bit of_mode aces mode (eq-eqb requester.uid owner is)

  pub grants-group : GrantsGroup aces (with_mode aces mode) mode
  grants-group owner group requester bit of_mode ne none is =
      allowed-group (matches owner group requester) bit of_mode aces mode (ne_eqb requester.uid owner ne) is none

  pub grants-others : GrantsOthers aces (with_mode aces mode) mode
  grants-others owner group requester bit of_mode ne none is =
      allowed-other (matches owner group requester) bit of_mode aces mode (ne_eqb requester.uid owner ne) is refl none

  pub limits-named : LimitsNamed aces (with_mode aces mode) mode
  limits-named owner group requester bit of_mode ne named lacks =
      allowed-named (matches owner group requester) bit of_mode aces mode (ne_eqb requester.uid owner ne) named lacks

-- a named who is among none of them
not_of_class : (class : Who) → is_special class ≡ true → (who : Who) → is_special who ≡ false → of_class class who ≡ false
not_of_class class special who named = or_from _ _ (other class special) (other Everyone refl)
  where
    other : (special : Who) → is_special special ≡ true → same_who who special ≡ false
    other special is =
        false_unless (same_who who special)
        (λ same. sym named ∙ ap is_special (same_who-true who special same) ∙ is)

-- the mode shown is the mode set
pub mode_of-with_mode : (aces : List Nfsace4) (mode : Classes) → AreClasses mode → mode_of (with_mode aces mode) ≡ mode
mode_of-with_mode aces mode are = λ i. record { user = user i; group = group i; other = other i }
  where
    user : shown_to (of_class Owner) (with_mode aces mode) ≡ mode.user
    user = shown_to-allows (of_class Owner) (with_mode aces mode) mode.user are.user_is
        (λ bit of_mode. allowed-owner (of_class Owner) bit of_mode aces mode refl ∙ has-mask_of mode.user bit of_mode)

    group : shown_to (of_class Group) (with_mode aces mode) ≡ mode.group
    group = shown_to-allows (of_class Group) (with_mode aces mode) mode.group are.group_is
        (λ bit of_mode. allowed-group (of_class Group) bit of_mode aces mode refl refl (names-none (of_class Group) (not_of_class Group refl) aces) ∙ has-mask_of mode.group bit of_mode)

    other : shown_to (of_class Everyone) (with_mode aces mode) ≡ mode.other
    other = shown_to-allows (of_class Everyone) (with_mode aces mode) mode.other are.other_is
        (λ bit of_mode. allowed-other (of_class Everyone) bit of_mode aces mode refl refl refl (names-none (of_class Everyone) (not_of_class Everyone refl) aces) ∙ has-mask_of mode.other bit of_mode)
