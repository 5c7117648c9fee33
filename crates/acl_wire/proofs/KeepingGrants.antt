-- Whom a list with a mode beside named users and groups grants what.
use Rattle.std.proofs.Common.{◌≡◌, ◌≢◌, ◌∙◌, ℕ, Bool, true, false, cond, not, ◌&&◌, ◌||◌, List, [], ◌∷◌, ◌++◌, Option, Some, None, refl, sym, ap, ap₂, filter, find, option_map, unwrap_or}
use Rattle.std.proofs.lemmas.Bool.{true≢false, and_parts, eq-eqb, false≢true, ne_eqb, or_parts}
use Rattle.std.proofs.Math.Bool.{and-false}
use Rattle.acl_names.specs.Bits.{has, without}
use Rattle.acl_names.specs.Requester.{Identity}
use Rattle.acl_names.proofs.BitSets.{has-without}
use Rattle.acl_nfs4.specs.Ace.{Nfsace4, decides, is_allow, plain_ace, unless_empty}
use Rattle.acl_nfs4.specs.Evaluation.{allows, mode_of, of_class, shown_to, speaks, verdict}
use Rattle.acl_nfs4.specs.Mask.{mask_of, mode_bits, rest_of}
use Rattle.acl_nfs4.specs.ModeChange.{for_others, for_owner, kept_mask, kept_of_entry, names_someone}
use Rattle.acl_nfs4.specs.ModeChangeLaws.{GrantsGroup, GrantsOthers, GrantsOwner, names_any}
use Rattle.acl_nfs4.specs.Who.{is_special, matches}
use Rattle.acl_nfs4.specs.declared.ace.AceType.TheVariants.{Allow, Deny}
use Rattle.acl_nfs4.specs.declared.who.Who.{Who}
use Rattle.acl_nfs4.specs.declared.who.Who.TheVariants.{Owner, Group, Everyone, User, NamedGroup}
use Rattle.acl_nfs4.proofs.EvaluationLemmas.{or_else, verdict-allow, verdict-append, verdict-deny, verdict-one, verdict-unless_empty}
use Rattle.acl_nfs4.proofs.EvaluationMode.{shown_to-allows}
use Rattle.acl_nfs4.proofs.MaskOfModes.{has-mask_of, has-rest_of_mask, mask_of-within}
use Rattle.acl_nfs4.proofs.ModeChangeGrants.{kept_mask-special}
use Rattle.acl_nfs4.proofs.ModeChangeKept.{decides-effective_part, decides-inherited_part, decides-reduced, effective_part, inherited_part, kept_of-cases, reduced}
use Rattle.acl_posix.specs.Mode.{AreClasses, Classes}
use Rattle.acl_wire.specs.Keeping.{all_perms, left_of_entry, left_of_list, with_mode_keep}
use Rattle.acl_wire.specs.KeepingLaws.{DecidesByName, DecidesNamedAlike, DecidesRestAlike, ModesStandBesideNamed, class_for, named_only}
use Rattle.acl_wire.proofs.KeepingLemmas.{audits-with_mode, inherit_only-with_mode, inherited-with_mode, left-cases, named-with_mode, unnamed-special}

module _ (applies : Who → Bool) (bit : ℕ) where
  abbrev said : Nfsace4 → Option Bool
  said ace = cond (speaks applies bit ace) (Some (is_allow ace.kind)) None

  verdict-cons : (ace : Nfsace4) (aces : List Nfsace4) → verdict applies bit (ace ∷ aces) ≡ or_else (said ace) (verdict applies bit aces)
  verdict-cons ace aces = verdict-append applies bit (ace ∷ []) aces ∙ ap (λ v. or_else v (verdict applies bit aces)) (verdict-one applies bit ace)

  idle : (ace : Nfsace4) → decides ace ≡ false → speaks applies bit ace ≡ false
  unfolding speaks
  idle ace d = ap (λ b. b && (applies ace.who && has ace.mask bit)) d

  of_nobody : (ace : Nfsace4) → applies ace.who ≡ false → speaks applies bit ace ≡ false
  unfolding speaks
  of_nobody ace a = ap (λ b. decides ace && (b && has ace.mask bit)) a ∙ and-false (decides ace)

  maskless : (ace : Nfsace4) → has ace.mask bit ≡ false → speaks applies bit ace ≡ false
  unfolding speaks
  maskless ace m = ap (λ b. decides ace && (applies ace.who && b)) m ∙ ap (λ b. decides ace && b) (and-false (applies ace.who)) ∙ and-false (decides ace)

  unsaid : (ace : Nfsace4) → speaks applies bit ace ≡ false → said ace ≡ None
  unsaid ace e = ap (λ b. cond b (Some (is_allow ace.kind)) None) e

  -- entries that name nobody to whom this applies say nothing
  unnamed : (aces : List Nfsace4) → names_any applies aces ≡ false → verdict applies bit (named_only aces) ≡ None
  unnamed [] e = refl
  unnamed (ace ∷ aces) e =
      let parts = or_parts (names_someone ace && applies ace.who) (names_any applies aces) e in
      by (names_someone ace) parts.0 (unnamed aces parts.1)
    where
      by : (b : Bool) → (b && applies ace.who) ≡ false → verdict applies bit (named_only aces) ≡ None → verdict applies bit (cond b (ace ∷ named_only aces) (named_only aces)) ≡ None
      by true a rest = verdict-cons ace (named_only aces) ∙ ap₂ or_else (unsaid ace (of_nobody ace a)) rest
      by false a rest = rest

  -- ---- bits of the mode

  module _ (of_mode : has mode_bits bit ≡ true) where
    pair : (who : Who) (perms : ℕ)
        → verdict applies bit (plain_ace Allow who (mask_of perms) ++ plain_ace Deny who (rest_of perms)) ≡ cond (applies who) (Some (has (mask_of perms) bit)) None
    pair who perms =
        verdict-append applies bit (plain_ace Allow who (mask_of perms)) (plain_ace Deny who (rest_of perms))
        ∙ ap₂ or_else (verdict-allow applies bit who (mask_of perms))
        (verdict-deny applies bit who (rest_of perms)
        ∙ ap (λ b. cond (applies who && b) (Some false) None) (has-rest_of_mask perms bit of_mode))
        ∙ settle (applies who) (has (mask_of perms) bit)
      where
        settle : (t h : Bool) → or_else (cond (t && h) (Some true) None) (cond (t && not h) (Some false) None) ≡ cond t (Some h) None
        settle true true = refl
        settle true false = refl
        settle false h = refl

    -- what is left of an entry that names nobody says nothing
    unnamed-left_of : (ace : Nfsace4) → names_someone ace ≡ false → verdict applies bit (kept_of_entry all_perms ace) ≡ None
    unnamed-left_of ace u =
        kept_of-cases all_perms ace (λ these. verdict applies bit these ≡ None)
        (λ d. verdict-one applies bit ace ∙ unsaid ace (idle ace d))
        (λ d _.
        verdict-cons (inherited_part ace) (unless_empty (effective_part all_perms ace))
        ∙ ap₂ or_else (unsaid (inherited_part ace) (idle (inherited_part ace) (decides-inherited_part ace)))
        (verdict-unless_empty applies bit (effective_part all_perms ace) ∙ unsaid (effective_part all_perms ace) (maskless (effective_part all_perms ace) (reduced_to d))))
        (λ d _. verdict-unless_empty applies bit (reduced all_perms ace) ∙ unsaid (reduced all_perms ace) (maskless (reduced all_perms ace) (reduced_to d)))
      where
        reduced_to : decides ace ≡ true → has (kept_mask all_perms ace) bit ≡ false
        reduced_to d = kept_mask-special applies bit of_mode all_perms ace (unnamed-special ace u d)

    -- what is left says what the named entries say
    left-named : (aces : List Nfsace4) → verdict applies bit (left_of_list aces) ≡ verdict applies bit (named_only aces)
    left-named [] = refl
    left-named (ace ∷ aces) = verdict-append applies bit (left_of_entry ace) (left_of_list aces) ∙ by (names_someone ace) refl (left-named aces)
      where
        by : (b : Bool) → names_someone ace ≡ b → verdict applies bit (left_of_list aces) ≡ verdict applies bit (named_only aces)
            → or_else (verdict applies bit (cond b (ace ∷ []) (kept_of_entry all_perms ace))) (verdict applies bit (left_of_list aces)) ≡ verdict applies bit (cond b (ace ∷ named_only aces) (named_only aces))
        by true named rest = ap₂ or_else (verdict-one applies bit ace) rest ∙ sym (verdict-cons ace (named_only aces))
        by false u rest = ap₂ or_else (unnamed-left_of ace u) rest

    module _ (aces : List Nfsace4) (mode : Classes) where
      abbrev behind : Option Bool
      behind = or_else (cond (applies Group) (Some (has (mask_of mode.group) bit)) None) (cond (applies Everyone && has (mask_of mode.other) bit) (Some true) None)

      verdict-keep : verdict applies bit (with_mode_keep aces mode)
          ≡ or_else (cond (applies Owner) (Some (has (mask_of mode.user) bit)) None) (or_else (verdict applies bit (named_only aces)) behind)
      verdict-keep =
          verdict-append applies bit (for_owner mode.user) (left_of_list aces ++ for_others mode.group mode.other)
          ∙ ap₂ or_else (pair Owner mode.user)
          (verdict-append applies bit (left_of_list aces) (for_others mode.group mode.other)
          ∙ ap₂ or_else (left-named aces)
          (verdict-append applies bit (plain_ace Allow Group (mask_of mode.group) ++ plain_ace Deny Group (rest_of mode.group)) (plain_ace Allow Everyone (mask_of mode.other))
          ∙ ap₂ or_else (pair Group mode.group) (verdict-allow applies bit Everyone (mask_of mode.other))))

      keep-owner : applies Owner ≡ true → allows applies bit (with_mode_keep aces mode) ≡ has (mask_of mode.user) bit
      keep-owner owner =
          ap (λ v. unwrap_or v false)
          (verdict-keep ∙ ap (λ b. or_else (cond b (Some (has (mask_of mode.user) bit)) None) (or_else (verdict applies bit (named_only aces)) behind)) owner)

      -- what the named entries say counts, and else what the mode gives
      keep-others : applies Owner ≡ false → applies Everyone ≡ true
          → allows applies bit (with_mode_keep aces mode)
          ≡ unwrap_or (verdict applies bit (named_only aces)) (has (mask_of (cond (applies Group) mode.group mode.other)) bit)
      keep-others owner everyone =
          ap (λ v. unwrap_or v false)
          (verdict-keep ∙ ap (λ b. or_else (cond b (Some (has (mask_of mode.user) bit)) None) (or_else (verdict applies bit (named_only aces)) behind)) owner)
          ∙ by (verdict applies bit (named_only aces)) (applies Group)
        where
          alone : (h : Bool) → unwrap_or (cond h (Some true) None) false ≡ h
          alone true = refl
          alone false = refl

          by : (v : Option Bool) (g : Bool)
              → unwrap_or (or_else v (or_else (cond g (Some (has (mask_of mode.group) bit)) None) (cond (applies Everyone && has (mask_of mode.other) bit) (Some true) None))) false
              ≡ unwrap_or v (has (mask_of (cond g mode.group mode.other)) bit)
          by (Some b) g = refl
          by None true = refl
          by None false = ap (λ e. unwrap_or (cond (e && has (mask_of mode.other) bit) (Some true) None) false) everyone ∙ alone (has (mask_of mode.other) bit)

  -- ---- other bits

  module _ (other : has mode_bits bit ≡ false) where
    outside : (set : ℕ) → ((k : ℕ) → has set k ≡ true → has mode_bits k ≡ true) → has set bit ≡ false
    outside set within = by (has set bit) refl
      where
        by : (b : Bool) → has set bit ≡ b → b ≡ false
        by true e = absurd (true≢false (sym (within bit e) ∙ other))
        by false e = refl

    rest-within : (perms k : ℕ) → has (rest_of perms) k ≡ true → has mode_bits k ≡ true
    rest-within perms k e = (and_parts (has mode_bits k) _ (sym (has-without mode_bits (mask_of perms) k) ∙ e)).0

    silent-allow : (who : Who) (perms : ℕ) → verdict applies bit (plain_ace Allow who (mask_of perms)) ≡ None
    silent-allow who perms =
        verdict-allow applies bit who (mask_of perms)
        ∙ ap (λ b. cond (applies who && b) (Some true) None) (outside (mask_of perms) (mask_of-within perms))
        ∙ ap (λ b. cond b (Some true) None) (and-false (applies who))

    silent-deny : (who : Who) (perms : ℕ) → verdict applies bit (plain_ace Deny who (rest_of perms)) ≡ None
    silent-deny who perms =
        verdict-deny applies bit who (rest_of perms)
        ∙ ap (λ b. cond (applies who && b) (Some false) None) (outside (rest_of perms) (rest-within perms))
        ∙ ap (λ b. cond b (Some false) None) (and-false (applies who))

    silent-pair : (who : Who) (perms : ℕ) → verdict applies bit (plain_ace Allow who (mask_of perms) ++ plain_ace Deny who (rest_of perms)) ≡ None
    silent-pair who perms =
        verdict-append applies bit (plain_ace Allow who (mask_of perms)) (plain_ace Deny who (rest_of perms)) ∙ ap₂ or_else (silent-allow who perms) (silent-deny who perms)

    mask-kept : (ace : Nfsace4) → is_special ace.who ≡ true → has (kept_mask all_perms ace) bit ≡ has ace.mask bit
    unfolding kept_mask
    mask-kept ace s =
        ap (λ b. has (cond b (without ace.mask mode_bits) (cond (is_allow ace.kind) (without ace.mask (rest_of all_perms)) ace.mask)) bit) s
        ∙ has-without ace.mask mode_bits bit
        ∙ ap (λ b. has ace.mask bit && not b) other
        ∙ and_true (has ace.mask bit)
      where
        and_true : (b : Bool) → (b && true) ≡ b
        and_true true = refl
        and_true false = refl

    speaks-alike : (ace part : Nfsace4) → part.who ≡ ace.who → decides part ≡ decides ace → has part.mask bit ≡ has ace.mask bit → speaks applies bit part ≡ speaks applies bit ace
    unfolding speaks
    speaks-alike ace part who d m =
        ap₂ (λ d m. d && (applies part.who && m)) d m ∙ ap (λ w. decides ace && (applies w && has ace.mask bit)) who

    kept-alike : (ace : Nfsace4) → names_someone ace ≡ false → verdict applies bit (kept_of_entry all_perms ace) ≡ verdict applies bit (ace ∷ [])
    kept-alike ace u =
        kept_of-cases all_perms ace (λ these. verdict applies bit these ≡ verdict applies bit (ace ∷ []))
        (λ _. refl)
        (λ d _.
        verdict-cons (inherited_part ace) (unless_empty (effective_part all_perms ace))
        ∙ ap₂ or_else (unsaid (inherited_part ace) (idle (inherited_part ace) (decides-inherited_part ace)))
        (verdict-unless_empty applies bit (effective_part all_perms ace)
        ∙ ap (λ b. cond b (Some (is_allow ace.kind)) None)
        (speaks-alike ace (effective_part all_perms ace) refl (decides-effective_part all_perms ace d ∙ sym d) (mask-kept ace (unnamed-special ace u d))))
        ∙ sym (verdict-one applies bit ace))
        (λ d _.
        verdict-unless_empty applies bit (reduced all_perms ace)
        ∙ ap (λ b. cond b (Some (is_allow ace.kind)) None)
        (speaks-alike ace (reduced all_perms ace) refl (decides-reduced all_perms ace) (mask-kept ace (unnamed-special ace u d)))
        ∙ sym (verdict-one applies bit ace))

    left-alike : (aces : List Nfsace4) → verdict applies bit (left_of_list aces) ≡ verdict applies bit aces
    left-alike [] = refl
    left-alike (ace ∷ aces) =
        verdict-append applies bit (left_of_entry ace) (left_of_list aces)
        ∙ ap₂ or_else
        (left-cases ace (λ these. verdict applies bit these ≡ verdict applies bit (ace ∷ [])) (λ _. refl) (kept-alike ace))
        (left-alike aces)
        ∙ sym (verdict-append applies bit (ace ∷ []) aces)

    keep-rest : (aces : List Nfsace4) (mode : Classes) → verdict applies bit (with_mode_keep aces mode) ≡ verdict applies bit aces
    keep-rest aces mode =
        verdict-append applies bit (for_owner mode.user) (left_of_list aces ++ for_others mode.group mode.other)
        ∙ ap₂ or_else (silent-pair Owner mode.user)
        (verdict-append applies bit (left_of_list aces) (for_others mode.group mode.other)
        ∙ ap₂ or_else (left-alike aces)
        (verdict-append applies bit (plain_ace Allow Group (mask_of mode.group) ++ plain_ace Deny Group (rest_of mode.group)) (plain_ace Allow Everyone (mask_of mode.other))
        ∙ ap₂ or_else (silent-pair Group mode.group) (silent-allow Everyone mode.other)))
        ∙ or_none (verdict applies bit aces)
      where
        or_none : (v : Option Bool) → or_else v None ≡ v
        or_none None = refl
        or_none (Some b) = refl

-- ---- who asks

some-same : {X : Type 0} (x y : X) → Some x ≡ Some y → x ≡ y
some-same x y e = cc

-- what is found first is found first among some if it is one of them
found_among : {X : Type 0} (p q : X → Bool) (xs : List X) (x : X) → find p xs ≡ Some x → q x ≡ true → find p (filter q xs) ≡ Some x
found_among p q [] x found among = cc
found_among {X} p q (y ∷ xs) x found among = by (p y) (q y) refl refl found (found_among p q xs x)
  where
    by : (here kept : Bool) → p y ≡ here → q y ≡ kept → cond here (Some y) (find p xs) ≡ Some x → (find p xs ≡ Some x → q x ≡ true → find p (filter q xs) ≡ Some x)
        → find p (cond kept (y ∷ filter q xs) (filter q xs)) ≡ Some x
    by true true h k first rest = ap (λ b. cond b (Some y) (find p (filter q xs))) h ∙ first
    by true false h k first rest = absurd (true≢false (sym among ∙ sym (ap q (some-same y x first)) ∙ k))
    by false true h k later rest = ap (λ b. cond b (Some y) (find p (filter q xs))) h ∙ rest later among
    by false false h k later rest = rest later among

module _ (aces : List Nfsace4) (mode : Classes) where
  owner-granted : GrantsOwner (with_mode_keep aces mode) mode
  owner-granted owner group requester bit of_mode is = keep-owner (matches owner group requester) bit of_mode aces mode (eq-eqb requester.uid owner is)

  by-name : DecidesByName aces (with_mode_keep aces mode) mode
  by-name owner group requester bit of_mode ne = keep-others (matches owner group requester) bit of_mode aces mode (ne_eqb requester.uid owner ne) refl

  class-granted : (owner group : ℕ) (requester : Identity) (bit : ℕ) → has mode_bits bit ≡ true → requester.uid ≢ owner → names_any (matches owner group requester) aces ≡ false
      → allows (matches owner group requester) bit (with_mode_keep aces mode) ≡ has (mask_of (class_for mode group requester)) bit
  class-granted owner group requester bit of_mode ne none =
      by-name owner group requester bit of_mode ne
      ∙ ap (λ v. unwrap_or v (has (mask_of (class_for mode group requester)) bit)) (unnamed (matches owner group requester) bit aces none)

  group-granted : GrantsGroup aces (with_mode_keep aces mode) mode
  group-granted owner group requester bit of_mode ne none is =
      class-granted owner group requester bit of_mode ne none ∙ ap (λ b. has (mask_of (cond b mode.group mode.other)) bit) is

  others-granted : GrantsOthers aces (with_mode_keep aces mode) mode
  others-granted owner group requester bit of_mode ne none is =
      class-granted owner group requester bit of_mode ne none ∙ ap (λ b. has (mask_of (cond b mode.group mode.other)) bit) is

  rest-alike : DecidesRestAlike aces (with_mode_keep aces mode)
  rest-alike applies bit other = keep-rest applies bit other aces mode

  named-alike : DecidesNamedAlike aces (with_mode_keep aces mode)
  named-alike owner group requester bit ace ne found named = by (has mode_bits bit) refl
    where
      by : (b : Bool) → has mode_bits bit ≡ b → allows (matches owner group requester) bit (with_mode_keep aces mode) ≡ allows (matches owner group requester) bit aces
      by true of_mode =
          by-name owner group requester bit of_mode ne
          ∙ ap (λ (o : Option Nfsace4). unwrap_or (option_map (λ (it : Nfsace4). is_allow it.kind) o) (has (mask_of (class_for mode group requester)) bit)) (found_among (speaks (matches owner group requester) bit) names_someone aces ace found named)
          ∙ sym (ap (λ (o : Option Nfsace4). unwrap_or (option_map (λ (it : Nfsace4). is_allow it.kind) o) false) found)
      by false other = ap (λ v. unwrap_or v false) (rest-alike (matches owner group requester) bit other)

-- ---- the mode that is shown

-- a named who is of no class
named-classless : (class : Who) → is_special class ≡ true → (who : Who) → is_special who ≡ false → of_class class who ≡ false
named-classless class c Owner w = absurd (true≢false w)
named-classless class c Group w = absurd (true≢false w)
named-classless class c Everyone w = absurd (true≢false w)
named-classless Owner c (User uid) w = refl
named-classless Owner c (NamedGroup gid) w = refl
named-classless Group c (User uid) w = refl
named-classless Group c (NamedGroup gid) w = refl
named-classless Everyone c (User uid) w = refl
named-classless Everyone c (NamedGroup gid) w = refl
named-classless (User other) c (User uid) w = absurd (false≢true c)
named-classless (User other) c (NamedGroup gid) w = absurd (false≢true c)
named-classless (NamedGroup other) c (User uid) w = absurd (false≢true c)
named-classless (NamedGroup other) c (NamedGroup gid) w = absurd (false≢true c)

none-of_class : (class : Who) → is_special class ≡ true → (aces : List Nfsace4) → names_any (of_class class) aces ≡ false
none-of_class class c [] = refl
none-of_class class c (ace ∷ aces) = ap₂ (λ a b. a || b) (by (decides ace) (is_special ace.who) refl) (none-of_class class c aces)
  where
    by : (d s : Bool) → is_special ace.who ≡ s → ((d && not s) && of_class class ace.who) ≡ false
    by true true e = refl
    by true false e = named-classless class c ace.who e
    by false s e = refl

module _ (aces : List Nfsace4) (mode : Classes) where
  shown-class : (class : Who) → is_special class ≡ true → (bit : ℕ) → has mode_bits bit ≡ true → of_class class Owner ≡ false → of_class class Everyone ≡ true
      → allows (of_class class) bit (with_mode_keep aces mode) ≡ has (mask_of (cond (of_class class Group) mode.group mode.other)) bit
  shown-class class c bit of_mode owner everyone =
      keep-others (of_class class) bit of_mode aces mode owner everyone
      ∙ ap (λ v. unwrap_or v (has (mask_of (cond (of_class class Group) mode.group mode.other)) bit)) (unnamed (of_class class) bit aces (none-of_class class c aces))

  shown : AreClasses mode → mode_of (with_mode_keep aces mode) ≡ mode
  shown are = λ i. record { user = user i; group = group i; other = other i }
    where
      user : shown_to (of_class Owner) (with_mode_keep aces mode) ≡ mode.user
      user = shown_to-allows (of_class Owner) (with_mode_keep aces mode) mode.user are.user_is
          (λ bit of_mode. keep-owner (of_class Owner) bit of_mode aces mode refl ∙ has-mask_of mode.user bit of_mode)

      group : shown_to (of_class Group) (with_mode_keep aces mode) ≡ mode.group
      group = shown_to-allows (of_class Group) (with_mode_keep aces mode) mode.group are.group_is
          (λ bit of_mode. shown-class Group refl bit of_mode refl refl ∙ has-mask_of mode.group bit of_mode)

      other : shown_to (of_class Everyone) (with_mode_keep aces mode) ≡ mode.other
      other = shown_to-allows (of_class Everyone) (with_mode_keep aces mode) mode.other are.other_is
          (λ bit of_mode. shown-class Everyone refl bit of_mode refl refl ∙ has-mask_of mode.other bit of_mode)

-- ---- the law

pub modes_stand : ModesStandBesideNamed
modes_stand aces mode are = record {
  shown = shown aces mode are;
  owner_granted = owner-granted aces mode;
  group_granted = group-granted aces mode;
  others_granted = others-granted aces mode;
  by_name = by-name aces mode;
  named_alike = named-alike aces mode;
  rest_alike = rest-alike aces mode;
  named_kept = named-with_mode aces mode;
  audits_kept = audits-with_mode aces mode;
  inherit_only_kept = inherit_only-with_mode aces mode;
  inherits_alike = λ kind. inherited-with_mode kind aces mode;
}
