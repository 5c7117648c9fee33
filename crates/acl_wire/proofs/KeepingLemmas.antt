-- What a mode that leaves named users and groups keeps, and that a later mode leaves nothing of it.
use Rattle.std.proofs.Common.{◌≡◌, ◌∙◌, ℕ, Bool, true, false, cond, not, ◌&&◌, ◌||◌, List, [], ◌∷◌, ◌++◌, refl, sym, ap, ap₂, subst, append-nil}
use Rattle.std.proofs.lemmas.Bool.{true≢false, and_parts, and_from}
use Rattle.std.proofs.lemmas.Grind.{flat_map-append}
use Rattle.std.proofs.lemmas.List.Elements.{filter-append, filter_map-append}
use Rattle.std.proofs.Math.Bool.{and-false}
use Rattle.acl_names.specs.Bits.{has, without}
use Rattle.acl_names.proofs.BitSets.{has-without, no_bits}
use Rattle.acl_nfs4.specs.Ace.{Nfsace4, decides, is_allow, is_audit_or_alarm, is_deny, plain_ace, unless_empty}
use Rattle.acl_nfs4.specs.Flags.{inherit_only}
use Rattle.acl_nfs4.specs.Inheritance.{inherited_entry, inherited_list}
use Rattle.acl_nfs4.specs.Mask.{mask_of, mode_bits, rest_of}
use Rattle.acl_nfs4.specs.ModeChange.{for_others, for_owner, kept_mask, kept_of_entry, kept_of_list, names_someone}
use Rattle.acl_nfs4.specs.ModeChangeLaws.{IsSublist, audits_and_alarms, inherit_only_entries}
use Rattle.acl_nfs4.specs.ModeChangeLaws.IsSublist.{ends}
use Rattle.acl_nfs4.specs.Who.{flags_of_who, is_special}
use Rattle.acl_nfs4.specs.declared.ace.AceType.{AceType}
use Rattle.acl_nfs4.specs.declared.ace.AceType.TheVariants.{Allow, Deny}
use Rattle.acl_nfs4.specs.declared.inheritance.Kind.{Kind}
use Rattle.acl_nfs4.specs.declared.who.Who.{Who}
use Rattle.acl_nfs4.specs.declared.who.Who.TheVariants.{Owner, Group, Everyone, User, NamedGroup}
use Rattle.acl_nfs4.proofs.MaskOfModes.{mask_of-within}
use Rattle.acl_nfs4.proofs.ModeChangeKept.{decides-inherited_part, effective_part, inherited_part, kept-cons, kept-none, kept-twice, kept_of-cases, reduced, unless_empty-cases}
use Rattle.acl_nfs4.proofs.ModeChangeLeaves.{IsSublist-append, audits-kept_of, audits-unless_empty, inherit_only-kept_of, inherit_only-stays, inherited-kept_of, inherited-unless_empty, none-for_others, none-for_owner, not_inheritable-plain_ace, nothing_first}
use Rattle.acl_posix.specs.Mode.{Classes}
use Rattle.acl_wire.specs.Keeping.{all_perms, left_of_entry, left_of_list, with_mode_keep}
use Rattle.acl_wire.specs.KeepingLaws.{LastModeCounts, named_only}
use Rattle.acl_wire.specs.Kept.{raw_unless_empty}
use Rattle.acl_wire.specs.RawAcesWriting.{kind_number, raws_of, special_number}
use Rattle.acl_wire.proofs.PartsLemmas.{raws-unless}

-- ---- the list, entry by entry

left-append : (xs ys : List Nfsace4) → left_of_list (xs ++ ys) ≡ left_of_list xs ++ left_of_list ys
left-append xs ys = flat_map-append left_of_entry xs ys

-- an entry stays if it names someone
pub left-cases : (ace : Nfsace4) (P : List Nfsace4 → Type 0) → (names_someone ace ≡ true → P (ace ∷ []))
    → (names_someone ace ≡ false → P (kept_of_entry all_perms ace)) → P (left_of_entry ace)
left-cases ace P named unnamed = by (names_someone ace) refl
  where
    by : (b : Bool) → names_someone ace ≡ b → P (cond b (ace ∷ []) (kept_of_entry all_perms ace))
    by true e = named e
    by false e = unnamed e

-- ---- a function of lists that goes entry by entry, and that a mode leaves as it is

module _ (read : List Nfsace4 → List Nfsace4) (read-append : (xs ys : List Nfsace4) → read (xs ++ ys) ≡ read xs ++ read ys)
    (none : (kind : AceType) (who : Who) (mask : ℕ) → (is_allow kind || is_deny kind) ≡ true → is_special who ≡ true → read (plain_ace kind who mask) ≡ [])
    (same : (ace : Nfsace4) → read (left_of_entry ace) ≡ read (ace ∷ [])) where
  read-left : (aces : List Nfsace4) → read (left_of_list aces) ≡ read aces
  read-left [] = refl
  read-left (ace ∷ aces) =
      read-append (left_of_entry ace) (left_of_list aces)
      ∙ ap₂ (λ xs ys. xs ++ ys) (same ace) (read-left aces)
      ∙ sym (read-append (ace ∷ []) aces)

  read-with_mode : (aces : List Nfsace4) (mode : Classes) → read (with_mode_keep aces mode) ≡ read aces
  read-with_mode aces mode =
      read-append (for_owner mode.user) (left_of_list aces ++ for_others mode.group mode.other)
      ∙ ap₂ (λ xs ys. xs ++ ys) (none-for_owner read read-append none mode.user)
      (read-append (left_of_list aces) (for_others mode.group mode.other)
      ∙ ap₂ (λ xs ys. xs ++ ys) (read-left aces) (none-for_others read read-append none mode.group mode.other)
      ∙ append-nil (read aces))

-- ---- named entries

-- who is not named by an entry that decides is special
pub unnamed-special : (ace : Nfsace4) → names_someone ace ≡ false → decides ace ≡ true → is_special ace.who ≡ true
unnamed-special ace unnamed d = by (decides ace) (is_special ace.who) unnamed d
  where
    by : (d s : Bool) → (d && not s) ≡ false → d ≡ true → s ≡ true
    by true true u e = refl
    by true false u e = sym u
    by false s u e = absurd (true≢false (sym e))

pub special-unnamed : (ace : Nfsace4) → is_special ace.who ≡ true → names_someone ace ≡ false
special-unnamed ace s = ap (λ b. decides ace && not b) s ∙ and-false (decides ace)

idle-unnamed : (ace : Nfsace4) → decides ace ≡ false → names_someone ace ≡ false
idle-unnamed ace d = ap (λ b. b && not (is_special ace.who)) d

named-one : (ace : Nfsace4) → names_someone ace ≡ false → named_only (ace ∷ []) ≡ []
named-one ace u = ap (λ b. cond b (ace ∷ []) []) u

named-unless_empty : (ace : Nfsace4) → names_someone ace ≡ false → named_only (unless_empty ace) ≡ []
named-unless_empty ace u = unless_empty-cases ace (λ these. named_only these ≡ []) (λ _. refl) (λ _. named-one ace u)

-- what an entry leaves that names nobody names nobody
named-kept_of : (ace : Nfsace4) → names_someone ace ≡ false → named_only (kept_of_entry all_perms ace) ≡ []
named-kept_of ace u =
    kept_of-cases all_perms ace (λ these. named_only these ≡ [])
    (λ _. named-one ace u)
    (λ d i.
    filter-append names_someone (inherited_part ace ∷ []) (unless_empty (effective_part all_perms ace))
    ∙ ap₂ (λ xs ys. xs ++ ys)
    (named-one (inherited_part ace) (idle-unnamed (inherited_part ace) (decides-inherited_part ace)))
    (named-unless_empty (effective_part all_perms ace) (special-unnamed (effective_part all_perms ace) (unnamed-special ace u d))))
    (λ d i. named-unless_empty (reduced all_perms ace) (special-unnamed (reduced all_perms ace) (unnamed-special ace u d)))

named-left : (ace : Nfsace4) → named_only (left_of_entry ace) ≡ named_only (ace ∷ [])
named-left ace = left-cases ace (λ these. named_only these ≡ named_only (ace ∷ [])) (λ _. refl) (λ u. named-kept_of ace u ∙ sym (named-one ace u))

named-plain : (kind : AceType) (who : Who) (mask : ℕ) → (is_allow kind || is_deny kind) ≡ true → is_special who ≡ true → named_only (plain_ace kind who mask) ≡ []
named-plain kind who mask _ s = named-unless_empty _ (special-unnamed (record { kind = kind; flags = flags_of_who who; who = who; mask = mask }) s)

pub named-with_mode : (aces : List Nfsace4) (mode : Classes) → named_only (with_mode_keep aces mode) ≡ named_only aces
named-with_mode aces mode = read-with_mode named_only (filter-append names_someone) named-plain named-left aces mode

-- ---- audits and alarms

pub audits-with_mode : (aces : List Nfsace4) (mode : Classes) → audits_and_alarms (with_mode_keep aces mode) ≡ audits_and_alarms aces
audits-with_mode aces mode =
    read-with_mode audits_and_alarms (filter-append (λ (ace : Nfsace4). is_audit_or_alarm ace.kind))
    (λ kind who mask decided _. audits-unless_empty _ decided)
    (λ ace. left-cases ace (λ these. audits_and_alarms these ≡ audits_and_alarms (ace ∷ [])) (λ _. refl) (λ _. audits-kept_of all_perms ace))
    aces mode

-- ---- what is inherited

pub inherited-with_mode : (kind : Kind) (aces : List Nfsace4) (mode : Classes) → inherited_list kind (with_mode_keep aces mode) ≡ inherited_list kind aces
inherited-with_mode kind aces mode =
    read-with_mode (inherited_list kind) (filter_map-append (inherited_entry kind))
    (λ type who mask _ _. inherited-unless_empty kind _ (not_inheritable-plain_ace type who mask))
    (λ ace. left-cases ace (λ these. inherited_list kind these ≡ inherited_list kind (ace ∷ [])) (λ _. refl) (λ _. inherited-kept_of kind all_perms ace))
    aces mode

-- ---- entries that are only inherited

inherit_only-left_of : (ace : Nfsace4) → IsSublist (inherit_only_entries (ace ∷ [])) (left_of_entry ace)
inherit_only-left_of ace =
    left-cases ace (λ these. IsSublist (inherit_only_entries (ace ∷ [])) these) (λ _. inherit_only-stays ace) (λ _. inherit_only-kept_of all_perms ace)

inherit_only-left : (aces : List Nfsace4) → IsSublist (inherit_only_entries aces) (left_of_list aces)
inherit_only-left [] = ends
inherit_only-left (ace ∷ aces) =
    subst (λ xs. IsSublist xs (left_of_list (ace ∷ aces))) (sym (filter-append (λ (other : Nfsace4). has other.flags inherit_only) (ace ∷ []) aces))
    (IsSublist-append (inherit_only-left_of ace) (inherit_only-left aces))

pub inherit_only-with_mode : (aces : List Nfsace4) (mode : Classes) → IsSublist (inherit_only_entries aces) (with_mode_keep aces mode)
inherit_only-with_mode aces mode =
    subst (λ xs. IsSublist xs (with_mode_keep aces mode)) (append-nil (inherit_only_entries aces))
    (IsSublist-append (nothing_first (for_owner mode.user)) (IsSublist-append (inherit_only-left aces) (nothing_first (for_others mode.group mode.other))))

-- ---- a mode after another

kept-alone : (ace : Nfsace4) → kept_of_list all_perms (ace ∷ []) ≡ kept_of_entry all_perms ace
kept-alone ace = kept-cons all_perms ace [] ∙ append-nil (kept_of_entry all_perms ace)

-- of entries that name nobody is left what is kept beside any mode
unnamed-left : (aces : List Nfsace4) → named_only aces ≡ [] → left_of_list aces ≡ kept_of_list all_perms aces
unnamed-left [] none = refl
unnamed-left (ace ∷ aces) none = by (names_someone ace) none (unnamed-left aces) ∙ sym (kept-cons all_perms ace aces)
  where
    by : (b : Bool) → cond b (ace ∷ named_only aces) (named_only aces) ≡ [] → (named_only aces ≡ [] → left_of_list aces ≡ kept_of_list all_perms aces) → cond b (ace ∷ []) (kept_of_entry all_perms ace) ++ left_of_list aces ≡ kept_of_entry all_perms ace ++ kept_of_list all_perms aces
    by true e rest = cc
    by false e rest = ap (λ (left : List Nfsace4). kept_of_entry all_perms ace ++ left) (rest e)

left_of-twice : (ace : Nfsace4) → left_of_list (left_of_entry ace) ≡ left_of_entry ace
left_of-twice ace =
    left-cases ace (λ these. left_of_list these ≡ these)
    (λ named. ap (λ b. cond b (ace ∷ []) (kept_of_entry all_perms ace) ++ []) named)
    (λ u.
    unnamed-left (kept_of_entry all_perms ace) (named-kept_of ace u)
    ∙ ap (kept_of_list all_perms) (sym (kept-alone ace))
    ∙ kept-twice all_perms (ace ∷ [])
    ∙ kept-alone ace)

left-twice : (aces : List Nfsace4) → left_of_list (left_of_list aces) ≡ left_of_list aces
left-twice [] = refl
left-twice (ace ∷ aces) =
    left-append (left_of_entry ace) (left_of_list aces)
    ∙ ap₂ (λ xs ys. xs ++ ys) (left_of-twice ace) (left-twice aces)

without-within : (set removed : ℕ) → ((k : ℕ) → has set k ≡ true → has removed k ≡ true) → without set removed ≡ 0
without-within set removed within = no_bits _ (λ k. has-without set removed k ∙ none k (has set k) refl)
  where
    none : (k : ℕ) (b : Bool) → has set k ≡ b → (b && not (has removed k)) ≡ false
    none k true e = ap not (within k e)
    none k false e = refl

rest_of-within : (perms k : ℕ) → has (rest_of perms) k ≡ true → has mode_bits k ≡ true
rest_of-within perms k e = (and_parts (has mode_bits k) _ (sym (has-without mode_bits (mask_of perms) k) ∙ e)).0

-- numbers of an entry for one of the three
pub special-plain : (kind : AceType) (who : Who) (mask : ℕ) → is_special who ≡ true
    → raw_unless_empty (record { kind = kind_number kind; flags = 0; mask = mask; special = special_number who; id = 0 }) ≡ raws_of (plain_ace kind who mask)
special-plain kind Owner mask s = sym (raws-unless (record { kind = kind; flags = 0; who = Owner; mask = mask }))
special-plain kind Group mask s = sym (raws-unless (record { kind = kind; flags = 0; who = Group; mask = mask }))
special-plain kind Everyone mask s = sym (raws-unless (record { kind = kind; flags = 0; who = Everyone; mask = mask }))
special-plain kind (User uid) mask s = absurd (true≢false (sym s))
special-plain kind (NamedGroup gid) mask s = absurd (true≢false (sym s))

-- nothing is left of an entry that allows or denies a special identifier bits of the mode alone
left-special : (kind : AceType) (who : Who) (mask : ℕ)
    → (is_allow kind || is_deny kind) ≡ true → is_special who ≡ true → ((k : ℕ) → has mask k ≡ true → has mode_bits k ≡ true)
    → left_of_list (plain_ace kind who mask) ≡ []
unfolding decides has kept_mask
left-special kind who mask decided special within = unnamed-left (plain_ace kind who mask) (named-plain kind who mask decided special) ∙ kept who special
  where
    kept : (who : Who) → is_special who ≡ true → kept_of_list all_perms (plain_ace kind who mask) ≡ []
    kept Owner s = kept-none all_perms _ (and_from _ _ decided refl) refl (without-within mask mode_bits within)
    kept Group s = kept-none all_perms _ (and_from _ _ decided refl) refl (without-within mask mode_bits within)
    kept Everyone s = kept-none all_perms _ (and_from _ _ decided refl) refl (without-within mask mode_bits within)
    kept (User uid) s = absurd (true≢false (sym s))
    kept (NamedGroup gid) s = absurd (true≢false (sym s))

left-for_owner : (user : ℕ) → left_of_list (for_owner user) ≡ []
left-for_owner user =
    left-append (plain_ace Allow Owner (mask_of user)) (plain_ace Deny Owner (rest_of user))
    ∙ ap₂ (λ xs ys. xs ++ ys)
    (left-special Allow Owner (mask_of user) refl refl (mask_of-within user))
    (left-special Deny Owner (rest_of user) refl refl (rest_of-within user))

left-for_others : (group other : ℕ) → left_of_list (for_others group other) ≡ []
left-for_others group other =
    left-append (plain_ace Allow Group (mask_of group) ++ plain_ace Deny Group (rest_of group)) (plain_ace Allow Everyone (mask_of other))
    ∙ ap₂ (λ xs ys. xs ++ ys)
    (left-append (plain_ace Allow Group (mask_of group)) (plain_ace Deny Group (rest_of group))
    ∙ ap₂ (λ xs ys. xs ++ ys)
    (left-special Allow Group (mask_of group) refl refl (mask_of-within group))
    (left-special Deny Group (rest_of group) refl refl (rest_of-within group)))
    (left-special Allow Everyone (mask_of other) refl refl (mask_of-within other))

left-with_mode : (aces : List Nfsace4) (mode : Classes) → left_of_list (with_mode_keep aces mode) ≡ left_of_list aces
left-with_mode aces mode =
    left-append (for_owner mode.user) (left_of_list aces ++ for_others mode.group mode.other)
    ∙ ap₂ (λ xs ys. xs ++ ys) (left-for_owner mode.user)
    (left-append (left_of_list aces) (for_others mode.group mode.other)
    ∙ ap₂ (λ xs ys. xs ++ ys) (left-twice aces) (left-for_others mode.group mode.other)
    ∙ append-nil (left_of_list aces))

pub last_counts : LastModeCounts
last_counts aces first second =
    ap (λ (left : List Nfsace4). for_owner second.user ++ (left ++ for_others second.group second.other)) (left-with_mode aces first)
