-- What a change of mode leaves alone.
use Rattle.std.proofs.Common.{◌≡◌, ℕ, Bool, true, false, cond, not, ◌&&◌, ◌||◌, refl, sym, ap, ◌∙◌, subst}
use Rattle.std.proofs.Common.{List, [], ◌∷◌, ◌++◌, append-nil, ap₂, None, flat_map}
use Rattle.std.proofs.Common.{bit_or, option_map}
use Rattle.std.specs.List.{cons_option}
use Rattle.std.proofs.lemmas.Bool.{and_parts, or_parts, not-true}
use Rattle.std.proofs.lemmas.List.Elements.{filter-append, filter_map-append}
use Rattle.std.proofs.Math.Bool.{and-false, or-false}
use Rattle.acl_names.specs.Bits.{has}
use Rattle.acl_nfs4.specs.Ace.{decides, is_allow, is_deny, plain_ace, unless_empty, is_inheritable, is_audit_or_alarm, Nfsace4}
use Rattle.acl_nfs4.specs.Who.{flags_of_who, is_special}
use Rattle.acl_nfs4.specs.Mask.{mask_of, rest_of}
use Rattle.acl_nfs4.specs.Flags.{inherit_only, inheritance_flags, file_inherit, directory_inherit, no_propagate_inherit}
use Rattle.acl_nfs4.specs.Inheritance.{flags_below, inherited_entry, inherited_list, with_inheritance_flags}
use Rattle.acl_nfs4.specs.ModeChange.{kept_of_list, named_whos, denial_of, for_owner, for_others, with_denials, denials, kept_of_entry}
use Rattle.acl_nfs4.specs.ModeChangeLaws.{IsSublist, audits_and_alarms, inherit_only_entries}
use Rattle.acl_nfs4.specs.ModeChangeLaws.IsSublist.{ends, skips, keeps}
use Rattle.acl_posix.specs.Mode.{Classes}
use Rattle.acl_nfs4.specs.declared.ace.AceType.{AceType}
use Rattle.acl_nfs4.specs.declared.ace.AceType.TheVariants.{Allow, Deny, Audit, Alarm}
use Rattle.acl_nfs4.specs.declared.inheritance.Kind.{Kind}
use Rattle.acl_nfs4.specs.declared.inheritance.Kind.TheVariants.{File, Dir}
use Rattle.acl_nfs4.specs.declared.who.Who.{Who}
use Rattle.acl_nfs4.specs.declared.who.Who.TheVariants.{Owner, Group, Everyone}
use Rattle.acl_names.proofs.BitSets.{has-and, has-or, has-without, same_bits}
use Rattle.acl_nfs4.proofs.ModeChangeKept.{kept_of-cases, kept-cons, inherited_part, effective_part, reduced, unless_empty-cases, is_inheritable-effective_part}
use Rattle.acl_nfs4.proofs.AceLemmas.{by_flags_of_who}

-- ---- a function of lists that goes entry by entry, and that a change of mode leaves as it is

module _ (read : List Nfsace4 → List Nfsace4) (read-append : (xs ys : List Nfsace4) → read (xs ++ ys) ≡ read xs ++ read ys) where
  two : (xs ys : List Nfsace4) → read xs ≡ [] → read ys ≡ [] → read (xs ++ ys) ≡ []
  two xs ys x y = read-append xs ys ∙ ap₂ (λ zs ws. zs ++ ws) x y

  module _ (none : (kind : AceType) (who : Who) (mask : ℕ) → (is_allow kind || is_deny kind) ≡ true → is_special who ≡ true → read (plain_ace kind who mask) ≡ []) where
    pub none-for_owner : (user : ℕ) → read (for_owner user) ≡ []
    none-for_owner user = two (plain_ace Allow Owner (mask_of user)) (plain_ace Deny Owner (rest_of user)) (none Allow Owner _ refl refl) (none Deny Owner _ refl refl)

    pub none-for_others : (group other : ℕ) → read (for_others group other) ≡ []
    none-for_others group other =
        two (plain_ace Allow Group (mask_of group) ++ plain_ace Deny Group (rest_of group)) (plain_ace Allow Everyone (mask_of other))
        (two (plain_ace Allow Group (mask_of group)) (plain_ace Deny Group (rest_of group)) (none Allow Group _ refl refl) (none Deny Group _ refl refl))
        (none Allow Everyone _ refl refl)

  module _ (read-nil : read [] ≡ []) where
    read-flat_map : (f : Who → List Nfsace4) → ((who : Who) → read (f who) ≡ []) → (whos : List Who) → read (flat_map f whos) ≡ []
    read-flat_map f none [] = read-nil
    read-flat_map f none (who ∷ whos) = read-append (f who) (flat_map f whos) ∙ ap₂ (λ xs ys. xs ++ ys) (none who) (read-flat_map f none whos)

    read-kept : (group : ℕ) → ((ace : Nfsace4) → read (kept_of_entry group ace) ≡ read (ace ∷ [])) → (aces : List Nfsace4) → read (kept_of_list group aces) ≡ read aces
    read-kept group same [] = refl
    read-kept group same (ace ∷ aces) =
        ap read (kept-cons group ace aces)
        ∙ read-append (kept_of_entry group ace) (kept_of_list group aces)
        ∙ ap₂ (λ xs ys. xs ++ ys) (same ace) (read-kept group same aces)
        ∙ sym (read-append (ace ∷ []) aces)

    read-with_mode : (bits : ℕ) (aces : List Nfsace4) (mode : Classes)
        → ((kind : AceType) (who : Who) (mask : ℕ) → (is_allow kind || is_deny kind) ≡ true → read (plain_ace kind who mask) ≡ [])
        → ((ace : Nfsace4) → read (kept_of_entry mode.group ace) ≡ read (ace ∷ []))
        → read (with_denials bits aces mode) ≡ read aces
    read-with_mode bits aces mode none same =
        read-append ((for_owner mode.user ++ kept_of_list mode.group aces) ++ denials bits aces) (for_others mode.group mode.other)
        ∙ ap₂ (λ xs ys. xs ++ ys)
        (read-append (for_owner mode.user ++ kept_of_list mode.group aces) (denials bits aces)
        ∙ ap₂ (λ xs ys. xs ++ ys)
        (read-append (for_owner mode.user) (kept_of_list mode.group aces)
        ∙ ap₂ (λ xs ys. xs ++ ys)
        (none-for_owner (λ kind who mask decided _. none kind who mask decided) mode.user)
        (read-kept mode.group same aces))
        (read-flat_map (denial_of bits aces) (λ who. none Deny who _ refl) (named_whos aces)))
        (none-for_others (λ kind who mask decided _. none kind who mask decided) mode.group mode.other)
        ∙ append-nil (read aces ++ [])
        ∙ append-nil (read aces)

-- ---- audits and alarms

no_audit : (kind : AceType) → (is_allow kind || is_deny kind) ≡ true → is_audit_or_alarm kind ≡ false
no_audit Allow e = refl
no_audit Deny e = refl
no_audit Audit e = sym e
no_audit Alarm e = sym e

decides-kind : (ace : Nfsace4) → decides ace ≡ true → (is_allow ace.kind || is_deny ace.kind) ≡ true
unfolding decides
decides-kind ace e = (and_parts (is_allow ace.kind || is_deny ace.kind) _ e).0

audits-one : (ace : Nfsace4) → (is_allow ace.kind || is_deny ace.kind) ≡ true → audits_and_alarms (ace ∷ []) ≡ []
audits-one ace e = ap (λ b. cond b (ace ∷ []) []) (no_audit ace.kind e)

pub audits-unless_empty : (ace : Nfsace4) → (is_allow ace.kind || is_deny ace.kind) ≡ true → audits_and_alarms (unless_empty ace) ≡ []
audits-unless_empty ace e = unless_empty-cases ace (λ these. audits_and_alarms these ≡ []) (λ _. refl) (λ _. audits-one ace e)

pub audits-kept_of : (group : ℕ) (ace : Nfsace4) → audits_and_alarms (kept_of_entry group ace) ≡ audits_and_alarms (ace ∷ [])
audits-kept_of group ace =
    kept_of-cases group ace (λ these. audits_and_alarms these ≡ audits_and_alarms (ace ∷ []))
    (λ _. refl)
    (λ d i.
    filter-append (λ (other : Nfsace4). is_audit_or_alarm other.kind) (inherited_part ace ∷ []) (unless_empty (effective_part group ace))
    ∙ ap₂ (λ xs ys. xs ++ ys) (audits-one (inherited_part ace) (decides-kind ace d)) (audits-unless_empty (effective_part group ace) (decides-kind ace d))
    ∙ sym (audits-one ace (decides-kind ace d)))
    (λ d i. audits-unless_empty (reduced group ace) (decides-kind ace d) ∙ sym (audits-one ace (decides-kind ace d)))

pub audits-with_mode : (bits : ℕ) (aces : List Nfsace4) (mode : Classes) → audits_and_alarms (with_denials bits aces mode) ≡ audits_and_alarms aces
audits-with_mode bits aces mode =
    read-with_mode audits_and_alarms (filter-append (λ (ace : Nfsace4). is_audit_or_alarm ace.kind)) refl bits aces mode
    (λ kind who mask decided. audits-unless_empty _ decided)
    (audits-kept_of mode.group)

-- ---- what is inherited

-- an entry that is for neither files nor directories is not inherited
not_inherited : (kind : Kind) (ace : Nfsace4) → is_inheritable ace ≡ false → inherited_entry kind ace ≡ None
not_inherited kind ace i =
    let parts = or_parts (has ace.flags file_inherit) (has ace.flags directory_inherit) i in
    ap₂ (λ f d. option_map (with_inheritance_flags ace) (flags_below kind f d (has ace.flags no_propagate_inherit))) parts.0 parts.1
    ∙ ap (option_map (with_inheritance_flags ace)) (none kind (has ace.flags no_propagate_inherit))
  where
    none : (kind : Kind) (stops : Bool) → flags_below kind false false stops ≡ None
    none File true = refl
    none File false = refl
    none Dir true = refl
    none Dir false = refl

pub inherited-unless_empty : (kind : Kind) (ace : Nfsace4) → is_inheritable ace ≡ false → inherited_list kind (unless_empty ace) ≡ []
inherited-unless_empty kind ace i =
    unless_empty-cases ace (λ these. inherited_list kind these ≡ []) (λ _. refl) (λ _. ap (λ o. cons_option o []) (not_inherited kind ace i))

-- the part that is only inherited is inherited as the entry is
inherited-inherited_part : (kind : Kind) (ace : Nfsace4) → inherited_entry kind (inherited_part ace) ≡ inherited_entry kind ace
unfolding has
inherited-inherited_part kind ace =
    ap₂ (λ f d. option_map (with_inheritance_flags (inherited_part ace)) (flags_below kind f d (has (bit_or ace.flags 8) 2)))
    (beside 0 refl) (beside 1 refl)
    ∙ ap (λ n. option_map (with_inheritance_flags (inherited_part ace)) (flags_below kind (has ace.flags 0) (has ace.flags 1) n)) (beside 2 refl)
    ∙ ap (λ rest. option_map (λ flags. record ace { flags = bit_or rest flags }) (flags_below kind (has ace.flags 0) (has ace.flags 1) (has ace.flags 2)))
    (same_bits _ _ (λ k.
    has-without (bit_or ace.flags 8) inheritance_flags k
    ∙ ap (λ b. b && not (has inheritance_flags k)) (has-or ace.flags 8 k)
    ∙ within k (has ace.flags k)
    ∙ sym (has-without ace.flags inheritance_flags k)))
  where
    beside : (k : ℕ) → has 8 k ≡ false → has (bit_or ace.flags 8) k ≡ has ace.flags k
    beside k e = has-or ace.flags 8 k ∙ ap (λ b. has ace.flags k || b) e ∙ or-false (has ace.flags k)

    within : (k : ℕ) (b : Bool) → ((b || has 8 k) && not (has inheritance_flags k)) ≡ (b && not (has inheritance_flags k))
    within k b = go (has 8 k) refl
      where
        go : (c : Bool) → has 8 k ≡ c → ((b || c) && not (has inheritance_flags k)) ≡ (b && not (has inheritance_flags k))
        go false e = ap (λ x. x && not (has inheritance_flags k)) (or-false b)
        go true e =
            let inside : has inheritance_flags k ≡ true = (and_parts (has 8 k) (has inheritance_flags k) (sym (has-and 8 inheritance_flags k) ∙ e)).1 in
            ap (λ x. (b || true) && not x) inside ∙ and-false (b || true) ∙ sym (ap (λ x. b && not x) inside ∙ and-false b)

pub inherited-kept_of : (kind : Kind) (group : ℕ) (ace : Nfsace4) → inherited_list kind (kept_of_entry group ace) ≡ inherited_list kind (ace ∷ [])
inherited-kept_of kind group ace =
    kept_of-cases group ace (λ these. inherited_list kind these ≡ inherited_list kind (ace ∷ []))
    (λ _. refl)
    (λ d i.
    ap₂ cons_option (inherited-inherited_part kind ace)
    (inherited-unless_empty kind (effective_part group ace) (is_inheritable-effective_part group ace)))
    (λ d i. inherited-unless_empty kind (reduced group ace) i ∙ sym (ap (λ o. cons_option o []) (not_inherited kind ace i)))

pub not_inheritable-plain_ace : (kind : AceType) (who : Who) (mask : ℕ)
    → is_inheritable (record { kind = kind; flags = flags_of_who who; who = who; mask = mask }) ≡ false
unfolding has
not_inheritable-plain_ace kind who mask = by_flags_of_who (λ flags. is_inheritable (record { kind = kind; flags = flags; who = who; mask = mask }) ≡ false) refl refl who

pub inherited-with_mode : (bits : ℕ) (kind : Kind) (aces : List Nfsace4) (mode : Classes) → inherited_list kind (with_denials bits aces mode) ≡ inherited_list kind aces
inherited-with_mode bits kind aces mode =
    read-with_mode (inherited_list kind) (filter_map-append (inherited_entry kind)) refl bits aces mode
    (λ type who mask _. inherited-unless_empty kind _ (not_inheritable-plain_ace type who mask))
    (inherited-kept_of kind mode.group)

-- ---- entries that are only inherited

pub nothing_first : {X : Type 0} (ys : List X) → IsSublist [] ys
nothing_first [] = ends
nothing_first (y ∷ ys) = skips (nothing_first ys)

pub IsSublist-append : {X : Type 0} {xs ys zs ws : List X} → IsSublist xs ys → IsSublist zs ws → IsSublist (xs ++ zs) (ys ++ ws)
IsSublist-append ends q = q
IsSublist-append (skips p) q = skips (IsSublist-append p q)
IsSublist-append (keeps p) q = keeps (IsSublist-append p q)

decides-not_inherit_only : (ace : Nfsace4) → decides ace ≡ true → has ace.flags inherit_only ≡ false
unfolding decides
decides-not_inherit_only ace e = not-true (has ace.flags inherit_only) (and_parts (is_allow ace.kind || is_deny ace.kind) _ e).1

pub inherit_only-stays : (ace : Nfsace4) → IsSublist (inherit_only_entries (ace ∷ [])) (ace ∷ [])
inherit_only-stays ace = by (has ace.flags inherit_only)
  where
    by : (b : Bool) → IsSublist (cond b (ace ∷ []) []) (ace ∷ [])
    by true = keeps ends
    by false = skips ends

pub inherit_only-kept_of : (group : ℕ) (ace : Nfsace4) → IsSublist (inherit_only_entries (ace ∷ [])) (kept_of_entry group ace)
inherit_only-kept_of group ace =
    kept_of-cases group ace (λ these. IsSublist (inherit_only_entries (ace ∷ [])) these)
    (λ _. inherit_only-stays ace)
    (λ d i. gone d _)
    (λ d i. gone d _)
  where
    gone : decides ace ≡ true → (these : List Nfsace4) → IsSublist (inherit_only_entries (ace ∷ [])) these
    gone d these = subst (λ xs. IsSublist xs these) (sym (ap (λ b. cond b (ace ∷ []) []) (decides-not_inherit_only ace d))) (nothing_first these)

inherit_only-kept : (group : ℕ) (aces : List Nfsace4) → IsSublist (inherit_only_entries aces) (kept_of_list group aces)
inherit_only-kept group [] = ends
inherit_only-kept group (ace ∷ aces) =
    subst (λ xs. IsSublist xs (kept_of_list group (ace ∷ aces))) (sym (filter-append (λ (other : Nfsace4). has other.flags inherit_only) (ace ∷ []) aces))
    (subst (λ ys. IsSublist (inherit_only_entries (ace ∷ []) ++ inherit_only_entries aces) ys) (sym (kept-cons group ace aces))
    (IsSublist-append (inherit_only-kept_of group ace) (inherit_only-kept group aces)))

pub inherit_only-with_mode : (bits : ℕ) (aces : List Nfsace4) (mode : Classes) → IsSublist (inherit_only_entries aces) (with_denials bits aces mode)
inherit_only-with_mode bits aces mode =
    subst (λ xs. IsSublist xs (with_denials bits aces mode)) (append-nil (inherit_only_entries aces ++ []) ∙ append-nil (inherit_only_entries aces))
    (IsSublist-append
    (IsSublist-append
    (IsSublist-append (nothing_first (for_owner mode.user)) (inherit_only-kept mode.group aces))
    (nothing_first (denials bits aces)))
    (nothing_first (for_others mode.group mode.other)))
