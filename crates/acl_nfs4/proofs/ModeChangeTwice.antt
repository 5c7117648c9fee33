-- To set a mode that is set changes nothing.
use Rattle.std.proofs.Common.{◌≡◌, ℕ, Bool, true, false, not, ◌&&◌, ◌||◌, refl, sym, ap, ◌∙◌, List, [], ◌∷◌, ◌++◌, append-nil, append_assoc, ap₂, inl, inr, ◌⊎◌, flat_map}
use Rattle.std.specs.List.{list_any}
use Rattle.std.proofs.lemmas.Bool.{true≢false, and_parts, and_from, or_cases}
use Rattle.std.proofs.lemmas.List.Folds.{list_any-append}
use Rattle.std.proofs.Math.Bool.{and-false, or-true, or-false}
use Rattle.acl_names.specs.Bits.{has, without}
use Rattle.acl_nfs4.specs.Ace.{decides, is_allow, is_deny, plain_ace, unless_empty, Nfsace4}
use Rattle.acl_nfs4.specs.Who.{is_special, flags_of_who, same_who}
use Rattle.acl_nfs4.specs.Mask.{mask_of, mode_bits, rest_of}
use Rattle.acl_nfs4.specs.ModeChange.{kept_of_list, kept_mask, named_whos, denied_to, denial_of, for_owner, for_others, with_denials, denials, kept_of_entry, names}
use Rattle.acl_posix.specs.Mode.{Classes}
use Rattle.acl_nfs4.specs.declared.ace.AceType.{AceType}
use Rattle.acl_nfs4.specs.declared.ace.AceType.TheVariants.{Allow, Deny}
use Rattle.acl_nfs4.specs.declared.who.Who.{Who}
use Rattle.acl_nfs4.specs.declared.who.Who.TheVariants.{Owner, Group, Everyone, User, NamedGroup}
use Rattle.acl_names.proofs.BitSets.{has-without, no_bits}
use Rattle.acl_nfs4.proofs.MaskOfModes.{mask_of-within}
use Rattle.acl_nfs4.proofs.ModeChangeDenials.{member, denies, same_who-refl, member-named_in, named_not_special, has-denied_to, list_any-kept, denied_anyway, decides-plain_deny}
use Rattle.acl_nfs4.proofs.ModeChangeKept.{kept_of-cases, kept-append, kept-none, kept-unchanged, kept-twice, effective_part, reduced, decides-inherited_part, unless_empty-cases}
use Rattle.acl_names.proofs.AnyLemmas.{list_any-flat_map, list_any-weaken}

-- ---- sets within the mode's bits

without-within : (set removed : ℕ) → ((k : ℕ) → has set k ≡ true → has removed k ≡ true) → without set removed ≡ 0
without-within set removed within = no_bits _ (λ k. has-without set removed k ∙ none k (has set k) refl)
  where
    none : (k : ℕ) (b : Bool) → has set k ≡ b → (b && not (has removed k)) ≡ false
    none k true e = ap not (within k e)
    none k false e = refl

rest_of-within : (perms k : ℕ) → has (rest_of perms) k ≡ true → has mode_bits k ≡ true
rest_of-within perms k e = (and_parts (has mode_bits k) _ (sym (has-without mode_bits (mask_of perms) k) ∙ e)).0

-- ---- the entries that a mode adds

-- an entry that allows or denies a special identifier bits of the mode alone goes when a mode is set
kept-special : (group : ℕ) (kind : AceType) (who : Who) (mask : ℕ)
    → (is_allow kind || is_deny kind) ≡ true → is_special who ≡ true → ((k : ℕ) → has mask k ≡ true → has mode_bits k ≡ true)
    → kept_of_list group (plain_ace kind who mask) ≡ []
unfolding decides has kept_mask
kept-special group kind Owner mask decided special within = kept-none group _ (and_from _ _ decided refl) refl (without-within mask mode_bits within)
kept-special group kind Group mask decided special within = kept-none group _ (and_from _ _ decided refl) refl (without-within mask mode_bits within)
kept-special group kind Everyone mask decided special within = kept-none group _ (and_from _ _ decided refl) refl (without-within mask mode_bits within)
kept-special group kind (User uid) mask decided special within = absurd (true≢false (sym special))
kept-special group kind (NamedGroup gid) mask decided special within = absurd (true≢false (sym special))

kept-for_owner : (group user : ℕ) → kept_of_list group (for_owner user) ≡ []
kept-for_owner group user =
    kept-append group (plain_ace Allow Owner (mask_of user)) (plain_ace Deny Owner (rest_of user))
    ∙ ap₂ (λ xs ys. xs ++ ys)
    (kept-special group Allow Owner (mask_of user) refl refl (mask_of-within user))
    (kept-special group Deny Owner (rest_of user) refl refl (rest_of-within user))

kept-for_others : (group mode_group other : ℕ) → kept_of_list group (for_others mode_group other) ≡ []
kept-for_others group mode_group other =
    kept-append group (plain_ace Allow Group (mask_of mode_group) ++ plain_ace Deny Group (rest_of mode_group)) (plain_ace Allow Everyone (mask_of other))
    ∙ ap₂ (λ xs ys. xs ++ ys)
    (kept-append group (plain_ace Allow Group (mask_of mode_group)) (plain_ace Deny Group (rest_of mode_group))
    ∙ ap₂ (λ xs ys. xs ++ ys)
    (kept-special group Allow Group (mask_of mode_group) refl refl (mask_of-within mode_group))
    (kept-special group Deny Group (rest_of mode_group) refl refl (rest_of-within mode_group)))
    (kept-special group Allow Everyone (mask_of other) refl refl (mask_of-within other))

-- a denial of a named user or group stays
kept-denial : (group : ℕ) (who : Who) (mask : ℕ) → is_special who ≡ false → kept_of_list group (plain_ace Deny who mask) ≡ plain_ace Deny who mask
unfolding has kept_mask
kept-denial group Owner mask named = absurd (true≢false named)
kept-denial group Group mask named = absurd (true≢false named)
kept-denial group Everyone mask named = absurd (true≢false named)
kept-denial group (User uid) mask named = kept-unchanged group _ (decides-plain_deny (User uid) mask) refl refl
kept-denial group (NamedGroup gid) mask named = kept-unchanged group _ (decides-plain_deny (NamedGroup gid) mask) refl refl

-- ---- a list made from each who of a list

kept-flat_map : (group : ℕ) (f : Who → List Nfsace4) (whos : List Who) → ((who : Who) → member who whos ≡ true → kept_of_list group (f who) ≡ f who)
    → kept_of_list group (flat_map f whos) ≡ flat_map f whos
kept-flat_map group f [] each = refl
kept-flat_map group f (who ∷ whos) each =
    kept-append group (f who) (flat_map f whos)
    ∙ ap₂ (λ xs ys. xs ++ ys)
    (each who (ap (λ b. b || member who whos) (same_who-refl who)))
    (kept-flat_map group f whos (λ other is. each other (ap (λ b. same_who who other || b) is ∙ or-true (same_who who other))))

flat_map-none : (f : Who → List Nfsace4) (whos : List Who) → ((who : Who) → member who whos ≡ true → f who ≡ []) → flat_map f whos ≡ []
flat_map-none f [] each = refl
flat_map-none f (who ∷ whos) each =
    ap₂ (λ xs ys. xs ++ ys)
    (each who (ap (λ b. b || member who whos) (same_who-refl who)))
    (flat_map-none f whos (λ other is. each other (ap (λ b. same_who who other || b) is ∙ or-true (same_who who other))))

kept-denials : (group bits : ℕ) (aces : List Nfsace4) → kept_of_list group (denials bits aces) ≡ denials bits aces
kept-denials group bits aces =
    kept-flat_map group (denial_of bits aces) (named_whos aces)
    (λ who is. kept-denial group who _ (named_not_special who aces (sym (member-named_in who aces) ∙ is)))

-- ---- the law

module _ (bits : ℕ) (aces : List Nfsace4) (mode : Classes) where
  abbrev pub middle : List Nfsace4
  middle = kept_of_list mode.group aces ++ denials bits aces

  -- the list again, its middle in one piece
  pub regroup : with_denials bits aces mode ≡ for_owner mode.user ++ (middle ++ for_others mode.group mode.other)
  regroup =
      append_assoc (for_owner mode.user ++ kept_of_list mode.group aces) (denials bits aces) (for_others mode.group mode.other)
      ∙ append_assoc (for_owner mode.user) (kept_of_list mode.group aces) (denials bits aces ++ for_others mode.group mode.other)
      ∙ ap (λ xs. for_owner mode.user ++ xs) (sym (append_assoc (kept_of_list mode.group aces) (denials bits aces) (for_others mode.group mode.other)))

  kept-with_mode : kept_of_list mode.group (with_denials bits aces mode) ≡ middle
  kept-with_mode =
      ap (kept_of_list mode.group) regroup
      ∙ kept-append mode.group (for_owner mode.user) (middle ++ for_others mode.group mode.other)
      ∙ ap₂ (λ xs ys. xs ++ ys) (kept-for_owner mode.group mode.user)
      (kept-append mode.group middle (for_others mode.group mode.other)
      ∙ ap₂ (λ xs ys. xs ++ ys)
      (kept-append mode.group (kept_of_list mode.group aces) (denials bits aces)
      ∙ ap₂ (λ xs ys. xs ++ ys) (kept-twice mode.group aces) (kept-denials mode.group bits aces))
      (kept-for_others mode.group mode.group mode.other)
      ∙ append-nil middle)

  -- a test that fails on the entries for the special identifiers passes on the whole if it does on the middle
  any-with_mode : (test : Nfsace4 → Bool)
      → list_any test (with_denials bits aces mode)
      ≡ (list_any test (for_owner mode.user) || (list_any test middle || list_any test (for_others mode.group mode.other)))
  any-with_mode test =
      ap (list_any test) regroup
      ∙ list_any-append test (for_owner mode.user) (middle ++ for_others mode.group mode.other)
      ∙ ap (λ b. list_any test (for_owner mode.user) || b) (list_any-append test middle (for_others mode.group mode.other))

  -- the whos that the new list names are named by the old one
  names-special : (who : Who) (kind : AceType) (special : Who) (mask : ℕ) → is_special special ≡ true
      → list_any (names who) (plain_ace kind special mask) ≡ false
  names-special who kind special mask is =
      unless_empty-cases _ (λ these. list_any (names who) these ≡ false) (λ _. refl)
      (λ _. ap (λ b. ((decides (record { kind = kind; flags = flags_of_who special; who = special; mask = mask }) && not b) && same_who special who) || false) is
      ∙ ap (λ b. (b && same_who special who) || false) (and-false (decides (record { kind = kind; flags = flags_of_who special; who = special; mask = mask }))))

  names-for_owner : (who : Who) → list_any (names who) (for_owner mode.user) ≡ false
  names-for_owner who =
      list_any-append (names who) (plain_ace Allow Owner (mask_of mode.user)) (plain_ace Deny Owner (rest_of mode.user))
      ∙ ap₂ (λ a b. a || b) (names-special who Allow Owner (mask_of mode.user) refl) (names-special who Deny Owner (rest_of mode.user) refl)

  names-for_others : (who : Who) → list_any (names who) (for_others mode.group mode.other) ≡ false
  names-for_others who =
      list_any-append (names who) (plain_ace Allow Group (mask_of mode.group) ++ plain_ace Deny Group (rest_of mode.group)) (plain_ace Allow Everyone (mask_of mode.other))
      ∙ ap₂ (λ a b. a || b)
      (list_any-append (names who) (plain_ace Allow Group (mask_of mode.group)) (plain_ace Deny Group (rest_of mode.group))
      ∙ ap₂ (λ a b. a || b) (names-special who Allow Group (mask_of mode.group) refl) (names-special who Deny Group (rest_of mode.group) refl))
      (names-special who Allow Everyone (mask_of mode.other) refl)

  -- an entry names whom the entry that it was made of names
  names-kept_of : (who : Who) (ace : Nfsace4) → list_any (names who) (kept_of_entry mode.group ace) ≡ true → names who ace ≡ true
  names-kept_of who ace =
      kept_of-cases mode.group ace (λ these. list_any (names who) these ≡ true → names who ace ≡ true)
      (λ d e. sym (or-false (names who ace)) ∙ e)
      (λ d i e.
      from_part (effective_part mode.group ace) d refl
      (sym (ap (λ b. ((b && not (is_special ace.who)) && same_who ace.who who) || list_any (names who) (unless_empty (effective_part mode.group ace)))
      (decides-inherited_part ace)) ∙ e))
      (λ d i. from_part (reduced mode.group ace) d refl)
    where
      same_test : (b : Bool) → b ≡ true → (part : Nfsace4) → part.who ≡ ace.who → names who part ≡ true → ((b && not (is_special ace.who)) && same_who ace.who who) ≡ true
      same_test b holds part same e =
          let outer = and_parts (decides part && not (is_special part.who)) (same_who part.who who) e in
          and_from _ _
          (and_from _ _ holds (ap (λ w. not (is_special w)) (sym same) ∙ (and_parts (decides part) (not (is_special part.who)) outer.0).1))
          (ap (λ w. same_who w who) (sym same) ∙ outer.1)

      from_part : (part : Nfsace4) → decides ace ≡ true → part.who ≡ ace.who → list_any (names who) (unless_empty part) ≡ true → names who ace ≡ true
      from_part part d same =
          unless_empty-cases part (λ these. list_any (names who) these ≡ true → names who ace ≡ true)
          (λ _ e. absurd (true≢false (sym e)))
          (λ _ e. same_test (decides ace) d part same (sym (or-false (names who part)) ∙ e))

  names-denials : (who : Who) → list_any (names who) (denials bits aces) ≡ true → list_any (names who) aces ≡ true
  names-denials who e =
      sym (member-named_in who aces)
      ∙ list_any-weaken (λ other. list_any (names who) (denial_of bits aces other)) (λ other. same_who other who) each (named_whos aces)
      (sym (list_any-flat_map (names who) (denial_of bits aces) (named_whos aces)) ∙ e)
    where
      each : (other : Who) → list_any (names who) (denial_of bits aces other) ≡ true → same_who other who ≡ true
      each other =
          unless_empty-cases _ (λ these. list_any (names who) these ≡ true → same_who other who ≡ true)
          (λ _ e. absurd (true≢false (sym e)))
          (λ _ e. (and_parts _ (same_who other who) (sym (or-false _) ∙ e)).1)

  names-with_mode : (who : Who) → list_any (names who) (with_denials bits aces mode) ≡ true → list_any (names who) aces ≡ true
  names-with_mode who e =
      go (or_cases (list_any (names who) (kept_of_list mode.group aces)) (list_any (names who) (denials bits aces))
      (sym (list_any-append (names who) (kept_of_list mode.group aces) (denials bits aces))
      ∙ sym (or-false (list_any (names who) middle))
      ∙ sym (ap₂ (λ a b. a || (list_any (names who) middle || b)) (names-for_owner who) (names-for_others who))
      ∙ sym (any-with_mode (names who))
      ∙ e))
    where
      go : (list_any (names who) (kept_of_list mode.group aces) ≡ true) ⊎ (list_any (names who) (denials bits aces) ≡ true) → list_any (names who) aces ≡ true
      go (inl k) =
          list_any-weaken (λ ace. list_any (names who) (kept_of_entry mode.group ace)) (names who) (names-kept_of who) aces
          (sym (list_any-kept (names who) mode.group aces) ∙ k)
      go (inr d) = names-denials who d

  -- the new list denies already what it would have to deny
  denial_of-with_mode : (who : Who) → member who (named_whos (with_denials bits aces mode)) ≡ true → denial_of bits (with_denials bits aces mode) who ≡ []
  unfolding unless_empty
  denial_of-with_mode who is =
      ap (λ m. plain_ace Deny who m)
      (without-within bits (denied_to who (with_denials bits aces mode))
      (λ k lacks.
      has-denied_to who k (with_denials bits aces mode)
      ∙ any-with_mode (denies who k)
      ∙ ap (λ b. list_any (denies who k) (for_owner mode.user) || (b || list_any (denies who k) (for_others mode.group mode.other)))
      (denied_anyway mode.group bits aces who k (names-with_mode who (sym (member-named_in who (with_denials bits aces mode)) ∙ is)) lacks)
      ∙ or-true (list_any (denies who k) (for_owner mode.user))))

  -- to set the mode again changes nothing
  pub with_mode-twice : with_denials bits (with_denials bits aces mode) mode ≡ with_denials bits aces mode
  with_mode-twice =
      ap₂ (λ xs ys. ((for_owner mode.user ++ xs) ++ ys) ++ for_others mode.group mode.other)
      kept-with_mode
      (flat_map-none (denial_of bits (with_denials bits aces mode)) (named_whos (with_denials bits aces mode)) denial_of-with_mode)
      ∙ ap (λ xs. xs ++ for_others mode.group mode.other) (append-nil (for_owner mode.user ++ middle))
      ∙ append_assoc (for_owner mode.user) middle (for_others mode.group mode.other)
      ∙ sym regroup
