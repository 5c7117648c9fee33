-- What entries in canonical order answer, by what was seen of them.
use Rattle.std.proofs.Common.{◌≡◌, ◌∙◌, ℕ, Bool, true, false, ◌&&◌, ◌||◌, ◌==◌, not, cond, List, Option, Some, None, is_some, option_map, unwrap_or, Ok, refl, sym, ap, inl, inr}
use Rattle.std.specs.Option.{option_map_or}
use Rattle.std.proofs.lemmas.Bool.{and_parts, cases_Bool, or_from}
use Rattle.std.proofs.lemmas.List.Sorted.{IsPermutation-refl}
use Rattle.acl_names.proofs.AscendingLemmas.{repeats-ascending}
use Rattle.acl_names.specs.Bits.{has_all}
use Rattle.acl_names.specs.Requester.{Identity, is_in_group}
use Rattle.acl_posix.specs.Access.{grants}
use Rattle.acl_posix.specs.Canonical.{tag_cmp, tag_of}
use Rattle.acl_posix.specs.CheckSteps.{has_tag, mask_allows, tag_has}
use Rattle.acl_posix.specs.Entry.{EntryValue, same_tag}
use Rattle.acl_posix.specs.InOrder.{in_order}
use Rattle.acl_posix.specs.Linux.{has_empty_mask}
use Rattle.acl_posix.specs.Perms.{bits_of}
use Rattle.acl_posix.specs.Validity.{IsValid, count_of, fault_of, lacks_mask, lacks_required, repeats_tag}
use Rattle.acl_posix.specs.declared.entry.Tag.{Tag}
use Rattle.acl_posix.specs.declared.entry.Tag.TheVariants.{UserObj, GroupObj, Mask, Other}
use Rattle.acl_posix.specs.declared.perms.Perms.{Perms}
use Rattle.acl_posix.proofs.AccessLemmas.{grants-group, grants-other, grants-owner, grants-user, has_tag-perms_of}
use Rattle.acl_posix.proofs.CanonicalLemmas.{same_tag-tag_cmp, tag_cmp_total}
use Rattle.acl_posix.proofs.FaultLemmas.{none_counted}
use Rattle.acl_posix.proofs.InOrderLemmas.{in_order-canonical}
use Rattle.acl_posix.proofs.LinuxLemmas.{by_itself, linux-group, linux-other, linux-owner}
use Rattle.acl_posix.proofs.ValidityLemmas.{IsValid-from_fault_of}
use Rattle.acl_access.specs.Evaluated.{evaluated_by}
use Rattle.acl_wire.specs.Check.{answer_of}
use Rattle.acl_wire.specs.OnePass.{IsSeen, is_complete, is_linux}
use Rattle.acl_access.specs.declared.rules.Rules.{Rules}
use Rattle.acl_access.specs.declared.rules.Rules.TheVariants.{Draft, Linux}
use Rattle.acl_wire.specs.declared.one_pass.Seen.{Seen}

some_cond : (b answer : Bool) → is_some (cond b (Some answer) None) ≡ b
some_cond true answer = refl
some_cond false answer = refl

cond_some : (b answer : Bool) → b ≡ true → unwrap_or (cond b (Some answer) None) false ≡ answer
cond_some true answer is = refl
cond_some false answer is = absurd (cc)

applies : (b answer has : Bool) → cond b (Some answer) None ≡ Some has → (b ≡ true) × (answer ≡ has)
applies true answer has is = (refl, cc)
applies false answer has is = absurd (cc)

applies_not : (b answer : Bool) → cond b (Some answer) None ≡ None → b ≡ false
applies_not true answer is = absurd (cc)
applies_not false answer is = refl

some_mapped : (mask : Option Perms) → is_some (option_map bits_of mask) ≡ is_some mask
some_mapped (Some mask) = refl
some_mapped None = refl

mapped : (test : ℕ → Bool) (mask : Option Perms) (default : Bool) → option_map_or (λ m. test (bits_of m)) mask default ≡ option_map_or test (option_map bits_of mask) default
mapped test (Some mask) default = refl
mapped test None default = refl

module _ (requester : Identity) (group request : ℕ) (entries : List EntryValue) (seen : Seen) (is : IsSeen requester group request entries seen) (complete : is_complete seen ≡ true) where
  masked : (not seen.named || is_some seen.mask) ≡ true
  masked = (and_parts _ _ complete).1

  three : ((is_some seen.owner && seen.group_obj) && is_some seen.other) ≡ true
  three = (and_parts _ _ complete).0

  pub owner_there : has_tag UserObj entries ≡ true
  owner_there = sym (some_cond (has_tag UserObj entries) (tag_has UserObj entries request)) ∙ sym (ap is_some is.owner) ∙ (and_parts _ _ (and_parts _ _ three).0).0

  group_there : has_tag GroupObj entries ≡ true
  group_there = sym is.group_obj ∙ (and_parts _ _ (and_parts _ _ three).0).1

  pub other_there : has_tag Other entries ≡ true
  other_there = sym (some_cond (has_tag Other entries) (tag_has Other entries request)) ∙ sym (ap is_some is.other) ∙ (and_parts _ _ three).1

  counted : (tag : Tag) → has_tag tag entries ≡ true → (count_of tag entries == 0) ≡ false
  counted tag there = sym (none_counted (λ (e : EntryValue). same_tag e.tag tag) entries) ∙ ap not there

  mask_there : has_tag Mask entries ≡ is_some seen.mask
  mask_there = has_tag-perms_of Mask entries ∙ sym (ap is_some is.mask) ∙ some_mapped seen.mask

  nothing_wrong : fault_of entries ≡ None
  nothing_wrong =
      let all : lacks_required entries ≡ false =
      or_from _ _ (or_from _ _ (counted UserObj owner_there) (counted GroupObj group_there)) (counted Other other_there) in
      let distinct : repeats_tag entries ≡ false = repeats-ascending tag_cmp tag_cmp_total tag_of same_tag same_tag-tag_cmp entries is.canonical in
      let no_mask : (count_of Mask entries == 0) ≡ not (is_some seen.mask) =
      sym (none_counted (λ (e : EntryValue). same_tag e.tag Mask) entries) ∙ ap not mask_there in
      let limited : lacks_mask entries ≡ false = rw (sym is.named, no_mask) (go seen.named (is_some seen.mask) masked) in
      rw (all, distinct, limited) refl
    where
      go : (named mask : Bool) → (not named || mask) ≡ true → (named && not mask) ≡ false
      go true true either = refl
      go true false either = absurd (cc)
      go false mask either = refl

  valid : IsValid entries
  valid = IsValid-from_fault_of entries nothing_wrong

  -- the list is the entries as they stand
  pub answer-list : (rules : Rules) (owner : ℕ) → answer_of rules entries owner group requester request ≡ Ok (grants (evaluated_by rules entries) owner group requester request)
  answer-list rules owner =
      let same : in_order entries ≡ entries = in_order-canonical entries entries is.canonical (IsPermutation-refl entries) in
      rw (nothing_wrong, same) refl

  allows : mask_allows entries request ≡ option_map_or (λ mask. has_all (bits_of mask) request) seen.mask true
  allows = ap (λ o. option_map_or (λ mask. has_all mask request) o true) (sym is.mask) ∙ sym (mapped (λ mask. has_all mask request) seen.mask true)

  empty : has_empty_mask entries ≡ option_map_or (λ mask. bits_of mask == 0) seen.mask false
  empty = ap (λ o. option_map_or (λ mask. mask == 0) o false) (sym is.mask) ∙ sym (mapped (λ mask. mask == 0) seen.mask false)

  -- whether the list is passed over
  abbrev passes : Rules → Bool
  passes rules = is_linux rules && option_map_or (λ mask. bits_of mask == 0) seen.mask false

  looked : (rules : Rules) → passes rules ≡ false → evaluated_by rules entries ≡ entries
  looked Draft is_not = refl
  looked Linux is_not = by_itself entries (empty ∙ is_not)

  module _ (rules : Rules) (owner : ℕ) where
    abbrev reported : Bool → Type 0
    reported result = answer_of rules entries owner group requester request ≡ Ok result

    owner_has : unwrap_or seen.owner false ≡ tag_has UserObj entries request
    owner_has = ap (λ (o : Option Bool). unwrap_or o false) is.owner ∙ cond_some _ _ owner_there

    others_have : unwrap_or seen.other false ≡ tag_has Other entries request
    others_have = ap (λ (o : Option Bool). unwrap_or o false) is.other ∙ cond_some _ _ other_there

    -- the owner's entry decides for the owner, by either rules
    pub by_owner : (requester.uid == owner) ≡ true → reported (unwrap_or seen.owner false)
    by_owner asks = elim (cases_Bool (passes rules)) [
      | inl passed ↦ answer-list rules owner ∙ ap Ok (over rules passed ∙ sym owner_has)
      | inr not_passed ↦ answer-list rules owner
          ∙ ap Ok (ap (λ (l : List EntryValue). grants l owner group requester request) (looked rules not_passed) ∙ grants-owner entries owner group requester request asks owner_there ∙ sym owner_has)
    ]
      where
        over : (r : Rules) → passes r ≡ true
            → grants (evaluated_by r entries) owner group requester request ≡ tag_has UserObj entries request
        over Draft passed = absurd (cc)
        over Linux passed = linux-owner entries valid (empty ∙ passed) owner group requester request asks

    module _ (not_owner : (requester.uid == owner) ≡ false) where
      -- a list with an empty mask that is passed over
      pub over-group : passes rules ≡ true → is_in_group requester group ≡ true → reported (has_all 0 request)
      over-group passed inside = answer-list rules owner ∙ ap Ok (go rules passed)
        where
          go : (r : Rules) → passes r ≡ true → grants (evaluated_by r entries) owner group requester request ≡ has_all 0 request
          go Draft passed_it = absurd (cc)
          go Linux passed_it = linux-group entries valid (empty ∙ passed_it) owner group requester request not_owner inside

      pub over-other : passes rules ≡ true → is_in_group requester group ≡ false → reported (unwrap_or seen.other false)
      over-other passed outside = answer-list rules owner ∙ ap Ok (go rules passed ∙ sym others_have)
        where
          go : (r : Rules) → passes r ≡ true → grants (evaluated_by r entries) owner group requester request ≡ tag_has Other entries request
          go Draft passed_it = absurd (cc)
          go Linux passed_it = linux-other entries valid (empty ∙ passed_it) owner group requester request not_owner outside

      module _ (not_passed : passes rules ≡ false) where
        by_itself-reported : (result : Bool) → grants entries owner group requester request ≡ result → reported result
        by_itself-reported result same =
            answer-list rules owner ∙ ap Ok (ap (λ (l : List EntryValue). grants l owner group requester request) (looked rules not_passed) ∙ same)

        pub by_user : (has allowed : Bool) → seen.user ≡ Some has → allowed ≡ option_map_or (λ mask. has_all (bits_of mask) request) seen.mask true → reported (has && allowed)
        by_user has allowed there mask =
            let found = applies _ _ has (sym is.user ∙ there) in
            by_itself-reported (has && allowed) (grants-user entries owner group requester request not_owner found.0
            ∙ ap (λ b. b && mask_allows entries request) found.1 ∙ ap (λ b. has && b) (allows ∙ sym mask))

        pub by_groups : (has allowed : Bool) → seen.user ≡ None → seen.groups ≡ Some has → allowed ≡ option_map_or (λ mask. has_all (bits_of mask) request) seen.mask true → reported (has && allowed)
        by_groups has allowed nobody there mask =
            let no_user = applies_not _ _ (sym is.user ∙ nobody) in
            let found = applies _ _ has (sym is.groups ∙ there) in
            by_itself-reported (has && allowed) (grants-group entries owner group requester request not_owner no_user found.0
            ∙ ap (λ b. b && mask_allows entries request) found.1 ∙ ap (λ b. has && b) (allows ∙ sym mask))

        pub by_others : seen.user ≡ None → seen.groups ≡ None → reported (unwrap_or seen.other false)
        by_others nobody none =
            by_itself-reported (unwrap_or seen.other false)
            (grants-other entries owner group requester request not_owner (applies_not _ _ (sym is.user ∙ nobody)) (applies_not _ _ (sym is.groups ∙ none)) ∙ sym others_have)
