-- The mode that a translation shows.
use Rattle.std.proofs.Common.{◌≡◌, ℕ, ◌<◌, Bool, true, false, cond, ◌&&◌, refl, sym, ap, ◌∙◌, List, [], ◌∷◌, arith, Option, Some, None, option_map, unwrap_or, find, true≢false}
use Rattle.std.specs.List.{filter, list_any}
use Rattle.std.proofs.lemmas.Nat.{and_le_l}
use Rattle.std.proofs.lemmas.List.Sums.{length-filter}
use Rattle.std.proofs.Math.Bool.{or-false}
use Rattle.acl_names.specs.Bits.{has}
use Rattle.acl_posix.specs.Access.{effective_perms, first_nonempty, is_under_mask, under_mask}
use Rattle.acl_posix.specs.Entry.{EntryValue, same_tag, entries_of, perms_of, HavePermissions}
use Rattle.acl_posix.specs.Mode.{perms_at}
use Rattle.acl_posix.specs.Perms.{IsPermissions}
use Rattle.acl_posix.specs.Validity.{IsValid, count_of}
use Rattle.acl_posix.proofs.TagLemmas.{same_tag-true}
use Rattle.acl_posix.specs.declared.entry.Tag.{Tag}
use Rattle.acl_posix.specs.declared.entry.Tag.TheVariants.{UserObj, User, GroupObj, Group, Mask, Other}
use Rattle.acl_nfs4.specs.Evaluation.{shown_to, of_class, mode_of}
use Rattle.acl_nfs4.specs.Who.{who_of}
use Rattle.acl_nfs4.specs.declared.who.Who.{Who}
use Rattle.acl_nfs4.specs.declared.who.Who.TheVariants as whos
use Rattle.acl_nfs4.proofs.MaskOfModes.{permission_of}
use Rattle.acl_nfs4.proofs.EvaluationMode.{shown_to-allows}
use Rattle.acl_bridge.specs.Translation.{is_in, translation}
use Rattle.acl_bridge.specs.declared.passes.Class.{Class}
use Rattle.acl_bridge.specs.declared.passes.Class.TheVariants.{Owner, Users, Groups, Others}
use Rattle.acl_bridge.specs.TranslationLaws.{translated_mode}
use Rattle.acl_bridge.proofs.TranslationDecides.{few, owners_alone}
use Rattle.acl_bridge.proofs.TranslationVerdicts.{allows-translation, matching, deciding}
use Rattle.acl_bridge.proofs.FilterLemmas.{filter_twice, filter_twice-none, the_one, find-passes}

masked-small : (mask : Option ℕ) (perms : ℕ) → perms < 8 → under_mask mask perms < 8
masked-small None perms small = small
masked-small (Some mask) perms small = let below = and_le_l perms mask in omega arith

effective-small : (limited : Bool) (mask : Option ℕ) (perms : ℕ) → perms < 8 → cond limited (under_mask mask perms) perms < 8
effective-small true mask perms small = masked-small mask perms small
effective-small false mask perms small = small

module _ (acl : List EntryValue) (valid : IsValid acl) (small : HavePermissions acl) where
  -- what permissions an entry of a tag has that stand in it
  abbrev limited : Tag → ℕ → ℕ
  limited tag perms = cond (is_under_mask tag) (under_mask (perms_of Mask acl) perms) perms

  -- what is shown to those for whom one entry alone decides is what it has
  shown_by_one : (class : Who) (tag : Tag) → count_of tag acl ≡ 1
      → ((other : Tag) → is_in Users other ≡ true → of_class class (who_of other) ≡ true → same_tag other UserObj ≡ true)
      → ((entry : EntryValue) → entries_of tag acl ≡ entry ∷ [] → deciding (of_class class) acl ≡ entry ∷ [])
      → shown_to (of_class class) (translation acl) ≡ limited tag (perms_at tag acl)
  shown_by_one class tag one no_user alone = go (the_one has_tag acl (length-filter has_tag acl ∙ one))
    where
      has_tag : EntryValue → Bool
      has_tag entry = same_tag entry.tag tag

      go : (e : EntryValue) × (filter has_tag acl ≡ e ∷ []) × (find has_tag acl ≡ Some e)
          → shown_to (of_class class) (translation acl) ≡ limited tag (perms_at tag acl)
      go (e, is_alone, is_found) =
          let known = find-passes (λ (entry : EntryValue). IsPermissions entry.perms) has_tag acl e small is_found in
          shown_to-allows (of_class class) (translation acl) (effective_perms acl e)
          (effective-small (is_under_mask e.tag) (perms_of Mask acl) e.perms known.1)
          (λ bit of_mode.
          allows-translation acl (of_class class) bit of_mode
          (few acl valid (of_class class) Owner UserObj (owners_alone (of_class class)))
          (few acl valid (of_class class) Users UserObj no_user)
          ∙ ap (list_any (λ (entry : EntryValue). has (effective_perms acl entry) (permission_of bit))) (alone e is_alone)
          ∙ or-false (has (effective_perms acl e) (permission_of bit)))
          ∙ ap (λ (of : Tag). limited of e.perms) (same_tag-true e.tag tag known.0)
          ∙ sym (ap (λ (o : Option EntryValue). limited tag (unwrap_or (option_map (λ (entry : EntryValue). entry.perms) o) 0)) is_found)

  -- the entries of a class to which these of a mode's apply, as those of one tag
  all_of : (who : Who) (class : Class) (test : Tag → Bool) → ((tag : Tag) → (is_in class tag && of_class who (who_of tag)) ≡ test tag)
      → matching (of_class who) acl class ≡ filter (λ entry. test entry.tag) acl
  all_of who class test same =
      filter_twice (λ (entry : EntryValue). is_in class entry.tag) (λ (entry : EntryValue). of_class who (who_of entry.tag))
      (λ (entry : EntryValue). test entry.tag) (λ entry. same entry.tag) acl

  none_of : (who : Who) (class : Class) → ((tag : Tag) → (is_in class tag && of_class who (who_of tag)) ≡ false)
      → matching (of_class who) acl class ≡ []
  none_of who class none =
      filter_twice-none (λ (entry : EntryValue). is_in class entry.tag) (λ (entry : EntryValue). of_class who (who_of entry.tag)) (λ entry. none entry.tag) acl

  stop_at : (entries : List EntryValue) (rest : List (List EntryValue)) (entry : EntryValue) → entries ≡ entry ∷ []
      → first_nonempty (entries ∷ rest) ≡ entry ∷ []
  stop_at entries rest entry one = ap (λ (xs : List EntryValue). first_nonempty (xs ∷ rest)) one

  pass_over : (entries : List EntryValue) (rest : List (List EntryValue)) → entries ≡ [] → first_nonempty (entries ∷ rest) ≡ first_nonempty rest
  pass_over entries rest none = ap (λ (xs : List EntryValue). first_nonempty (xs ∷ rest)) none

  -- a class of the mode has no named user
  no_named : (class : Who) → ((uid : ℕ) → of_class class (whos.User uid) ≡ false) → (tag : Tag) → is_in Users tag ≡ true
      → of_class class (who_of tag) ≡ true → same_tag tag UserObj ≡ true
  no_named class other (User uid) is applies = absurd (true≢false (sym applies ∙ other uid))
  no_named class other _ is applies = absurd (true≢false (sym is))

  -- a class of the mode that none of these entries stands for
  not_owner : (class : Who) → of_class class whos.Owner ≡ false → (tag : Tag) → (is_in Owner tag && of_class class (who_of tag)) ≡ false
  not_owner class other UserObj = other
  not_owner class other _ = refl

  not_named : (class : Who) → ((uid : ℕ) → of_class class (whos.User uid) ≡ false) → (tag : Tag) → (is_in Users tag && of_class class (who_of tag)) ≡ false
  not_named class other (User uid) = other uid
  not_named class other _ = refl

  shown_to_owner : shown_to (of_class whos.Owner) (translation acl) ≡ perms_at UserObj acl
  shown_to_owner =
      shown_by_one whos.Owner UserObj valid.user_obj (no_named whos.Owner (λ uid. refl))
      (λ entry one. stop_at _ _ entry (all_of whos.Owner Owner (λ tag. same_tag tag UserObj) the_owner ∙ one))
    where
      the_owner : (tag : Tag) → (is_in Owner tag && of_class whos.Owner (who_of tag)) ≡ same_tag tag UserObj
      the_owner UserObj = refl
      the_owner (User uid) = refl
      the_owner _ = refl

  shown_to_group : shown_to (of_class whos.Group) (translation acl) ≡ under_mask (perms_of Mask acl) (perms_at GroupObj acl)
  shown_to_group =
      shown_by_one whos.Group GroupObj valid.group_obj (no_named whos.Group (λ uid. refl))
      (λ entry one.
      pass_over _ _ (none_of whos.Group Owner (not_owner whos.Group refl))
      ∙ pass_over _ _ (none_of whos.Group Users (not_named whos.Group (λ uid. refl)))
      ∙ stop_at _ _ entry (all_of whos.Group Groups (λ tag. same_tag tag GroupObj) the_group ∙ one))
    where
      the_group : (tag : Tag) → (is_in Groups tag && of_class whos.Group (who_of tag)) ≡ same_tag tag GroupObj
      the_group GroupObj = refl
      the_group (Group gid) = refl
      the_group _ = refl

  shown_to_everyone : shown_to (of_class whos.Everyone) (translation acl) ≡ perms_at Other acl
  shown_to_everyone =
      shown_by_one whos.Everyone Other valid.other (no_named whos.Everyone (λ uid. refl))
      (λ entry one.
      pass_over _ _ (none_of whos.Everyone Owner (not_owner whos.Everyone refl))
      ∙ pass_over _ _ (none_of whos.Everyone Users (not_named whos.Everyone (λ uid. refl)))
      ∙ pass_over _ _ (none_of whos.Everyone Groups no_group)
      ∙ stop_at _ _ entry (all_of whos.Everyone Others (λ tag. same_tag tag Other) the_other ∙ one))
    where
      no_group : (tag : Tag) → (is_in Groups tag && of_class whos.Everyone (who_of tag)) ≡ false
      no_group GroupObj = refl
      no_group (Group gid) = refl
      no_group _ = refl

      the_other : (tag : Tag) → (is_in Others tag && of_class whos.Everyone (who_of tag)) ≡ same_tag tag Other
      the_other Other = refl
      the_other _ = refl

-- the mode that a valid list shows through its translation
pub mode_of-translation : (acl : List EntryValue) → IsValid acl → HavePermissions acl → mode_of (translation acl) ≡ translated_mode acl
mode_of-translation acl valid small =
    let owner = shown_to_owner acl valid small in
    let group = shown_to_group acl valid small in
    let everyone = shown_to_everyone acl valid small in
    cc
