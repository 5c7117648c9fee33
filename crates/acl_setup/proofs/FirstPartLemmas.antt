-- Of users and groups that are no directory the first key is reported that has the fault.
use Rattle.std.proofs.Common.{◌≡◌, ◌∙◌, ◌+◌, ◌++◌, ℕ, Bool, true, false, cond, List, [], ◌∷◌, Option, Some, None, ap, ap₂, arith, length, option_map, refl, sym, take}
use Rattle.std.specs.Prelude.{bytes_eq, nat_lt, not, position, slice_get, suc}
use Rattle.std.specs.List.{find, list_any, position_from}
use Rattle.std.specs.Option.{option_or}
use Rattle.std.proofs.Math.Seq.{take-append_seam}
use Rattle.std.proofs.lemmas.Iterator.Adapters.{position_from-zero}
use Rattle.std.proofs.lemmas.List.{append_assoc, length-append}
use Rattle.std.proofs.lemmas.List.Folds.{find-append}
use Rattle.acl_names.specs.Directory.{Known, KnownUser}
use Rattle.acl_names.specs.Ids.{has_domain_shape}
use Rattle.acl_names.specs.declared.directory.fault.SetupFault.{SetupFault}
use Rattle.acl_names.specs.declared.directory.fault.SetupFault.TheVariants as parts
use Rattle.acl_names.specs.declared.limits.TheConstants.{MAX_GROUPS, MAX_USERS}
use Rattle.acl_setup.specs.PartsKeys.{groups_share_id, groups_share_name, has_name, is_in_too_many, is_misnamed_group}
use Rattle.acl_setup.specs.PartsKeys.{is_misnamed_user, key_of_groups, key_of_parts, or_key, repeated_from}
use Rattle.acl_setup.specs.PartsKeys.{repeated_in, unknown_in, users_share_id, users_share_name}
use Rattle.acl_setup.specs.SetupLaws.{ReportsThePart, has_fault, is_repeated, is_so, member_keys, parts_keys, value_keys}
use Rattle.acl_setup.specs.declared.key.Key.{Key}
use Rattle.acl_setup.specs.declared.key.Key.TheVariants as at
use Rattle.acl_setup.proofs.PartsLemmas.{reports_a_part}

module _ (test : Key → Bool) where
  -- the first of two that is found
  found_first : (first second : List Key) (one other : Option Key) → one ≡ find test first → other ≡ find test second → or_key one other ≡ find test (first ++ second)
  found_first first second one other is then_is = go one other (find test first) (find test second) is then_is ∙ sym (find-append test first second)
    where
      go : (one other found later : Option Key) → one ≡ found → other ≡ later → or_key one other ≡ option_or found later
      go None other None later is then_is = then_is
      go None other (Some key) later is then_is = cc
      go (Some key) other None later is then_is = cc
      go (Some key) other (Some same) later is then_is = is

  module _ (key : ℕ → Key) where
    abbrev at_index : Option ℕ → Option Key
    at_index index = option_map key index

    chosen : (here : Bool) (index : ℕ) (later : Option ℕ) → at_index (cond here (Some index) later) ≡ cond here (Some (key index)) (at_index later)
    chosen true index later = refl
    chosen false index later = refl

    one_of : {A : Type 0} (here : Bool) (index : ℕ) (later : Option ℕ) (values : List A) → test (key index) ≡ here → at_index later ≡ find test (value_keys key (index + 1) values)
        → at_index (cond here (Some index) later) ≡ cond (test (key index)) (Some (key index)) (find test (value_keys key (index + 1) values))
    one_of here index later values is later_is = chosen here index later ∙ ap₂ (λ (here : Bool) (later : Option Key). cond here (Some (key index)) later) (sym is) later_is

    -- the first value that is so
    first_so : {A : Type 0} (p : A → Bool) (index : ℕ) (values : List A) → ((from place : ℕ) → place ≡ index + from → test (key place) ≡ is_so p (slice_get values from))
        → at_index (position_from p index values) ≡ find test (value_keys key index values)
    first_so p index [] is = refl
    first_so p index (value ∷ values) is =
        one_of (p value) index (position_from p (index + 1) values) values (is 0 index (omega arith))
        (first_so p (index + 1) values (λ from place same. is (suc from) place (omega (arith, same))))

    position_so : {A : Type 0} (p : A → Bool) (values : List A) → ((place : ℕ) → test (key place) ≡ is_so p (slice_get values place)) → at_index (position p values) ≡ find test (value_keys key 0 values)
    position_so p values is =
        ap at_index (position_from-zero p values) ∙ first_so p 0 values (λ from place same. is place ∙ ap (λ (place : ℕ). is_so p (slice_get values place)) (omega (arith, same)))

    -- the first value that is as one before it
    module _ {A : Type 0} (same : A → A → Bool) (all : List A) (is : (place : ℕ) → test (key place) ≡ is_repeated same all place) where
      behind : (before : List A) (value : A) (values : List A) → slice_get (before ++ value ∷ values) (length before) ≡ Some value
      behind [] value values = refl
      behind (first ∷ before) value values = behind before value values

      repeats_there : (before : List A) (value : A) (values : List A) → all ≡ before ++ value ∷ values → is_repeated same all (length before) ≡ list_any (same value) before
      repeats_there before value values whole =
          ap₂ (λ (earlier : List A) (found : Option A). is_so (λ value. list_any (same value) earlier) found)
          (ap (take (length before)) whole ∙ take-append_seam before (value ∷ values))
          (ap (λ (all : List A). slice_get all (length before)) whole ∙ behind before value values)

      first_repeated : (before : List A) (index : ℕ) (values : List A) → index ≡ length before → all ≡ before ++ values
          → at_index (repeated_from same before index values) ≡ find test (value_keys key index values)
      first_repeated before index [] count whole = refl
      first_repeated before index (value ∷ values) count whole =
          one_of (list_any (same value) before) index (repeated_from same (before ++ value ∷ []) (index + 1) values) values
          (ap (λ (place : ℕ). test (key place)) count ∙ is (length before) ∙ repeats_there before value values whole)
          (first_repeated (before ++ value ∷ []) (index + 1) values (longer before value index count) (whole ∙ sym (append_assoc before (value ∷ []) values)))
        where
          longer : (before : List A) (value : A) (index : ℕ) → index ≡ length before → index + 1 ≡ length (before ++ value ∷ [])
          longer before value index count = omega (arith, count, length-append before (value ∷ []))

      repeated : at_index (repeated_in same all) ≡ find test (value_keys key 0 all)
      repeated = first_repeated [] 0 all refl refl

  -- the first group of a user that is found so
  first_member : (find_in : List (List ℕ) → Option ℕ) (so : List (List ℕ) → ℕ → Bool)
      → ((index : ℕ) (groups : List (List ℕ)) → ((group : ℕ) → test (at.UserGroup index group) ≡ so groups group)
      → option_map (at.UserGroup index) (find_in groups) ≡ find test (value_keys (at.UserGroup index) 0 groups))
      → (index : ℕ) (users : List KnownUser)
      → ((from place group : ℕ) → place ≡ index + from → test (at.UserGroup place group) ≡ is_so (λ user. so user.groups group) (slice_get users from))
      → key_of_groups find_in index users ≡ find test (member_keys index users)
  first_member find_in so of_one index [] is = refl
  first_member find_in so of_one index (user ∷ users) is =
      found_first (value_keys (at.UserGroup index) 0 user.groups) (member_keys (index + 1) users) _ _
      (of_one index user.groups (λ group. is 0 index group (omega arith)))
      (first_member find_in so of_one (index + 1) users (λ from place group same. is (suc from) place group (omega (arith, same))))

from_start : {A : Type 0} (values : List A) (from place : ℕ) → place ≡ 0 + from → slice_get values place ≡ slice_get values from
from_start values from place same = ap (slice_get values) (omega (arith, same))

module _ (known : Known) where
  first_part : (fault : SetupFault) → key_of_parts known.domain known.users known.groups fault ≡ find (has_fault known fault) (parts_keys known fault)
  first_part parts.TooMany =
      ap (λ (later : Option Key). cond (nat_lt MAX_USERS (length known.users)) (Some at.Users) (cond (nat_lt MAX_GROUPS (length known.groups)) (Some at.Groups) later))
      (position_so (has_fault known parts.TooMany) at.UserGroups is_in_too_many known.users (λ at. refl))
  first_part parts.BadName =
      let test = has_fault known parts.BadName in
      ap (λ (later : Option Key). cond (not (has_domain_shape known.domain)) (Some at.Domain) later)
      (found_first test (value_keys at.UserName 0 known.users) (value_keys at.GroupName 0 known.groups) _ _
      (position_so test at.UserName is_misnamed_user known.users (λ at. refl))
      (position_so test at.GroupName is_misnamed_group known.groups (λ at. refl)))
  first_part parts.RepeatedName =
      let test = has_fault known parts.RepeatedName in
      found_first test (value_keys at.UserName 0 known.users) _ _ _ (repeated test at.UserName users_share_name known.users (λ at. refl))
      (found_first test (value_keys at.GroupName 0 known.groups) (member_keys 0 known.users) _ _ (repeated test at.GroupName groups_share_name known.groups (λ at. refl))
      (first_member test (repeated_in bytes_eq) (is_repeated bytes_eq) (λ index groups is. repeated test (at.UserGroup index) bytes_eq groups is) 0 known.users
      (λ from place group same. ap (is_so (λ user. is_repeated bytes_eq user.groups group)) (from_start known.users from place same))))
  first_part parts.RepeatedId =
      let test = has_fault known parts.RepeatedId in
      found_first test (value_keys at.UserUid 0 known.users) (value_keys at.GroupGid 0 known.groups) _ _
      (repeated test at.UserUid users_share_id known.users (λ at. refl)) (repeated test at.GroupGid groups_share_id known.groups (λ at. refl))
  first_part parts.UnknownGroup =
      let test = has_fault known parts.UnknownGroup in
      first_member test (unknown_in known.groups) (λ groups group. is_so (λ name. not (has_name known.groups name)) (slice_get groups group))
      (λ index groups is. first_so test (at.UserGroup index) (λ name. not (has_name known.groups name)) 0 groups (λ from place same. is place ∙ ap (is_so (λ name. not (has_name known.groups name))) (from_start groups from place same)))
      0 known.users (λ from place group same. ap (is_so (λ user. is_so (λ name. not (has_name known.groups name)) (slice_get user.groups group))) (from_start known.users from place same))
  first_part parts.Memory = refl

pub reports_the_part : ReportsThePart
reports_the_part = record { first = first_part; some = reports_a_part }
