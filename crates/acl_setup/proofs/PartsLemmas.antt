-- Users and groups that are no directory have a key at fault, and that is reported.
use Rattle.std.proofs.Common.{◌≡◌, ◌≤◌, ◌∙◌, ◌+◌, ◌++◌, ◌||◌, ℕ, Bool, true, false, cond, List, [], ◌∷◌, Option, Some, None, ap, arith, count_by, length, option_map, refl, subst, sym}
use Rattle.std.specs.Prelude.{IsSome, bytes_eq, is_none, is_some, nat_eq, nat_lt, not, position}
use Rattle.std.specs.List.{find, list_any, position_from}
use Rattle.std.proofs.lemmas.Iterator.Adapters.{position_from-zero}
use Rattle.std.specs.Bool.{Decides}
use Rattle.std.proofs.lemmas.Bool.Decides.{Decides-eqb, nat_tests}
use Rattle.std.proofs.lemmas.Slice.Eq.{bytes_eq-Decides}
use Rattle.std.proofs.Math.Bool.{or-true}
use Rattle.acl_names.proofs.AnyLemmas.{list_any-none}
use Rattle.acl_names.proofs.Counting.{count_by-cons}
use Rattle.acl_names.specs.Ascending.{repeats}
use Rattle.acl_names.specs.Ids.{has_domain_shape}
use Rattle.acl_names.specs.Directory.{KnownGroup, KnownUser, has_bad_name, has_unknown_group, is_too_many, repeats_id, repeats_name}
use Rattle.acl_names.specs.declared.directory.fault.SetupFault.{SetupFault}
use Rattle.acl_names.specs.declared.directory.fault.SetupFault.TheVariants.{BadName, RepeatedName, RepeatedId, UnknownGroup, TooMany}
use Rattle.acl_names.specs.declared.limits.TheConstants.{MAX_GROUPS, MAX_USERS}
use Rattle.acl_setup.specs.PartsKeys.{groups_share_name, has_name, is_in_too_many, is_misnamed_group}
use Rattle.acl_setup.specs.PartsKeys.{is_misnamed_user, key_of_bad_name, key_of_groups, key_of_parts}
use Rattle.acl_setup.specs.PartsKeys.{key_of_repeated_id, key_of_repeated_name, key_of_too_many}
use Rattle.acl_setup.specs.PartsKeys.{key_of_unknown_group, or_key, repeated_from, repeated_in, unknown_in}
use Rattle.acl_setup.specs.PartsKeys.{users_share_name}
use Rattle.acl_names.specs.Directory.{Known, fault_of}
use Rattle.acl_setup.specs.declared.key.Key.{Key}
use Rattle.acl_setup.specs.declared.key.Key.TheVariants as at

-- ---- indexes

from_some : {X : Type 0} (p : X → Bool) (index : ℕ) (xs : List X) → list_any p xs ≡ true → IsSome (position_from p index xs)
from_some p index [] any = cc
from_some p index (x ∷ xs) any = go (p x) any (from_some p (index + 1) xs)
  where
    go : (b : Bool) → (b || list_any p xs) ≡ true → (list_any p xs ≡ true → IsSome (position_from p (index + 1) xs)) → IsSome (cond b (Some index) (position_from p (index + 1) xs))
    go true any later = refl
    go false any later = later any

position_some : {X : Type 0} (p : X → Bool) (xs : List X) → list_any p xs ≡ true → IsSome (position p xs)
position_some p xs any = subst IsSome (sym (position_from-zero p xs)) (from_some p 0 xs any)

map_some : {A B : Type 0} (f : A → B) (o : Option A) → IsSome o → IsSome (option_map f o)
map_some f None some = cc
map_some f (Some x) some = refl

left : (first second : Option Key) → IsSome first → IsSome (or_key first second)
left None second some = cc
left (Some key) second some = refl

right : (first second : Option Key) → IsSome second → IsSome (or_key first second)
right None second some = some
right (Some key) second some = refl

-- one of two tests passes
either : {P : Type 0} (a b : Bool) → (a || b) ≡ true → (a ≡ true → P) → (b ≡ true → P) → P
either true b or first second = first refl
either false b or first second = second or

-- ---- what is repeated

module _ {X K : Type 0} (same : K → K → Bool) (key : X → K) (decides : (a b : K) → Decides (same a b) (a ≡ b)) where
  abbrev pub alike : X → X → Bool
  alike value other = same (key value) (key other)

  same_as : (a b : K) → a ≡ b → same a b ≡ true
  same_as a b is = (decides a b).1 is

  any_alike : (before : List X) (y : X) (z : K) → same (key y) z ≡ true → list_any (λ b. same (key b) z) before ≡ true → list_any (alike y) before ≡ true
  any_alike [] y z is any = cc
  any_alike (b ∷ before) y z is any = go (same (key b) z) refl any (any_alike before y z is)
    where
      go : (c : Bool) → same (key b) z ≡ c → (c || list_any (λ b. same (key b) z) before) ≡ true
          → (list_any (λ b. same (key b) z) before ≡ true → list_any (alike y) before ≡ true) → (alike y b || list_any (alike y) before) ≡ true
      go true here any later =
          let both : key y ≡ key b = (decides (key y) z).0 is ∙ sym ((decides (key b) z).0 here) in
          ap (λ (a : Bool). a || list_any (alike y) before) (same_as (key y) (key b) both)
      go false here any later = ap (λ (a : Bool). alike y b || a) (later any) ∙ or-true (alike y b)

  any_behind : (p : X → Bool) (before : List X) (y : X) → list_any p before ≡ true → list_any p (before ++ y ∷ []) ≡ true
  any_behind p [] y any = cc
  any_behind p (b ∷ before) y any = go (p b) any (any_behind p before y)
    where
      go : (c : Bool) → (c || list_any p before) ≡ true → (list_any p before ≡ true → list_any p (before ++ y ∷ []) ≡ true) → (c || list_any p (before ++ y ∷ [])) ≡ true
      go true any later = refl
      go false any later = later any

  any_last : (p : X → Bool) (before : List X) (y : X) → p y ≡ true → list_any p (before ++ y ∷ []) ≡ true
  any_last p [] y is = ap (λ (a : Bool). a || false) is
  any_last p (b ∷ before) y is = go (p b) (any_last p before y is)
    where
      go : (c : Bool) → list_any p (before ++ y ∷ []) ≡ true → (c || list_any p (before ++ y ∷ [])) ≡ true
      go true later = refl
      go false later = later

  unless_here : (b : Bool) (index : ℕ) (later : Option ℕ) → cond b (Some index) later ≡ None → (b ≡ false) × (later ≡ None)
  unless_here true index later none = cc
  unless_here false index later none = (refl, none)

  counted : (p : X → Bool) (x : X) (xs : List X) (c : Bool) → p x ≡ c → count_by p (x ∷ xs) ≡ cond c 1 0 + count_by p xs
  counted p x xs c is = count_by-cons p x xs ∙ ap (λ (c : Bool). cond c 1 0 + count_by p xs) is

  -- what is the same as one before isn't there again
  none_again : (before : List X) (index : ℕ) (xs : List X) (z : K) → repeated_from alike before index xs ≡ None → list_any (λ b. same (key b) z) before ≡ true
      → count_by (λ o. same (key o) z) xs ≡ 0
  none_again before index [] z none any = refl
  none_again before index (x ∷ xs) z none any =
      let here = unless_here (list_any (alike x) before) index (repeated_from alike (before ++ x ∷ []) (index + 1) xs) none in
      go (same (key x) z) refl here.0 (none_again (before ++ x ∷ []) (index + 1) xs z here.1 (any_behind (λ b. same (key b) z) before x any))
    where
      go : (c : Bool) → same (key x) z ≡ c → list_any (alike x) before ≡ false → count_by (λ o. same (key o) z) xs ≡ 0 → count_by (λ o. same (key o) z) (x ∷ xs) ≡ 0
      go true is fresh later = let again = any_alike before x z is any in cc
      go false is fresh later = omega (arith, counted (λ o. same (key o) z) x xs false is, later)

  once : (before : List X) (index : ℕ) (xs : List X) (z : K) → repeated_from alike before index xs ≡ None → count_by (λ o. same (key o) z) xs ≤ 1
  once before index [] z none = omega arith
  once before index (x ∷ xs) z none =
      let here = unless_here (list_any (alike x) before) index (repeated_from alike (before ++ x ∷ []) (index + 1) xs) none in
      go (same (key x) z) refl (once (before ++ x ∷ []) (index + 1) xs z here.1) here.1
    where
      go : (c : Bool) → same (key x) z ≡ c → count_by (λ o. same (key o) z) xs ≤ 1 → repeated_from alike (before ++ x ∷ []) (index + 1) xs ≡ None
          → count_by (λ o. same (key o) z) (x ∷ xs) ≤ 1
      go true is later none =
          let rest = none_again (before ++ x ∷ []) (index + 1) xs z none (any_last (λ b. same (key b) z) before x is) in
          omega (arith, counted (λ o. same (key o) z) x xs true is, rest)
      go false is later none = omega (arith, counted (λ o. same (key o) z) x xs false is, later)

  not_more : (n : ℕ) → n ≤ 1 → nat_lt 1 n ≡ false
  not_more n few = grind (arith, nat_tests)

  pub repeated_some : (xs : List X) → repeats same key xs ≡ true → IsSome (repeated_in alike xs)
  repeated_some xs more = go (repeated_in alike xs) refl
    where
      go : (found : Option ℕ) → repeated_in alike xs ≡ found → IsSome (repeated_in alike xs)
      go None none =
          let no : repeats same key xs ≡ false = list_any-none (λ one. nat_lt 1 (count_by (λ other. same (key other) (key one)) xs))
          (λ one. not_more _ (once [] 0 xs (key one) none)) xs in
          cc
      go (Some index) some = ap is_some some

groups_some : (find_in : List (List ℕ) → Option ℕ) (test : List (List ℕ) → Bool) → ((groups : List (List ℕ)) → test groups ≡ true → IsSome (find_in groups))
    → (index : ℕ) (users : List KnownUser) → list_any (λ user. test user.groups) users ≡ true → IsSome (key_of_groups find_in index users)
groups_some find_in test found index [] any = cc
groups_some find_in test found index (user ∷ users) any =
    either (test user.groups) (list_any (λ user. test user.groups) users) any
    (λ here. left _ _ (map_some (at.UserGroup index) (find_in user.groups) (found user.groups here)))
    (λ later. right _ _ (groups_some find_in test found (index + 1) users later))

-- ---- each fault

module _ (users : List KnownUser) (groups : List KnownGroup) where
  lacks : (name : List ℕ) (groups : List KnownGroup) → is_none (find (λ group. bytes_eq group.name name) groups) ≡ not (has_name groups name)
  lacks name [] = refl
  lacks name (group ∷ groups) = go (bytes_eq group.name name) (lacks name groups)
    where
      go : (b : Bool) → is_none (find (λ group. bytes_eq group.name name) groups) ≡ not (has_name groups name)
          → is_none (cond b (Some group) (find (λ group. bytes_eq group.name name) groups)) ≡ not (b || has_name groups name)
      go true later = refl
      go false later = later

  any_lacks : (names : List (List ℕ)) → list_any (λ name. is_none (find (λ group. bytes_eq group.name name) groups)) names ≡ list_any (λ name. not (has_name groups name)) names
  any_lacks [] = refl
  any_lacks (name ∷ names) = rw (lacks name groups, any_lacks names) refl

  unknown_some : (names : List (List ℕ)) → list_any (λ name. is_none (find (λ group. bytes_eq group.name name) groups)) names ≡ true → IsSome (unknown_in groups names)
  unknown_some names any = from_some (λ name. not (has_name groups name)) 0 names (sym (any_lacks names) ∙ any)

  cond_some : (b : Bool) (key : Key) (other : Option Key) → (b ≡ false → IsSome other) → IsSome (cond b (Some key) other)
  cond_some true key other later = refl
  cond_some false key other later = later refl

  too_many_some : (nat_lt MAX_USERS (length users) || nat_lt MAX_GROUPS (length groups) || list_any is_in_too_many users) ≡ true → IsSome (key_of_too_many users groups)
  too_many_some any =
      cond_some (nat_lt MAX_USERS (length users)) _ _ (λ few.
      cond_some (nat_lt MAX_GROUPS (length groups)) _ _ (λ few_groups.
      map_some _ _ (position_some is_in_too_many users
      (last_of (nat_lt MAX_USERS (length users)) (nat_lt MAX_GROUPS (length groups)) (list_any is_in_too_many users) any few few_groups))))
    where
      last_of : (a b c : Bool) → (a || b || c) ≡ true → a ≡ false → b ≡ false → c ≡ true
      last_of true b c any first second = cc
      last_of false true c any first second = cc
      last_of false false c any first second = any

  bad_name_some : (domain : List ℕ) → (not (has_domain_shape domain) || list_any is_misnamed_user users || list_any is_misnamed_group groups) ≡ true
      → IsSome (key_of_bad_name domain users groups)
  bad_name_some domain any =
      cond_some (not (has_domain_shape domain)) _ _ (λ shaped.
      go (not (has_domain_shape domain)) (list_any is_misnamed_user users) (list_any is_misnamed_group groups) any shaped
      (λ here. left _ _ (map_some _ _ (position_some is_misnamed_user users here)))
      (λ here. right _ _ (map_some _ _ (position_some is_misnamed_group groups here))))
    where
      go : {P : Type 0} (a b c : Bool) → (a || b || c) ≡ true → a ≡ false → (b ≡ true → P) → (c ≡ true → P) → P
      go true b c any none first second = cc
      go false true c any none first second = first refl
      go false false c any none first second = second any

  three : {P : Type 0} (a b c : Bool) → (a || b || c) ≡ true → (a ≡ true → P) → (b ≡ true → P) → (c ≡ true → P) → P
  three true b c any first second third = first refl
  three false true c any first second third = second refl
  three false false c any first second third = third any

  repeated_name_some : (repeats bytes_eq (λ user. user.name) users || repeats bytes_eq (λ group. group.name) groups || list_any (λ user. repeats bytes_eq (λ name. name) user.groups) users) ≡ true
      → IsSome (key_of_repeated_name users groups)
  repeated_name_some any =
      let of_users : Option Key = option_map at.UserName (repeated_in users_share_name users) in
      let of_all : Option Key = option_map at.GroupName (repeated_in groups_share_name groups) in
      let of_names : Option Key = key_of_groups (repeated_in bytes_eq) 0 users in
      three (repeats bytes_eq (λ user. user.name) users) (repeats bytes_eq (λ group. group.name) groups) (list_any (λ user. repeats bytes_eq (λ name. name) user.groups) users) any
      (λ here. left of_users (or_key of_all of_names) (map_some _ _ (repeated_some bytes_eq (λ user. user.name) bytes_eq-Decides users here)))
      (λ here. right of_users (or_key of_all of_names) (left of_all of_names (map_some _ _ (repeated_some bytes_eq (λ group. group.name) bytes_eq-Decides groups here))))
      (λ here. right of_users (or_key of_all of_names) (right of_all of_names (groups_some (repeated_in bytes_eq) (repeats bytes_eq (λ name. name))
      (λ names more. repeated_some bytes_eq (λ name. name) bytes_eq-Decides names more) 0 users here)))

  repeated_id_some : (repeats nat_eq (λ user. user.uid) users || repeats nat_eq (λ group. group.gid) groups) ≡ true → IsSome (key_of_repeated_id users groups)
  repeated_id_some any =
      either (repeats nat_eq (λ user. user.uid) users) (repeats nat_eq (λ group. group.gid) groups) any
      (λ here. left _ _ (map_some _ _ (repeated_some nat_eq (λ user. user.uid) Decides-eqb users here)))
      (λ here. right _ _ (map_some _ _ (repeated_some nat_eq (λ group. group.gid) Decides-eqb groups here)))

  unknown_group_some : list_any (λ user. list_any (λ name. is_none (find (λ group. bytes_eq group.name name) groups)) user.groups) users ≡ true → IsSome (key_of_unknown_group users groups)
  unknown_group_some any =
      groups_some (unknown_in groups) (λ names. list_any (λ name. is_none (find (λ group. bytes_eq group.name name) groups)) names) unknown_some 0 users any

pub reports_a_part : (known : Known) (fault : SetupFault) → fault_of known ≡ Some fault → IsSome (key_of_parts known.domain known.users known.groups fault)
reports_a_part known fault is =
    go (is_too_many known) (has_bad_name known) (repeats_name known) (repeats_id known) (has_unknown_group known) refl refl refl refl refl is
  where
    reported : (which : SetupFault) → which ≡ fault → IsSome (key_of_parts known.domain known.users known.groups which) → IsSome (key_of_parts known.domain known.users known.groups fault)
    reported which same some = subst (λ (it : SetupFault). IsSome (key_of_parts known.domain known.users known.groups it)) same some

    go : (many bad name id unknown : Bool) → is_too_many known ≡ many → has_bad_name known ≡ bad → repeats_name known ≡ name → repeats_id known ≡ id
        → has_unknown_group known ≡ unknown
        → cond many (Some TooMany) (cond bad (Some BadName) (cond name (Some RepeatedName) (cond id (Some RepeatedId) (cond unknown (Some UnknownGroup) None)))) ≡ Some fault
        → IsSome (key_of_parts known.domain known.users known.groups fault)
    go true bad name id unknown m b n i u is = reported TooMany (cc) (too_many_some known.users known.groups m)
    go false true name id unknown m b n i u is = reported BadName (cc) (bad_name_some known.users known.groups known.domain b)
    go false false true id unknown m b n i u is = reported RepeatedName (cc) (repeated_name_some known.users known.groups n)
    go false false false true unknown m b n i u is = reported RepeatedId (cc) (repeated_id_some known.users known.groups i)
    go false false false false true m b n i u is = reported UnknownGroup (cc) (unknown_group_some known.users known.groups u)
    go false false false false false m b n i u is = cc
