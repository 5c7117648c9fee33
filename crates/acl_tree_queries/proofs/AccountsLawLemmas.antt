-- Users, asked about by what `accounts` prints, are in the groups that the directory has.
use Rattle.std.proofs.Common.{◌≡◌, ◌∙◌, ◌≤◌, ◌+◌, ◌==◌, ◌||◌, ◌&&◌, ℕ, Bool, true, false, cond, nat_lt, nat_eq, List, [], ◌∷◌, ◌++◌, Option, Some, None, Ok, Err, IsSomeAnd, ap, ap₂, arith, bytes_eq, filter, fold, is_none, length, map, option_map, refl, slice_get, subst, sym, unwrap_or}
use Rattle.std.specs.List.{cons_option, count_by, filter_map, find, list_any, position}
use Rattle.std.specs.Option.{option_and_then, option_map_or}
use Rattle.std.proofs.lemmas.Bool.{or_parts}
use Rattle.std.proofs.lemmas.Bool.Decides.{nat_tests}
use Rattle.std.proofs.lemmas.List.Folds.{list_any-append}
use Rattle.std.proofs.lemmas.Option.{slice_get-map}
use Rattle.std.proofs.lemmas.Slice.Eq.{bytes_eq-Decides}
use Rattle.acl_names.specs.Ascending.{repeats}
use Rattle.acl_names.specs.Directory.{Known, KnownGroup, KnownUser, fault_of, first_group, first_of, gid_of, group_named, groups_of, has_bad_name, has_unknown_group, is_too_many, repeats_id, repeats_name, requester_of, user_named, user_with}
use Rattle.acl_names.specs.Ids.{Name}
use Rattle.acl_names.specs.declared.directory.fault.SetupFault.TheVariants.{BadName, RepeatedId, RepeatedName, TooMany as TooManyNames, UnknownGroup}
use Rattle.acl_names.specs.declared.limits.TheConstants.{NOBODY}
use Rattle.acl_names.proofs.AnyLemmas.{list_any-agree, list_any-and, list_any-filter, list_any-flat_map, list_any-map, list_any-none, list_any-none_and}
use Rattle.acl_names.proofs.Counting.{count_by-cons, list_any-count_by}
use Rattle.acl_accounts.specs.Accounts.{KnownAccount, Membership, account_named, account_of, each_once, gids_with, membership, memberships_in, memberships_of, place_of_written, requester_of as row_requester, rows_within, with_once}
use Rattle.acl_accounts.specs.Rows.{GroupRow, Rows, UserRow, rows_of}
use Rattle.acl_accounts.specs.declared.fault.AccountsFault.TheVariants.{TooMany}
use Rattle.acl_accounts.specs.declared.limits.TheConstants.{MAX_ACCOUNTS_TEXT}
use Rattle.acl_accounts.proofs.PlaceLemmas.{find_in_place}
use Rattle.acl_tree_queries.specs.AccountsLaws.{IsSameRequester, UsersAskAlike, asks_as, or_nobody, with_group}
use Rattle.acl_tree_queries.specs.AccountsText.{group_rows, is_member, members_in, rows_of_known, user_row}

-- ---- numbers

few_if : (n : ℕ) → nat_lt 1 n ≡ false → n ≤ 1
few_if n is = grind (arith, nat_tests)

same_itself : (n : ℕ) → (n == n) ≡ true
same_itself n = grind (arith, nat_tests)

same_number : (one other : ℕ) → (one == other) ≡ true → one ≡ other
same_number one other is = grind (arith, nat_tests)

-- ---- what is found

module _ {X : Type 0} where
  found_passes : (p : X → Bool) (xs : List X) (x : X) → find p xs ≡ Some x → p x ≡ true
  found_passes p [] x found = cc
  found_passes p (y ∷ xs) x found = by (p y) refl found (found_passes p xs x)
    where
      by : (b : Bool) → p y ≡ b → cond b (Some y) (find p xs) ≡ Some x → (find p xs ≡ Some x → p x ≡ true) → p x ≡ true
      by true passes found rest = let same : y ≡ x = cc in ap p (sym same) ∙ passes
      by false fails found rest = rest found

  -- of what none passes, what is found doesn't
  found_fails : (p f : X → Bool) (xs : List X) (x : X) → find p xs ≡ Some x → list_any f xs ≡ false → f x ≡ false
  found_fails p f [] x found none = cc
  found_fails p f (y ∷ xs) x found none = by (p y) found (or_parts (f y) (list_any f xs) none) (found_fails p f xs x)
    where
      by : (b : Bool) → cond b (Some y) (find p xs) ≡ Some x → (f y ≡ false) × (list_any f xs ≡ false) → (find p xs ≡ Some x → list_any f xs ≡ false → f x ≡ false) → f x ≡ false
      by true found both rest = let same : y ≡ x = cc in ap f (sym same) ∙ both.0
      by false found both rest = rest found both.1

  none_found : (p : X → Bool) (xs : List X) → find p xs ≡ None → list_any p xs ≡ false
  none_found p [] none = refl
  none_found p (y ∷ xs) none = by (p y) none (none_found p xs)
    where
      by : (b : Bool) → cond b (Some y) (find p xs) ≡ None → (find p xs ≡ None → list_any p xs ≡ false) → (b || list_any p xs) ≡ false
      by true none rest = cc
      by false none rest = rest none

  none_counted : (p : X → Bool) (xs : List X) → count_by p xs ≤ 0 → list_any p xs ≡ false
  none_counted p xs none = list_any-count_by p xs ∙ (let zero : count_by p xs ≡ 0 = omega (arith, none) in ap (nat_lt 0) zero)

  -- of those that pass there is one
  the_one : (t p : X → Bool) (xs : List X) (x : X) → find p xs ≡ Some x → count_by p xs ≤ 1 → list_any (λ y. t y && p y) xs ≡ t x
  the_one t p [] x found few = cc
  the_one t p (y ∷ xs) x found few = by (p y) refl found (the_one t p xs x)
    where
      by : (b : Bool) → p y ≡ b → cond b (Some y) (find p xs) ≡ Some x → (find p xs ≡ Some x → count_by p xs ≤ 1 → list_any (λ y. t y && p y) xs ≡ t x)
          → ((t y && b) || list_any (λ y. t y && p y) xs) ≡ t x
      by true passes found rest =
          let same : y ≡ x = cc in
          let counts : count_by p (y ∷ xs) ≡ 1 + count_by p xs = count_by-cons p y xs ∙ ap (λ b. cond b 1 0 + count_by p xs) passes in
          let none : list_any p xs ≡ false = none_counted p xs (omega (arith, counts, few)) in
          ap (λ rest. (t y && true) || rest) (list_any-agree (λ z. t z && p z) (λ z. p z && t z) (λ z. turned (t z) (p z)) xs ∙ list_any-none_and p t xs none)
          ∙ alone (t y) ∙ ap t same
        where
          turned : (a b : Bool) → (a && b) ≡ (b && a)
          turned true true = refl
          turned true false = refl
          turned false true = refl
          turned false false = refl

          alone : (a : Bool) → ((a && true) || false) ≡ a
          alone true = refl
          alone false = refl
      by false fails found rest =
          let counts : count_by p (y ∷ xs) ≡ 0 + count_by p xs = count_by-cons p y xs ∙ ap (λ b. cond b 1 0 + count_by p xs) fails in
          ap (λ b. b || list_any (λ z. t z && p z) xs) (nothing (t y)) ∙ rest found (omega (arith, counts, few))
        where
          nothing : (a : Bool) → (a && false) ≡ false
          nothing true = refl
          nothing false = refl

  -- what is found by one test is found by another that it alone passes
  found_alike : (p q : X → Bool) (xs : List X) (x : X) → find p xs ≡ Some x → q x ≡ true → count_by q xs ≤ 1 → find q xs ≡ Some x
  found_alike p q [] x found passes few = cc
  found_alike p q (y ∷ xs) x found passes few = by (p y) (q y) refl refl found (found_alike p q xs x)
    where
      by : (b c : Bool) → p y ≡ b → q y ≡ c → cond b (Some y) (find p xs) ≡ Some x → (find p xs ≡ Some x → q x ≡ true → count_by q xs ≤ 1 → find q xs ≡ Some x)
          → cond c (Some y) (find q xs) ≡ Some x
      by true true first second found rest = found
      by true false first second found rest = let same : y ≡ x = cc in absurd (never (sym second ∙ ap q same ∙ passes))
        where
          never : false ≡ true → ⊥
          never is = cc
      by false true first second found rest =
          let counts : count_by q (y ∷ xs) ≡ 1 + count_by q xs = count_by-cons q y xs ∙ ap (λ b. cond b 1 0 + count_by q xs) second in
          absurd (never (sym (found_fails p q xs x found (none_counted q xs (omega (arith, counts, few)))) ∙ passes))
        where
          never : false ≡ true → ⊥
          never is = cc
      by false false first second found rest =
          let counts : count_by q (y ∷ xs) ≡ 0 + count_by q xs = count_by-cons q y xs ∙ ap (λ b. cond b 1 0 + count_by q xs) second in
          rest found passes (omega (arith, counts, few))

  -- a key that doesn't stand twice is counted once
  counted_once : {K : Type 0} (same : K → K → Bool) → ((a b : K) → same a b ≡ true → a ≡ b) → (key : X → K) (xs : List X) (k : K) (x : X)
      → find (λ y. same (key y) k) xs ≡ Some x → repeats same key xs ≡ false → count_by (λ y. same (key y) k) xs ≤ 1
  counted_once same is key xs k x found once =
      let own : key x ≡ k = is (key x) k (found_passes (λ y. same (key y) k) xs x found) in
      few_if (count_by (λ y. same (key y) k) xs)
      (ap (λ k. nat_lt 1 (count_by (λ y. same (key y) k) xs)) (sym own)
      ∙ found_fails (λ y. same (key y) k) (λ one. nat_lt 1 (count_by (λ y. same (key y) (key one)) xs)) xs x found once)

found_map : {X Y : Type 0} (f : X → Y) (p : Y → Bool) (xs : List X) → find p (map f xs) ≡ option_map f (find (λ x. p (f x)) xs)
found_map f p [] = refl
found_map f p (x ∷ xs) = by (p (f x)) (found_map f p xs)
  where
    by : (b : Bool) → find p (map f xs) ≡ option_map f (find (λ x. p (f x)) xs) → cond b (Some (f x)) (find p (map f xs)) ≡ option_map f (cond b (Some x) (find (λ x. p (f x)) xs))
    by true rest = refl
    by false rest = rest

-- who is found stands at a place, at which there is what was made of who is found
made_in_place : {X Y : Type 0} (f : X → Y) (p : X → Bool) (xs : List X) (x : X) → find p xs ≡ Some x → option_and_then (slice_get (map f xs)) (position p xs) ≡ Some (f x)
made_in_place f p xs x found = by (position p xs) (sym (find_in_place p xs) ∙ found)
  where
    by : (at : Option ℕ) → option_and_then (slice_get xs) at ≡ Some x → option_and_then (slice_get (map f xs)) at ≡ Some (f x)
    by None there = cc
    by (Some at) there = slice_get-map f xs at ∙ ap (option_map f) there

either : {Y : Type 0} (p q : Y → Bool) (ys : List Y) → (list_any p ys || list_any q ys) ≡ list_any (λ y. p y || q y) ys
either p q [] = refl
either p q (y ∷ ys) = turned (p y) (q y) (list_any p ys) (list_any q ys) ∙ ap (λ b. (p y || q y) || b) (either p q ys)
  where
    turned : (a b c d : Bool) → ((a || c) || (b || d)) ≡ ((a || b) || (c || d))
    turned true b c d = refl
    turned false true true d = refl
    turned false true false d = refl
    turned false false c d = refl

module _ {X Y : Type 0} where
  any-filter_map : (h : X → Option Y) (p : Y → Bool) (xs : List X) → list_any p (filter_map h xs) ≡ list_any (λ x. option_map_or p (h x) false) xs
  any-filter_map h p [] = refl
  any-filter_map h p (x ∷ xs) = by (h x) (any-filter_map h p xs)
    where
      by : (found : Option Y) → list_any p (filter_map h xs) ≡ list_any (λ x. option_map_or p (h x) false) xs
          → list_any p (cons_option found (filter_map h xs)) ≡ (option_map_or p found false || list_any (λ x. option_map_or p (h x) false) xs)
      by None rest = rest
      by (Some y) rest = ap (λ b. p y || b) rest

  -- some of each, in either order
  exchanged : (r : X → Y → Bool) (xs : List X) (ys : List Y) → list_any (λ x. list_any (r x) ys) xs ≡ list_any (λ y. list_any (λ x. r x y) xs) ys
  exchanged r [] ys = sym (list_any-none (λ y. false) (λ y. refl) ys)
  exchanged r (x ∷ xs) ys = ap (λ b. list_any (r x) ys || b) (exchanged r xs ys) ∙ either (r x) (λ y. list_any (λ x. r x y) xs) ys

-- ---- gids

abbrev has : ℕ → List ℕ → Bool
has gid gids = list_any (λ own. own == gid) gids

has_once : (gid : ℕ) (ids : List ℕ) (id : ℕ) → has gid (with_once ids id) ≡ (has gid ids || (id == gid))
has_once gid ids id = by (list_any (λ other. other == id) ids) refl
  where
    known : list_any (λ other. other == id) ids ≡ true → has gid ids ≡ (has gid ids || (id == gid))
    known there = by_gid (id == gid) refl
      where
        same_as_it : (id == gid) ≡ true → has gid ids ≡ true
        same_as_it is = let same : id ≡ gid = same_number id gid is in subst (λ n. list_any (λ other. other == n) ids ≡ true) same there

        by_gid : (b : Bool) → (id == gid) ≡ b → has gid ids ≡ (has gid ids || b)
        by_gid true is = same_as_it is ∙ ap (λ b. b || true) (sym (same_as_it is))
        by_gid false is = plain (has gid ids)
          where
            plain : (b : Bool) → b ≡ (b || false)
            plain true = refl
            plain false = refl

    by : (b : Bool) → list_any (λ other. other == id) ids ≡ b → has gid (cond b ids (ids ++ id ∷ [])) ≡ (has gid ids || (id == gid))
    by true is = known is
    by false is = list_any-append (λ own. own == gid) ids (id ∷ []) ∙ ap (λ b. has gid ids || b) (plain (id == gid))
      where
        plain : (b : Bool) → (b || false) ≡ b
        plain true = refl
        plain false = refl

has_each : (gid : ℕ) (seen ids : List ℕ) → has gid (fold with_once seen ids) ≡ (has gid seen || has gid ids)
has_each gid seen [] = plain (has gid seen)
  where
    plain : (b : Bool) → b ≡ (b || false)
    plain true = refl
    plain false = refl
has_each gid seen (id ∷ ids) =
    has_each gid (with_once seen id) ids ∙ ap (λ b. b || has gid ids) (has_once gid seen id) ∙ grouped (has gid seen) (id == gid) (has gid ids)
  where
    grouped : (a b c : Bool) → ((a || b) || c) ≡ (a || (b || c))
    grouped true b c = refl
    grouped false b c = refl

-- the gids of memberships
has_with : (gid : ℕ) (name : List ℕ) (memberships : List Membership)
    → has gid (gids_with name memberships) ≡ list_any (λ member. bytes_eq member.name name && (member.gid == gid)) memberships
has_with gid name memberships =
    list_any-map (λ own. own == gid) (λ (member : Membership). member.gid) (filter (λ member. bytes_eq member.name name) memberships)
    ∙ sym (list_any-filter (λ (member : Membership). bytes_eq member.name name) (λ member. member.gid == gid) memberships)

has_of : (gid : ℕ) (name : List ℕ) (groups : List GroupRow)
    → has gid (gids_with name (memberships_of groups)) ≡ list_any (λ group. list_any (λ member. bytes_eq member name) group.members && (group.gid == gid)) groups
has_of gid name groups =
    has_with gid name (memberships_of groups)
    ∙ list_any-flat_map (λ (member : Membership). bytes_eq member.name name && (member.gid == gid)) memberships_in groups
    ∙ list_any-agree (λ group. list_any (λ (member : Membership). bytes_eq member.name name && (member.gid == gid)) (memberships_in group))
    (λ (group : GroupRow). list_any (λ member. bytes_eq member name) group.members && (group.gid == gid))
    (λ group. list_any-map (λ (member : Membership). bytes_eq member.name name && (member.gid == gid)) (membership group.gid) group.members
    ∙ list_any-and (λ member. bytes_eq member name) (group.gid == gid) group.members) groups

-- ---- of a directory

-- what is wrong with none
record IsGood (known : Known) : Type 0 where
  users : repeats bytes_eq (λ (user : KnownUser). user.name) known.users ≡ false
  groups : repeats bytes_eq (λ (group : KnownGroup). group.name) known.groups ≡ false
  uids : repeats nat_eq (λ (user : KnownUser). user.uid) known.users ≡ false
  names_known : has_unknown_group known ≡ false

is_good : (known : Known) → fault_of known ≡ None → IsGood known
is_good known none = by (is_too_many known) (has_bad_name known) (repeats_name known) refl (repeats_id known) refl (has_unknown_group known) refl none
  where
    by : (a b c : Bool) → repeats_name known ≡ c → (d : Bool) → repeats_id known ≡ d → (e : Bool) → has_unknown_group known ≡ e
        → cond a (Some TooManyNames) (cond b (Some BadName) (cond c (Some RepeatedName) (cond d (Some RepeatedId) (cond e (Some UnknownGroup) None)))) ≡ None → IsGood known
    by true b c names d ids e groups none = cc
    by false true c names d ids e groups none = cc
    by false false true names d ids e groups none = cc
    by false false false names true ids e groups none = cc
    by false false false names false ids true groups none = cc
    by false false false names false ids false groups none =
        let twice_users = repeats bytes_eq (λ (user : KnownUser). user.name) known.users in
        let twice_groups = repeats bytes_eq (λ (group : KnownGroup). group.name) known.groups in
        let first = or_parts (twice_users || twice_groups) (list_any (λ (user : KnownUser). repeats bytes_eq (λ (name : List ℕ). name) user.groups) known.users) names in
        let both = or_parts twice_users twice_groups first.0 in
        let numbers = or_parts (repeats nat_eq (λ (user : KnownUser). user.uid) known.users) (repeats nat_eq (λ (group : KnownGroup). group.gid) known.groups) ids in
        record { users = both.0; groups = both.1; uids = numbers.0; names_known = groups }

same_bytes : (one other : List ℕ) → bytes_eq one other ≡ true → one ≡ other
same_bytes one other is = (bytes_eq-Decides one other).0 is

turned_bytes : (one other : List ℕ) → bytes_eq one other ≡ bytes_eq other one
turned_bytes one other = by (bytes_eq one other) (bytes_eq other one) refl refl
  where
    by : (b c : Bool) → bytes_eq one other ≡ b → bytes_eq other one ≡ c → b ≡ c
    by true true is are = refl
    by true false is are = sym ((bytes_eq-Decides other one).1 (sym (same_bytes one other is))) ∙ are
    by false true is are = sym is ∙ (bytes_eq-Decides one other).1 (sym (same_bytes other one are))
    by false false is are = refl

module _ (known : Known) (good : IsGood known) (name : List ℕ) (user : KnownUser) (named : user_named known name ≡ Some user) where
  own_name : user.name ≡ name
  own_name = same_bytes user.name name (found_passes (λ (one : KnownUser). bytes_eq one.name name) known.users user named)

  by_uid : user_with known user.uid ≡ Some user
  by_uid =
      let own : (user.uid == user.uid) ≡ true = same_itself user.uid in
      let few : count_by (λ (one : KnownUser). one.uid == user.uid) known.users ≤ 1 =
      few_if (count_by (λ (one : KnownUser). one.uid == user.uid) known.users)
      (found_fails (λ (one : KnownUser). bytes_eq one.name name) (λ one. nat_lt 1 (count_by (λ (other : KnownUser). other.uid == one.uid) known.users)) known.users user named good.uids) in
      found_alike (λ (one : KnownUser). bytes_eq one.name name) (λ one. one.uid == user.uid) known.users user named own few

  own_groups : groups_of known user.uid ≡ user.groups
  own_groups = ap (λ found. option_map_or (λ (one : KnownUser). one.groups) found []) by_uid

  -- whether one of the groups that the user is in has this gid
  abbrev in_some : ℕ → Bool
  in_some gid = list_any (λ (group : KnownGroup). is_member group.name user && (group.gid == gid)) known.groups

  -- the names of the members of a group have the user's exactly if the user is in it
  is_among : (group : List ℕ) → list_any (λ member. bytes_eq member name) (members_in group known.users) ≡ is_member group user
  is_among group =
      list_any-map (λ member. bytes_eq member name) (λ (one : KnownUser). one.name) (filter (is_member group) known.users)
      ∙ sym (list_any-filter (is_member group) (λ (one : KnownUser). bytes_eq one.name name) known.users)
      ∙ the_one (is_member group) (λ (one : KnownUser). bytes_eq one.name name) known.users user named
      (counted_once bytes_eq same_bytes (λ (one : KnownUser). one.name) known.users name user named good.users)

  of_rows : (gid number : ℕ) (groups : List KnownGroup)
      → list_any (λ (row : GroupRow). list_any (λ member. bytes_eq member name) row.members && (row.gid == gid)) (group_rows known.users number groups)
      ≡ list_any (λ (group : KnownGroup). is_member group.name user && (group.gid == gid)) groups
  of_rows gid number [] = refl
  of_rows gid number (group ∷ groups) = ap₂ (λ a b. (a && (group.gid == gid)) || b) (is_among group.name) (of_rows gid (number + 1) groups)

  abbrev gid_found : ℕ → Option ℕ → Bool
  gid_found gid found = option_map_or (λ own. own == gid) found false

  of_name : (gid : ℕ) (group : List ℕ) → gid_found gid (gid_of known group) ≡ list_any (λ (one : KnownGroup). (one.gid == gid) && bytes_eq one.name group) known.groups
  of_name gid group = by (group_named known group) refl
    where
      by : (found : Option KnownGroup) → group_named known group ≡ found
          → gid_found gid (option_map (λ (one : KnownGroup). one.gid) found) ≡ list_any (λ (one : KnownGroup). (one.gid == gid) && bytes_eq one.name group) known.groups
      by (Some one) found =
          sym (the_one (λ (one : KnownGroup). one.gid == gid) (λ one. bytes_eq one.name group) known.groups one found
          (counted_once bytes_eq same_bytes (λ (one : KnownGroup). one.name) known.groups group one found good.groups))
      by None found =
          sym (list_any-agree (λ (one : KnownGroup). (one.gid == gid) && bytes_eq one.name group) (λ one. bytes_eq one.name group && (one.gid == gid)) (λ one. turned (one.gid == gid) (bytes_eq one.name group)) known.groups
          ∙ list_any-none_and (λ (one : KnownGroup). bytes_eq one.name group) (λ one. one.gid == gid) known.groups (none_found (λ (one : KnownGroup). bytes_eq one.name group) known.groups found))
        where
          turned : (a b : Bool) → (a && b) ≡ (b && a)
          turned true true = refl
          turned true false = refl
          turned false true = refl
          turned false false = refl

  -- the gids that the directory gives
  of_directory : (gid : ℕ) → has gid (filter_map (gid_of known) user.groups) ≡ in_some gid
  of_directory gid =
      any-filter_map (gid_of known) (λ own. own == gid) user.groups
      ∙ list_any-agree (λ group. gid_found gid (gid_of known group)) (λ group. list_any (λ (one : KnownGroup). (one.gid == gid) && bytes_eq one.name group) known.groups) (of_name gid) user.groups
      ∙ exchanged (λ group (one : KnownGroup). (one.gid == gid) && bytes_eq one.name group) user.groups known.groups
      ∙ list_any-agree (λ (one : KnownGroup). list_any (λ group. (one.gid == gid) && bytes_eq one.name group) user.groups) (λ one. is_member one.name user && (one.gid == gid)) each known.groups
    where
      out_of : (b : Bool) (one : List ℕ) (names : List (List ℕ)) → list_any (λ group. b && bytes_eq one group) names ≡ (list_any (λ group. bytes_eq group one) names && b)
      out_of true one names =
          list_any-agree (λ group. bytes_eq one group) (λ group. bytes_eq group one) (λ group. turned_bytes one group) names ∙ plain (list_any (λ group. bytes_eq group one) names)
        where
          plain : (b : Bool) → b ≡ (b && true)
          plain true = refl
          plain false = refl
      out_of false one names = list_any-none (λ group. false) (λ group. refl) names ∙ plain (list_any (λ group. bytes_eq group one) names)
        where
          plain : (b : Bool) → false ≡ (b && false)
          plain true = refl
          plain false = refl

      each : (one : KnownGroup) → list_any (λ group. (one.gid == gid) && bytes_eq one.name group) user.groups ≡ (is_member one.name user && (one.gid == gid))
      each one = out_of (one.gid == gid) one.name user.groups

  -- with that of the first group, or nobody's
  with_first : (gid : ℕ) → ((unwrap_or (first_group known user.uid) NOBODY == gid) || in_some gid) ≡ has gid (or_nobody (filter_map (gid_of known) user.groups))
  with_first gid =
      ap (λ groups. (unwrap_or (option_and_then (gid_of known) (first_of groups)) NOBODY == gid) || in_some gid) own_groups
      ∙ ap (λ b. (unwrap_or (option_and_then (gid_of known) (first_of user.groups)) NOBODY == gid) || b) (sym (of_directory gid))
      ∙ by user.groups
      (found_fails (λ (one : KnownUser). bytes_eq one.name name) (λ one. list_any (λ group. is_none (group_named known group)) one.groups) known.users user named good.names_known)
    where
      twice : (a b : Bool) → (a || (a || b)) ≡ (a || b)
      twice true b = refl
      twice false b = refl

      by : (names : List (List ℕ)) → list_any (λ group. is_none (group_named known group)) names ≡ false
          → ((unwrap_or (option_and_then (gid_of known) (first_of names)) NOBODY == gid) || has gid (filter_map (gid_of known) names)) ≡ has gid (or_nobody (filter_map (gid_of known) names))
      by [] none = refl
      by (first ∷ names) none = by_first (group_named known first) (or_parts (is_none (group_named known first)) (list_any (λ group. is_none (group_named known group)) names) none).0
        where
          by_first : (found : Option KnownGroup) → is_none found ≡ false
              → ((unwrap_or (option_map (λ (one : KnownGroup). one.gid) found) NOBODY == gid) || has gid (cons_option (option_map (λ (one : KnownGroup). one.gid) found) (filter_map (gid_of known) names)))
              ≡ has gid (or_nobody (cons_option (option_map (λ (one : KnownGroup). one.gid) found) (filter_map (gid_of known) names)))
          by_first None none = cc
          by_first (Some one) none = twice (one.gid == gid) (has gid (filter_map (gid_of known) names))

  -- the user of the rows asks as the directory's
  rows_alike : IsSameRequester (row_requester (rows_of_known known).groups (account_of (user_row known user))) (with_group (requester_of known user.uid))
  rows_alike = record { uid = refl; groups = groups }
    where
      first : ℕ
      first = unwrap_or (first_group known user.uid) NOBODY

      rows : List GroupRow
      rows = group_rows known.users (length known.users + 1) known.groups

      groups : (gid : ℕ) → has gid (each_once (first ∷ gids_with user.name (memberships_of rows))) ≡ has gid (or_nobody (filter_map (gid_of known) (groups_of known user.uid)))
      groups gid =
          has_each gid [] (first ∷ gids_with user.name (memberships_of rows))
          ∙ ap (λ own. (first == gid) || has gid (gids_with own (memberships_of rows))) own_name
          ∙ ap (λ b. (first == gid) || b) (has_of gid name rows ∙ of_rows gid (length known.users + 1) known.groups)
          ∙ with_first gid
          ∙ ap (λ names. has gid (or_nobody (filter_map (gid_of known) names))) (sym own_groups)

-- ---- what is read

-- the rows of a text that were read are those that it has
rows_are : (text : List ℕ) (rows others : Rows) → rows_within text ≡ Ok rows → rows_of text ≡ Ok others → rows ≡ others
rows_are text rows others within are = by (nat_lt MAX_ACCOUNTS_TEXT (length text)) within
  where
    by : (b : Bool) → cond b (Err TooMany) (rows_of text) ≡ Ok rows → rows ≡ others
    by true within = cc
    by false within = let same = sym within ∙ are in cc

pub users_ask_alike : UsersAskAlike
users_ask_alike known tree text accounts printed read name user named =
    let rows : read.rows ≡ rows_of_known known = rows_are text read.rows (rows_of_known known) read.read printed.read_is in
    let good = is_good known printed.faultless in
    let account : account_named accounts name ≡ Some (account_of (user_row known user)) =
    read.are.users name
    ∙ ap (λ rows. option_map account_of (find (λ (row : UserRow). bytes_eq row.name name) rows.users)) rows
    ∙ ap (option_map account_of) (found_map (user_row known) (λ row. bytes_eq row.name name) known.users)
    ∙ ap (λ found. option_map account_of (option_map (user_row known) found)) named in
    let asks : asks_as accounts name ≡ Some (row_requester (rows_of_known known).groups (account_of (user_row known user))) =
    ap (λ all. option_and_then (slice_get all) (place_of_written accounts (Name name))) (read.are.requesters ∙ ap (λ rows. map (row_requester rows.groups) accounts.users) rows)
    ∙ made_in_place (row_requester (rows_of_known known).groups) (λ (one : KnownAccount). bytes_eq one.name name) accounts.users (account_of (user_row known user)) account in
    subst (λ found. IsSomeAnd found (λ who. IsSameRequester who (with_group (requester_of known user.uid)))) (sym asks) (rows_alike known good name user named)
