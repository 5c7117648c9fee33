-- The order of the users and of the groups plays no part in what is wrong with them and in what is found.
use Rattle.std.proofs.Common.{◌≡◌, ◌∙◌, ℕ, ◌==◌, Bool, true, false, cond, not, nat_lt, nat_eq, ◌||◌, ◌<◌}
use Rattle.std.proofs.Common.{Option, Some, None, List, [], length, get_or, arith, refl, sym, ap, inl, inr}
use Rattle.std.proofs.Common.{find, option_map, is_none, IsPermutation, nat_cmp, bytes_eq}
use Rattle.std.specs.Cmp.Lexicographic.{slice_cmp}
use Rattle.std.specs.List.{Contains, list_any, filter_map, slice_get}
use Rattle.std.specs.Option.{option_and_then, option_map_or}
use Rattle.std.proofs.lemmas.Bool.{or_parts, not-false}
use Rattle.std.proofs.lemmas.Bool.Decides.{Decides-eqb}
use Rattle.std.proofs.lemmas.Slice.Eq.{bytes_eq-Decides}
use Rattle.std.proofs.lemmas.Cmp.{nat_cmp_total, nat_list_cmp_total}
use Rattle.std.proofs.lemmas.List.Sorted.{length_permutation, list_any-IsPermutation}
use Rattle.std.proofs.lemmas.List.{length-map, get_or_default}
use Rattle.std.proofs.lemmas.Option.{slice_get-map, slice_get-get_or, none-some}
use Rattle.acl_names.specs.declared.limits.TheConstants.{MAX_GROUPS_OF_USER}
use Rattle.acl_names.specs.Ascending.{repeats}
use Rattle.acl_names.specs.Directory.{KnownUser, KnownGroup, Known, AnswersAs, IsDirectory, IsRefusedFor}
use Rattle.acl_names.specs.Directory.{NamesReadBack, as_requester, requester_of, fault_of, is_too_many}
use Rattle.acl_names.specs.Directory.{has_bad_name, repeats_name, repeats_id, has_unknown_group, user_named}
use Rattle.acl_names.specs.Directory.{group_named, user_with, group_with, groups_of, gid_of, first_of}
use Rattle.acl_names.specs.Ids.{ReadBack, has_name_shape, has_domain_shape}
use Rattle.acl_names.specs.declared.directory.fault.SetupFault.{SetupFault}
use Rattle.acl_names.specs.declared.directory.fault.SetupFault.TheVariants.{BadName, RepeatedName, RepeatedId, UnknownGroup, TooMany, Memory}
use Rattle.acl_names.proofs.AnyLemmas.{list_any-agree}
use Rattle.acl_names.proofs.AscendingLemmas.{Contains-find, any_false, find-distinct, find-permutation, first_or_none, repeats-permutation}
use Rattle.acl_names.specs.Requester.{Identity}
use Rattle.acl_names.proofs.Indexes.{place_found, none_found}
use Rattle.acl_names.proofs.Keys.{same_id, same_name}
use Rattle.acl_names.proofs.MapLemmas.{filter_map-agree}

-- the tests in their order, of which the last is asked only if no name stands twice
first_of_tests : Bool → Bool → Bool → Bool → Bool → Option SetupFault
first_of_tests a b c d e =
    cond a (Some TooMany) (cond b (Some BadName) (cond c (Some RepeatedName) (cond d (Some RepeatedId) (cond e (Some UnknownGroup) None))))

last_test : (a b c d e f : Bool) → (c ≡ false → e ≡ f) → first_of_tests a b c d e ≡ first_of_tests a b c d f
unfolding first_of_tests
last_test a b true d e f same = refl
last_test a b false d e f same = ap (λ t. first_of_tests a b false d t) (same refl)

none_wrong : (a b c d e : Bool) → first_of_tests a b c d e ≡ None → (c ≡ false) × (d ≡ false)
unfolding first_of_tests
none_wrong true b c d e is = absurd (cc)
none_wrong false true c d e is = absurd (cc)
none_wrong false false true d e is = absurd (cc)
none_wrong false false false true e is = absurd (cc)
none_wrong false false false false e is = (refl, refl)

-- no test says that memory ran out
no_memory : (a b c d e : Bool) → first_of_tests a b c d e ≡ Some Memory → ⊥
unfolding first_of_tests
no_memory true b c d e is = cc
no_memory false true c d e is = cc
no_memory false false true d e is = cc
no_memory false false false true e is = cc
no_memory false false false false true is = cc
no_memory false false false false false is = cc

-- a fault that is found is one that the lists are refused for
pub refused_for : (known : Known) (fault : SetupFault) → fault_of known ≡ Some fault → IsRefusedFor known fault
unfolding first_of_tests
refused_for known BadName is = is
refused_for known RepeatedName is = is
refused_for known RepeatedId is = is
refused_for known UnknownGroup is = is
refused_for known TooMany is = is
refused_for known Memory is = absurd (no_memory (is_too_many known) (has_bad_name known) (repeats_name known) (repeats_id known) (has_unknown_group known) is)

shapes_right : (a b c d e : Bool) → first_of_tests a b c d e ≡ None → b ≡ false
unfolding first_of_tests
shapes_right true b c d e is = absurd (cc)
shapes_right false true c d e is = absurd (cc)
shapes_right false false c d e is = refl

module _ (domain : List ℕ) (users sorted_users : List KnownUser) (groups sorted_groups : List KnownGroup)
    (moved_users : IsPermutation users sorted_users) (moved_groups : IsPermutation groups sorted_groups) where
  abbrev parts : Known
  parts = record { domain = domain; users = users; groups = groups }

  abbrev known : Known
  known = record { domain = domain; users = sorted_users; groups = sorted_groups }

  same_too_many : is_too_many parts ≡ is_too_many known
  same_too_many =
      rw (
        length_permutation users sorted_users moved_users,
        length_permutation groups sorted_groups
            moved_groups,
        ← list_any-IsPermutation (λ (user : KnownUser). nat_lt MAX_GROUPS_OF_USER
            (length user.groups)) users sorted_users moved_users,
      ) refl

  same_bad_name : has_bad_name parts ≡ has_bad_name known
  same_bad_name =
      rw (
        list_any-IsPermutation (λ (user : KnownUser). not (has_name_shape user.name)) users sorted_users moved_users,
        list_any-IsPermutation (λ (group : KnownGroup). not (has_name_shape group.name)) groups sorted_groups moved_groups,
      ) refl

  same_repeated_name : repeats_name parts ≡ repeats_name known
  same_repeated_name =
      rw (
        repeats-permutation (slice_cmp nat_cmp) nat_list_cmp_total (λ (user : KnownUser). user.name) bytes_eq same_name users sorted_users moved_users,
        repeats-permutation (slice_cmp nat_cmp) nat_list_cmp_total (λ (group : KnownGroup). group.name) bytes_eq same_name groups sorted_groups moved_groups,
        list_any-IsPermutation (λ (user : KnownUser). repeats bytes_eq (λ (name : List ℕ). name) user.groups) users sorted_users moved_users,
      ) refl

  same_repeated_id : repeats_id parts ≡ repeats_id known
  same_repeated_id =
      rw (
        repeats-permutation nat_cmp nat_cmp_total (λ (user : KnownUser). user.uid) nat_eq same_id users sorted_users moved_users,
        repeats-permutation nat_cmp nat_cmp_total (λ (group : KnownGroup). group.gid) nat_eq same_id groups sorted_groups moved_groups,
      ) refl

  -- if no name stands twice, names are found alike
  same_user_named : repeats bytes_eq (λ (user : KnownUser). user.name) sorted_users ≡ false → (name : List ℕ) → user_named known name ≡ user_named parts name
  same_user_named once name =
      sym (find-permutation (slice_cmp nat_cmp) nat_list_cmp_total (λ (user : KnownUser). user.name) bytes_eq same_name users sorted_users name moved_users once)

  same_group_named : repeats bytes_eq (λ (group : KnownGroup). group.name) sorted_groups ≡ false → (name : List ℕ) → group_named known name ≡ group_named parts name
  same_group_named once name =
      sym (find-permutation (slice_cmp nat_cmp) nat_list_cmp_total (λ (group : KnownGroup). group.name) bytes_eq same_name groups sorted_groups name moved_groups once)

  -- and if no id stands twice, ids are
  same_user_with : repeats nat_eq (λ (user : KnownUser). user.uid) sorted_users ≡ false → (uid : ℕ) → user_with known uid ≡ user_with parts uid
  same_user_with once uid =
      sym (find-permutation nat_cmp nat_cmp_total (λ (user : KnownUser). user.uid) nat_eq same_id users sorted_users uid moved_users once)

  same_group_with : repeats nat_eq (λ (group : KnownGroup). group.gid) sorted_groups ≡ false → (gid : ℕ) → group_with known gid ≡ group_with parts gid
  same_group_with once gid =
      sym (find-permutation nat_cmp nat_cmp_total (λ (group : KnownGroup). group.gid) nat_eq same_id groups sorted_groups gid moved_groups once)

  same_unknown_group : repeats_name known ≡ false → has_unknown_group parts ≡ has_unknown_group known
  same_unknown_group none =
      let both = or_parts (repeats bytes_eq (λ (user : KnownUser). user.name) sorted_users || repeats bytes_eq (λ (group : KnownGroup). group.name) sorted_groups)
      (list_any (λ (user : KnownUser). repeats bytes_eq (λ (name : List ℕ). name) user.groups) sorted_users) none in
      let names = or_parts (repeats bytes_eq (λ (user : KnownUser). user.name) sorted_users) (repeats bytes_eq (λ (group : KnownGroup). group.name) sorted_groups) both.0 in
      list_any-IsPermutation (λ (user : KnownUser). list_any (λ (name : List ℕ). is_none (group_named parts name)) user.groups) users sorted_users moved_users
      ∙ list_any-agree (λ (user : KnownUser). list_any (λ (name : List ℕ). is_none (group_named parts name)) user.groups)
      (λ (user : KnownUser). list_any (λ (name : List ℕ). is_none (group_named known name)) user.groups)
      (λ user. list_any-agree (λ (name : List ℕ). is_none (group_named parts name)) (λ (name : List ℕ). is_none (group_named known name))
      (λ name. ap is_none (sym (same_group_named names.1 name))) user.groups) sorted_users

  pub fault_of-moved : fault_of parts ≡ fault_of known
  unfolding first_of_tests
  fault_of-moved =
      let same : first_of_tests (is_too_many parts) (has_bad_name parts) (repeats_name parts) (repeats_id parts) (has_unknown_group parts)
      ≡ first_of_tests (is_too_many known) (has_bad_name known) (repeats_name known) (repeats_id known) (has_unknown_group parts) =
      rw (same_too_many, same_bad_name, same_repeated_name, same_repeated_id) refl in
      same ∙ last_test (is_too_many known) (has_bad_name known) (repeats_name known) (repeats_id known) (has_unknown_group parts) (has_unknown_group known) same_unknown_group

  -- if nothing is wrong, every look-up answers alike
  pub answers_alike : fault_of known ≡ None → AnswersAs known parts
  unfolding first_of_tests
  answers_alike faultless =
      let none = none_wrong (is_too_many known) (has_bad_name known) (repeats_name known) (repeats_id known) (has_unknown_group known) faultless in
      let names_both = or_parts (repeats bytes_eq (λ (user : KnownUser). user.name) sorted_users || repeats bytes_eq (λ (group : KnownGroup). group.name) sorted_groups)
      (list_any (λ (user : KnownUser). repeats bytes_eq (λ (name : List ℕ). name) user.groups) sorted_users) none.0 in
      let names = or_parts (repeats bytes_eq (λ (user : KnownUser). user.name) sorted_users) (repeats bytes_eq (λ (group : KnownGroup). group.name) sorted_groups) names_both.0 in
      let ids = or_parts (repeats nat_eq (λ (user : KnownUser). user.uid) sorted_users) (repeats nat_eq (λ (group : KnownGroup). group.gid) sorted_groups) none.1 in
      let gid_alike : (name : List ℕ) → gid_of known name ≡ gid_of parts name =
      λ name. ap (option_map (λ (group : KnownGroup). group.gid)) (same_group_named names.1 name) in
      let groups_alike : (uid : ℕ) → groups_of known uid ≡ groups_of parts uid =
      λ uid. ap (λ found. option_map_or (λ (user : KnownUser). user.groups) found []) (same_user_with ids.0 uid) in
      record {
        domain = refl;
        uids = λ name. ap (option_map (λ (user : KnownUser). user.uid)) (same_user_named names.0 name);
        gids = gid_alike;
        user_names = λ uid. ap (option_map (λ (user : KnownUser). user.name)) (same_user_with ids.0 uid);
        group_names = λ gid. ap (option_map (λ (group : KnownGroup). group.name)) (same_group_with ids.1 gid);
        first_groups = λ uid. ap (λ names. option_and_then (gid_of known) (first_of names)) (groups_alike uid) ∙ and_then_alike gid_alike (first_of (groups_of parts uid));
        requesters = λ uid i. record {
          uid = uid;
          gids = (ap (filter_map (gid_of known)) (groups_alike uid) ∙ filter_map-agree (gid_of known) (gid_of parts) gid_alike (groups_of parts uid)) i;
        };
      }
    where
      and_then_alike : ((name : List ℕ) → gid_of known name ≡ gid_of parts name) → (name : Option (List ℕ)) → option_and_then (gid_of known) name ≡ option_and_then (gid_of parts) name
      and_then_alike alike None = refl
      and_then_alike alike (Some name) = alike name

-- what is no `Some` is `None`
pub none_from : (found : Option SetupFault) → ((fault : SetupFault) → found ≡ Some fault → ⊥) → found ≡ None
none_from None never = refl
none_from (Some fault) never = absurd (never fault refl)

-- members whose names have their shape, of which none stands twice, are found again by their names
read_back : {X : Type 0} (name_of : X → List ℕ) (id_of : X → ℕ) (members : List X) → repeats bytes_eq name_of members ≡ false
    → list_any (λ member. not (has_name_shape (name_of member))) members ≡ false
    → ReadBack (λ name. option_map id_of (find (λ member. bytes_eq (name_of member) name) members))
    (λ id. option_map name_of (find (λ member. id_of member == id) members))
read_back name_of id_of members once shaped id name found =
    elim (first_or_none (λ member. id_of member == id) members) [
      | inl (member, (is, passes)) ↦
          let named : Some (name_of member) ≡ Some name = sym (ap (option_map name_of) is) ∙ found in
          let same : name_of member ≡ name = cc in
          let there : Contains members member = Contains-find (λ m. id_of m == id) members member is in
          let at : (d : _) → get_or members there.0 d ≡ member = λ d. get_or_default members there.0 d member there.1 ∙ there.2 in
          let has_shape : has_name_shape (name_of member) ≡ true =
          not-false _ (ap (λ m. not (has_name_shape (name_of m))) (sym (at member)) ∙ any_false members (λ m. not (has_name_shape (name_of m))) shaped there.0 member there.1) in
          let by_name : find (λ m. bytes_eq (name_of m) name) members ≡ Some member =
          find-distinct (slice_cmp nat_cmp) nat_list_cmp_total name_of bytes_eq same_name members name once there.0 there.1
          (λ d. (bytes_eq-Decides (name_of (get_or members there.0 d)) name).1 (ap name_of (at d) ∙ same))
          ∙ slice_get-get_or members there.0 member there.1 ∙ ap Some there.2 in
          let that : id_of member ≡ id = (Decides-eqb (id_of member) id).0 passes in
          (ap has_name_shape (sym same) ∙ has_shape, ap (option_map id_of) by_name ∙ ap Some that)
      | inr none ↦ absurd (none-some name (sym (ap (option_map name_of) none.0) ∙ found))
    ]

-- a name that is found has its shape
found_shaped : {X : Type 0} (name_of : X → List ℕ) (members : List X) → list_any (λ member. not (has_name_shape (name_of member))) members ≡ false
    → (name : List ℕ) (member : X) → find (λ m. bytes_eq (name_of m) name) members ≡ Some member → has_name_shape name ≡ true
found_shaped {X} name_of members shaped name member is =
    elim (first_or_none (λ m. bytes_eq (name_of m) name) members) [
      | inl (found, (that, passes)) ↦
          let there : Contains members found = Contains-find (λ m. bytes_eq (name_of m) name) members found that in
          let at : (d : X) → get_or members there.0 d ≡ found = λ d. get_or_default members there.0 d found there.1 ∙ there.2 in
          let has_shape : has_name_shape (name_of found) ≡ true =
          not-false _ (ap (λ m. not (has_name_shape (name_of m))) (sym (at found)) ∙ any_false members (λ m. not (has_name_shape (name_of m))) shaped there.0 found there.1) in
          let same : name_of found ≡ name = (bytes_eq-Decides (name_of found) name).0 passes in
          ap has_name_shape (sym same) ∙ has_shape
      | inr none ↦ absurd (nothing member (sym none.0 ∙ is))
    ]
  where
    nothing : (m : X) → None ≡ Some m → ⊥
    nothing m e = cc

names_shaped : (known : Known) → fault_of known ≡ None
    → (list_any (λ (user : KnownUser). not (has_name_shape user.name)) known.users ≡ false)
    × (list_any (λ (group : KnownGroup). not (has_name_shape group.name)) known.groups ≡ false)
unfolding first_of_tests
names_shaped known faultless =
    let shaped = shapes_right (is_too_many known) (has_bad_name known) (repeats_name known) (repeats_id known) (has_unknown_group known) faultless in
    let both = or_parts (not (has_domain_shape known.domain) || list_any (λ (user : KnownUser). not (has_name_shape user.name)) known.users)
    (list_any (λ (group : KnownGroup). not (has_name_shape group.name)) known.groups) shaped in
    let users = or_parts (not (has_domain_shape known.domain)) (list_any (λ (user : KnownUser). not (has_name_shape user.name)) known.users) both.0 in
    (users.1, both.1)

pub user_shaped : (known : Known) → fault_of known ≡ None → (name : List ℕ) (user : KnownUser) → user_named known name ≡ Some user → has_name_shape name ≡ true
user_shaped known faultless = found_shaped (λ (user : KnownUser). user.name) known.users (names_shaped known faultless).0

pub group_shaped : (known : Known) → fault_of known ≡ None → (name : List ℕ) (group : KnownGroup) → group_named known name ≡ Some group → has_name_shape name ≡ true
group_shaped known faultless = found_shaped (λ (group : KnownGroup). group.name) known.groups (names_shaped known faultless).1

-- if nothing is wrong, names can be distinguished
pub reports_names_apart : (known : Known) → fault_of known ≡ None → NamesReadBack known
unfolding first_of_tests
reports_names_apart known faultless =
    let none = none_wrong (is_too_many known) (has_bad_name known) (repeats_name known) (repeats_id known) (has_unknown_group known) faultless in
    let shaped = shapes_right (is_too_many known) (has_bad_name known) (repeats_name known) (repeats_id known) (has_unknown_group known) faultless in
    let names_both = or_parts (repeats bytes_eq (λ (user : KnownUser). user.name) known.users || repeats bytes_eq (λ (group : KnownGroup). group.name) known.groups)
    (list_any (λ (user : KnownUser). repeats bytes_eq (λ (name : List ℕ). name) user.groups) known.users) none.0 in
    let names = or_parts (repeats bytes_eq (λ (user : KnownUser). user.name) known.users) (repeats bytes_eq (λ (group : KnownGroup). group.name) known.groups) names_both.0 in
    let shapes_both = or_parts (not (has_domain_shape known.domain) || list_any (λ (user : KnownUser). not (has_name_shape user.name)) known.users)
    (list_any (λ (group : KnownGroup). not (has_name_shape group.name)) known.groups) shaped in
    let shapes = or_parts (not (has_domain_shape known.domain)) (list_any (λ (user : KnownUser). not (has_name_shape user.name)) known.users) shapes_both.0 in
    record {
      domain = not-false (has_domain_shape known.domain) shapes.0;
      users = read_back (λ (user : KnownUser). user.name) (λ user. user.uid) known.users names.0 shapes.1;
      groups = read_back (λ (group : KnownGroup). group.name) (λ group. group.gid) known.groups names.1 shapes_both.1;
    }

-- the user of a uid asks as the requester of that uid
asks_as : (known : Known) (uid : ℕ) (user : KnownUser) → user_with known uid ≡ Some user → (user.uid == uid) ≡ true → as_requester known user ≡ requester_of known uid
asks_as known uid user is same i =
    record {
      uid = (Decides-eqb user.uid uid).0 same i;
      gids = filter_map (gid_of known) (option_map_or (λ (one : KnownUser). one.groups) (sym is i) []);
    }

found_asks : (known : Known) (uid : ℕ) → option_map (as_requester known) (user_with known uid) ≡ option_map (λ _. requester_of known uid) (user_with known uid)
found_asks known uid =
    elim (first_or_none (λ (user : KnownUser). user.uid == uid) known.users) [
      | inl (user, (is, same)) ↦
          ap (option_map (as_requester known)) is ∙ ap Some (asks_as known uid user is same) ∙ sym (ap (option_map (λ _. requester_of known uid)) is)
      | inr none ↦ ap (option_map (as_requester known)) none.0 ∙ sym (ap (option_map (λ _. requester_of known uid)) none.0)
    ]

-- the requester at the place that is found for a uid is that of the uid
pub ready_found : (known : Known) (user_places group_places : List (ℕ × ℕ)) (requesters : List Identity) → IsDirectory known user_places group_places requesters
    → (uid place : ℕ) → Some place ≡ option_map (λ entry. entry.1) (find (λ entry. entry.0 == uid) user_places)
    → (place < length requesters) × (slice_get requesters place ≡ option_map (λ _. requester_of known uid) (user_with known uid))
ready_found known user_places group_places requesters is uid place found =
    let at = place_found (λ user. user.uid) known.users user_places is.user_places_are uid place found in
    let here : place ≡ at.behind = omega (arith, at.is) in
    let long : length requesters ≡ length known.users = ap length is.requesters_are ∙ length-map known.users (as_requester known) in (
      omega (arith, here, long, at.inside),
      ap (λ all. slice_get all place) is.requesters_are ∙ slice_get-map (as_requester known) known.users place
          ∙ ap (option_map (as_requester known)) (ap (slice_get known.users) here ∙ sym at.found) ∙ found_asks known uid,
    )

-- and if none is found, no user has the uid
pub none_ready : (known : Known) (user_places group_places : List (ℕ × ℕ)) (requesters : List Identity) → IsDirectory known user_places group_places requesters
    → (uid : ℕ) → None ≡ option_map (λ entry. entry.1) (find (λ entry. entry.0 == uid) user_places)
    → option_map (λ _. requester_of known uid) (user_with known uid) ≡ None
none_ready known user_places group_places requesters is uid none =
    ap (option_map (λ _. requester_of known uid)) (none_found (λ user. user.uid) known.users user_places is.user_places_are uid none)
