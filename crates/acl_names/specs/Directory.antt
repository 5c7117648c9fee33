-- Users and groups, how they are looked up, and which lists make a directory.
use Rattle.std.specs.Prelude.{◌≡◌, ℕ, Bool, true, ◌==◌, ◌||◌, not, nat_lt, nat_eq, List, [], ◌∷◌}
use Rattle.std.specs.Prelude.{length, Option, Some, None, is_none, map, option_map, if◌then◌else◌}
use Rattle.std.specs.Prelude.{bytes_eq}
use Rattle.std.specs.List.{find, filter_map, list_any}
use Rattle.std.specs.Option.{option_and_then, option_map_or}
use Rattle.std.specs.Cmp.Lexicographic.{slice_cmp}
use Rattle.std.specs.Ordering.{nat_cmp}
use Rattle.acl_names.specs.Ascending.{repeats, IsAscending}
use Rattle.acl_names.specs.Named.{IsIndexOf}
use Rattle.acl_names.specs.Ids.{ReadBack, has_name_shape, has_domain_shape}
use Rattle.acl_names.specs.Requester.{Identity}
use Rattle.acl_names.specs.declared.directory.fault.SetupFault.{SetupFault}
use Rattle.acl_names.specs.declared.directory.fault.SetupFault.TheVariants.{BadName, RepeatedName}
use Rattle.acl_names.specs.declared.directory.fault.SetupFault.TheVariants.{RepeatedId}
use Rattle.acl_names.specs.declared.directory.fault.SetupFault.TheVariants.{UnknownGroup}
use Rattle.acl_names.specs.declared.directory.fault.SetupFault.TheVariants.{TooMany, Memory}
use Rattle.acl_names.specs.declared.limits.TheConstants.{MAX_USERS, MAX_GROUPS, MAX_GROUPS_OF_USER}

-- a user, with the names of the groups that the user is in, the first group first
pub record KnownUser : Type 0 where
  pub name : List ℕ
  pub uid : ℕ
  pub groups : List (List ℕ)

pub record KnownGroup : Type 0 where
  pub name : List ℕ
  pub gid : ℕ

-- the content of a directory
pub record Known : Type 0 where
  pub domain : List ℕ
  pub users : List KnownUser
  pub groups : List KnownGroup

-- the user and the group with this name, and with this id
abbrev pub user_named : Known → List ℕ → Option KnownUser
user_named known name = find (λ user. bytes_eq user.name name) known.users

abbrev pub group_named : Known → List ℕ → Option KnownGroup
group_named known name = find (λ group. bytes_eq group.name name) known.groups

abbrev pub user_with : Known → ℕ → Option KnownUser
user_with known uid = find (λ user. user.uid == uid) known.users

abbrev pub group_with : Known → ℕ → Option KnownGroup
group_with known gid = find (λ group. group.gid == gid) known.groups

-- the ids of names, and the names of ids
abbrev pub uid_of : Known → List ℕ → Option ℕ
uid_of known name = option_map (λ user. user.uid) (user_named known name)

abbrev pub gid_of : Known → List ℕ → Option ℕ
gid_of known name = option_map (λ group. group.gid) (group_named known name)

abbrev pub user_name : Known → ℕ → Option (List ℕ)
user_name known uid = option_map (λ user. user.name) (user_with known uid)

abbrev pub group_name : Known → ℕ → Option (List ℕ)
group_name known gid = option_map (λ group. group.name) (group_with known gid)

-- the names of the groups that a user is in; a uid that no user has is in none
abbrev pub groups_of : Known → ℕ → List (List ℕ)
groups_of known uid = option_map_or (λ user. user.groups) (user_with known uid) []

abbrev pub first_of : {A : Type 0} → List A → Option A
first_of [] = None
first_of (first ∷ more) = Some first

-- the gid of a user's first group
abbrev pub first_group : Known → ℕ → Option ℕ
first_group known uid = option_and_then (gid_of known) (first_of (groups_of known uid))

-- a user as a requester: with the gids of the groups
abbrev pub as_requester : Known → KnownUser → Identity
as_requester known user = record { uid = user.uid; gids = filter_map (gid_of known) user.groups }

-- the user with this uid as a requester
abbrev pub requester_of : Known → ℕ → Identity
requester_of known uid = record {
  uid = uid;
  gids = filter_map (gid_of known) (groups_of known uid);
}

-- What is wrong with the lists, in the order in which it is reported.

abbrev pub is_too_many : Known → Bool
is_too_many known = nat_lt MAX_USERS (length known.users) || nat_lt MAX_GROUPS (length known.groups)
    || list_any (λ user. nat_lt MAX_GROUPS_OF_USER (length user.groups)) known.users

abbrev pub has_bad_name : Known → Bool
has_bad_name known = not (has_domain_shape known.domain)
    || list_any (λ user. not (has_name_shape user.name)) known.users
    || list_any (λ group. not (has_name_shape group.name)) known.groups

-- two users or two groups have the same name, or a user's groups have one twice
abbrev pub repeats_name : Known → Bool
repeats_name known = repeats bytes_eq (λ user. user.name) known.users
    || repeats bytes_eq (λ group. group.name) known.groups
    || list_any (λ user. repeats bytes_eq (λ name. name) user.groups) known.users

abbrev pub repeats_id : Known → Bool
repeats_id known = repeats nat_eq (λ user. user.uid) known.users
    || repeats nat_eq (λ group. group.gid) known.groups

-- a user is in a group that isn't listed
abbrev pub has_unknown_group : Known → Bool
has_unknown_group known = list_any (λ user. list_any (λ name. is_none (group_named known name))
    user.groups) known.users

-- the first thing that is wrong
abbrev pub fault_of : Known → Option SetupFault
fault_of known =
    if is_too_many known then Some TooMany
    else (if has_bad_name known then Some BadName
    else (if repeats_name known then Some RepeatedName
    else (if repeats_id known then Some RepeatedId
    else (if has_unknown_group known then Some UnknownGroup else None))))

-- the lists are refused for the first thing that is wrong with them, and as out of memory only if
-- nothing is
abbrev pub IsRefusedFor : Known → SetupFault → Type 0
IsRefusedFor known Memory = fault_of known ≡ None
IsRefusedFor known fault = fault_of known ≡ Some fault

-- Each name that is printed for an id reads as that id, and the domain of these names has its
-- shape.
pub record NamesReadBack (known : Known) : Type 0 where
  pub domain : has_domain_shape known.domain ≡ true
  pub users : ReadBack (uid_of known) (user_name known)
  pub groups : ReadBack (gid_of known) (group_name known)

-- Each look-up gives the same for both.
pub record AnswersAs (known parts : Known) : Type 0 where
  pub domain : known.domain ≡ parts.domain
  pub uids : (name : List ℕ) → uid_of known name ≡ uid_of parts name
  pub gids : (name : List ℕ) → gid_of known name ≡ gid_of parts name
  pub user_names : (uid : ℕ) → user_name known uid ≡ user_name parts uid
  pub group_names : (gid : ℕ) → group_name known gid ≡ group_name parts gid
  pub first_groups : (uid : ℕ) → first_group known uid ≡ first_group parts uid
  pub requesters : (uid : ℕ) → requester_of known uid ≡ requester_of parts uid

-- what holds for every directory: it has no fault, its members ascend by their names, their places
-- are found by their ids, and each user is kept as a requester
pub record IsDirectory (known : Known) (user_places group_places : List (ℕ × ℕ))
    (requesters : List Identity) : Type 0 where
  pub faultless : fault_of known ≡ None
  pub users : IsAscending (slice_cmp nat_cmp) (λ user. user.name) known.users
  pub groups : IsAscending (slice_cmp nat_cmp) (λ group. group.name) known.groups
  pub user_places_are : IsIndexOf (λ user. user.uid) known.users user_places
  pub group_places_are : IsIndexOf (λ group. group.gid) known.groups group_places
  pub requesters_are : requesters ≡ map (as_requester known) known.users
