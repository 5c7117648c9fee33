-- Where lists of users and groups are wrong, so that they are no directory.
use Rattle.std.specs.Prelude.{ℕ, ◌+◌, ◌==◌, Bool, not, nat_lt, List, [], ◌∷◌, ◌++◌, Option, Some}
use Rattle.std.specs.Prelude.{None, bytes_eq, length, option_map, position}
use Rattle.std.specs.Prelude.{if◌then◌else◌}
use Rattle.std.specs.List.{list_any, position_from}
use Rattle.acl_names.specs.Directory.{KnownGroup, KnownUser}
use Rattle.acl_names.specs.Ids.{has_domain_shape, has_name_shape}
use Rattle.acl_names.specs.declared.directory.fault.SetupFault.{SetupFault}
use Rattle.acl_names.specs.declared.directory.fault.SetupFault.TheVariants.{BadName, RepeatedName}
use Rattle.acl_names.specs.declared.directory.fault.SetupFault.TheVariants.{RepeatedId}
use Rattle.acl_names.specs.declared.directory.fault.SetupFault.TheVariants.{UnknownGroup}
use Rattle.acl_names.specs.declared.directory.fault.SetupFault.TheVariants.{TooMany, Memory}
use Rattle.acl_names.specs.declared.limits.TheConstants.{MAX_USERS, MAX_GROUPS, MAX_GROUPS_OF_USER}
use Rattle.acl_setup.specs.declared.key.Key.{Key}
use Rattle.acl_setup.specs.declared.key.Key.TheVariants as at

-- the index of the first that is as one before it is, of those after these
abbrev pub repeated_from : {A : Type 0} → (A → A → Bool) → List A → ℕ → List A → Option ℕ
repeated_from same before index [] = None
repeated_from same before index (value ∷ more) =
    if list_any (same value) before then Some index
    else repeated_from same (before ++ value ∷ []) (index + 1) more

-- of a list
abbrev pub repeated_in : {A : Type 0} → (A → A → Bool) → List A → Option ℕ
repeated_in same values = repeated_from same [] 0 values

-- users, and groups, of one name, and of one id
abbrev pub users_share_name : KnownUser → KnownUser → Bool
users_share_name user other = bytes_eq user.name other.name

abbrev pub users_share_id : KnownUser → KnownUser → Bool
users_share_id user other = user.uid == other.uid

abbrev pub groups_share_name : KnownGroup → KnownGroup → Bool
groups_share_name group other = bytes_eq group.name other.name

abbrev pub groups_share_id : KnownGroup → KnownGroup → Bool
groups_share_id group other = group.gid == other.gid

-- the first of two
abbrev pub or_key : Option Key → Option Key → Option Key
or_key (Some key) other = Some key
or_key None other = other

-- the first group of a user that is found so, of users of whom the first has this index
abbrev pub key_of_groups : (List (List ℕ) → Option ℕ) → ℕ → List KnownUser → Option Key
key_of_groups find index [] = None
key_of_groups find index (user ∷ users) =
    or_key (option_map (at.UserGroup index) (find user.groups))
    (key_of_groups find (index + 1) users)

abbrev pub is_in_too_many : KnownUser → Bool
is_in_too_many user = nat_lt MAX_GROUPS_OF_USER (length user.groups)

-- a list has too many, or a user is in too many groups
abbrev pub key_of_too_many : List KnownUser → List KnownGroup → Option Key
key_of_too_many users groups =
    if nat_lt MAX_USERS (length users) then Some at.Users
    else (if nat_lt MAX_GROUPS (length groups) then Some at.Groups
    else option_map at.UserGroups (position is_in_too_many users))

abbrev pub is_misnamed_user : KnownUser → Bool
is_misnamed_user user = not (has_name_shape user.name)

abbrev pub is_misnamed_group : KnownGroup → Bool
is_misnamed_group group = not (has_name_shape group.name)

-- the domain, or the first user or group, is malformed
abbrev pub key_of_bad_name : List ℕ → List KnownUser → List KnownGroup → Option Key
key_of_bad_name domain users groups =
    if not (has_domain_shape domain) then Some at.Domain
    else or_key (option_map at.UserName (position is_misnamed_user users))
    (option_map at.GroupName (position is_misnamed_group groups))

-- the first user or group has the name of one before it, or of a user a group stands there twice
abbrev pub key_of_repeated_name : List KnownUser → List KnownGroup → Option Key
key_of_repeated_name users groups =
    or_key (option_map at.UserName (repeated_in users_share_name users))
    (or_key (option_map at.GroupName (repeated_in groups_share_name groups))
    (key_of_groups (repeated_in bytes_eq) 0 users))

-- the first user or group has the id of one before it
abbrev pub key_of_repeated_id : List KnownUser → List KnownGroup → Option Key
key_of_repeated_id users groups =
    or_key (option_map at.UserUid (repeated_in users_share_id users))
    (option_map at.GroupGid (repeated_in groups_share_id groups))

-- one of the groups has the name
abbrev pub has_name : List KnownGroup → List ℕ → Bool
has_name groups name = list_any (λ group. bytes_eq group.name name) groups

-- the index of the first of these names that none of the groups has
abbrev pub unknown_in : List KnownGroup → List (List ℕ) → Option ℕ
unknown_in groups names = position_from (λ name. not (has_name groups name)) 0 names

-- a user is in a group that there isn't
abbrev pub key_of_unknown_group : List KnownUser → List KnownGroup → Option Key
key_of_unknown_group users groups = key_of_groups (unknown_in groups) 0 users

-- what has the fault in a domain, users and groups that are no directory for it
abbrev pub key_of_parts : List ℕ → List KnownUser → List KnownGroup → SetupFault → Option Key
key_of_parts domain users groups TooMany = key_of_too_many users groups
key_of_parts domain users groups BadName = key_of_bad_name domain users groups
key_of_parts domain users groups RepeatedName = key_of_repeated_name users groups
key_of_parts domain users groups RepeatedId = key_of_repeated_id users groups
key_of_parts domain users groups UnknownGroup = key_of_unknown_group users groups
key_of_parts domain users groups Memory = None
