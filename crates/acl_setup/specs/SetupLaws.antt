-- The laws of what is reported for a setup that is refused: the first key that has the fault.
use Rattle.std.specs.Prelude.{◌≡◌, ℕ, ◌+◌, Bool, false, is_none, nat_lt, not, List, [], ◌∷◌, ◌++◌}
use Rattle.std.specs.Prelude.{Option, Some, None, IsSome, Result, Ok, Err, bytes_eq, codes, length}
use Rattle.std.specs.Prelude.{slice_get, take}
use Rattle.std.specs.List.{find, list_any}
use Rattle.toml.specs.Data.{Data, Items, Members, as_array, as_table, get_item, get_member, item}
use Rattle.toml.specs.Data.{no_items}
use Rattle.acl_names.specs.Directory.{Known, KnownUser, fault_of}
use Rattle.acl_names.specs.Ids.{has_domain_shape}
use Rattle.acl_names.specs.declared.directory.fault.SetupFault.{SetupFault}
use Rattle.acl_names.specs.declared.directory.fault.SetupFault.TheVariants as parts
use Rattle.acl_names.specs.declared.limits.TheConstants.{MAX_GROUPS, MAX_USERS}
use Rattle.acl_setup.specs.PartsKeys.{groups_share_id, groups_share_name, has_name, is_in_too_many}
use Rattle.acl_setup.specs.PartsKeys.{is_misnamed_group, is_misnamed_user, key_of_parts}
use Rattle.acl_setup.specs.PartsKeys.{users_share_id, users_share_name}
use Rattle.acl_setup.specs.Setup.{setup_in}
use Rattle.acl_setup.specs.SetupTable.{◌>>=◌, id_at, mode_at, style_at, table_at, text_at, texts_at}
use Rattle.acl_setup.specs.declared.key.Key.{Key}
use Rattle.acl_setup.specs.declared.key.Key.TheVariants as at

-- What stands at a key, in words of the table alone.

-- the item of this index in the array of this name, and the table that it is
abbrev pub item_in : List ℕ → ℕ → Members → Option Data
item_in name index table = get_member name table >>= as_array >>= get_item index

abbrev pub table_in : List ℕ → ℕ → Members → Option Members
table_in name index table = item_in name index table >>= as_table

-- a value is there, but none of this type
abbrev pub is_other : {A : Type 0} → (Data → Option A) → Option Data → Bool
is_other read None = false
is_other read (Some value) = is_none (read value)

-- a table is there, but what is read of it isn't
abbrev pub lacks : {A : Type 0} → (Members → Option A) → Option Members → Bool
lacks read None = false
lacks read (Some table) = is_none (read table)

-- what has to stand at the key is absent, or of another type, or none of the values that may stand
-- there; what has no table to stand in isn't missed
abbrev pub is_at_fault : Members → Key → Bool
is_at_fault table at.Domain = is_none (text_at (codes "domain") table)
is_at_fault table at.Umask = is_none (mode_at (codes "umask") table)
is_at_fault table at.Root = is_none (table_at (codes "root") table)
is_at_fault table at.RootOwner = lacks (text_at (codes "owner")) (table_at (codes "root") table)
is_at_fault table at.RootGroup = lacks (text_at (codes "group")) (table_at (codes "root") table)
is_at_fault table at.RootMode = lacks (mode_at (codes "mode")) (table_at (codes "root") table)
is_at_fault table at.RootStyle = lacks (style_at (codes "style")) (table_at (codes "root") table)
is_at_fault table at.Users = is_other as_array (get_member (codes "user") table)
is_at_fault table (at.User index) = is_other as_table (item_in (codes "user") index table)
is_at_fault table (at.UserName index) =
    lacks (text_at (codes "name")) (table_in (codes "user") index table)
is_at_fault table (at.UserUid index) =
    lacks (id_at (codes "uid")) (table_in (codes "user") index table)
is_at_fault table (at.UserGroups index) =
    lacks (texts_at (codes "groups")) (table_in (codes "user") index table)
is_at_fault table (at.UserGroup index group) = false
is_at_fault table at.Groups = is_other as_array (get_member (codes "group") table)
is_at_fault table (at.Group index) = is_other as_table (item_in (codes "group") index table)
is_at_fault table (at.GroupName index) =
    lacks (text_at (codes "name")) (table_in (codes "group") index table)
is_at_fault table (at.GroupGid index) =
    lacks (id_at (codes "gid")) (table_in (codes "group") index table)

-- The keys of a table, in the order in which they are reported.

abbrev pub user_keys : ℕ → List Key
user_keys index =
    at.User index ∷ at.UserName index ∷ at.UserUid index ∷ at.UserGroups index ∷ []

abbrev pub group_keys : ℕ → List Key
group_keys index = at.Group index ∷ at.GroupName index ∷ at.GroupGid index ∷ []

-- of each item of an array, of which the first has this index
abbrev pub item_keys : (ℕ → List Key) → ℕ → Items → List Key
item_keys keys index no_items = []
item_keys keys index (item first more) = keys index ++ item_keys keys (index + 1) more

-- of the array of this name, if there is one
abbrev pub array_keys : (ℕ → List Key) → Option Items → List Key
array_keys keys None = []
array_keys keys (Some items) = item_keys keys 0 items

abbrev pub items_in : List ℕ → Members → Option Items
items_in name table = get_member name table >>= as_array

abbrev pub setup_keys : Members → List Key
setup_keys table = at.Domain ∷ at.Umask ∷ at.Root ∷ at.RootOwner ∷ at.RootGroup ∷ at.RootMode
    ∷ at.RootStyle ∷ at.Users ∷ (array_keys user_keys (items_in (codes "user") table)
    ++ at.Groups ∷ array_keys group_keys (items_in (codes "group") table))

abbrev pub key_reported : {A : Type 0} → Result A Key → Option Key
key_reported (Ok value) = None
key_reported (Err key) = Some key

-- Of a table the first of its keys is reported that is at fault, and none if none is.
abbrev pub ReportsTheKey : Type 0
ReportsTheKey = (table : Members)
    → key_reported (setup_in table) ≡ find (is_at_fault table) (setup_keys table)

-- What has a fault of users and groups, in words of these alone.

abbrev pub is_so : {A : Type 0} → (A → Bool) → Option A → Bool
is_so test None = false
is_so test (Some value) = test value

-- the value of this index is as one before it
abbrev pub is_repeated : {A : Type 0} → (A → A → Bool) → List A → ℕ → Bool
is_repeated same values index =
    is_so (λ value. list_any (same value) (take index values)) (slice_get values index)

-- the list of too many, the user in too many groups, the malformed name, the later of two that are
-- alike, or the name of no group
abbrev pub has_fault : Known → SetupFault → Key → Bool
has_fault known parts.TooMany at.Users = nat_lt MAX_USERS (length known.users)
has_fault known parts.TooMany at.Groups = nat_lt MAX_GROUPS (length known.groups)
has_fault known parts.TooMany (at.UserGroups index) =
    is_so is_in_too_many (slice_get known.users index)
has_fault known parts.BadName at.Domain = not (has_domain_shape known.domain)
has_fault known parts.BadName (at.UserName index) =
    is_so is_misnamed_user (slice_get known.users index)
has_fault known parts.BadName (at.GroupName index) =
    is_so is_misnamed_group (slice_get known.groups index)
has_fault known parts.RepeatedName (at.UserName index) =
    is_repeated users_share_name known.users index
has_fault known parts.RepeatedName (at.GroupName index) =
    is_repeated groups_share_name known.groups index
has_fault known parts.RepeatedName (at.UserGroup index group) =
    is_so (λ user. is_repeated bytes_eq user.groups group) (slice_get known.users index)
has_fault known parts.RepeatedId (at.UserUid index) =
    is_repeated users_share_id known.users index
has_fault known parts.RepeatedId (at.GroupGid index) =
    is_repeated groups_share_id known.groups index
has_fault known parts.UnknownGroup (at.UserGroup index group) =
    is_so (λ user. is_so (λ name. not (has_name known.groups name)) (slice_get user.groups group))
    (slice_get known.users index)
has_fault known fault key = false

-- The keys that may have the fault, in the order in which they are reported.

-- one of each value, of which the first has this index
abbrev pub value_keys : {A : Type 0} → (ℕ → Key) → ℕ → List A → List Key
value_keys key index [] = []
value_keys key index (value ∷ values) = key index ∷ value_keys key (index + 1) values

-- the groups of each user
abbrev pub member_keys : ℕ → List KnownUser → List Key
member_keys index [] = []
member_keys index (user ∷ users) =
    value_keys (at.UserGroup index) 0 user.groups ++ member_keys (index + 1) users

abbrev pub parts_keys : Known → SetupFault → List Key
parts_keys known parts.TooMany =
    at.Users ∷ at.Groups ∷ value_keys at.UserGroups 0 known.users
parts_keys known parts.BadName = at.Domain
    ∷ (value_keys at.UserName 0 known.users ++ value_keys at.GroupName 0 known.groups)
parts_keys known parts.RepeatedName = value_keys at.UserName 0 known.users
    ++ (value_keys at.GroupName 0 known.groups ++ member_keys 0 known.users)
parts_keys known parts.RepeatedId =
    value_keys at.UserUid 0 known.users ++ value_keys at.GroupGid 0 known.groups
parts_keys known parts.UnknownGroup = member_keys 0 known.users
parts_keys known parts.Memory = []

-- Of users and groups that are no directory the first of these keys is reported that has the fault,
-- and there is one.
pub record ReportsThePart : Type 0 where
  pub first : (known : Known) (fault : SetupFault)
      → key_of_parts known.domain known.users known.groups fault
      ≡ find (has_fault known fault) (parts_keys known fault)
  pub some : (known : Known) (fault : SetupFault) → fault_of known ≡ Some fault
      → IsSome (key_of_parts known.domain known.users known.groups fault)
