-- The users and groups of a host.
use Rattle.std.specs.Prelude.{◌≡◌, ℕ, Bool, ◌==◌, nat_lt, List, [], ◌∷◌, length, Option}
use Rattle.std.specs.Prelude.{option_map, ◌++◌, fold, map, filter, Result, Err, if◌then◌else◌}
use Rattle.std.specs.Prelude.{bytes_eq, is_some}
use Rattle.std.specs.List.{find, flat_map, list_any, position}
use Rattle.std.specs.Cmp.Lexicographic.{slice_cmp}
use Rattle.std.specs.Ordering.{nat_cmp}
use Rattle.acl_names.specs.Ascending.{IsAscending}
use Rattle.acl_names.specs.Ids.{Written, Number, Name}
use Rattle.acl_names.specs.Names.{Names}
use Rattle.acl_names.specs.Requester.{Identity}
use Rattle.acl_accounts.specs.Names.{written_account}
use Rattle.acl_accounts.specs.Rows.{Rows, UserRow, GroupRow, rows_of}
use Rattle.acl_accounts.specs.declared.fault.AccountsFault.{AccountsFault}
use Rattle.acl_accounts.specs.declared.fault.AccountsFault.TheVariants.{TooMany}
use Rattle.acl_accounts.specs.declared.limits.TheConstants.{MAX_ACCOUNTS_TEXT}

-- a user, with the gid of the user's primary group
pub record KnownAccount : Type 0 where
  pub name : List ℕ
  pub uid : ℕ
  pub gid : ℕ

pub record KnownAccountGroup : Type 0 where
  pub name : List ℕ
  pub gid : ℕ

-- the users and groups of a host; each user has a place, also among the requesters
pub record KnownAccounts : Type 0 where
  pub users : List KnownAccount
  pub groups : List KnownAccountGroup
  pub requesters : List Identity

-- each id once, at its first place
abbrev pub with_once : List ℕ → ℕ → List ℕ
with_once ids id = if list_any (λ other. other == id) ids then ids else ids ++ id ∷ []

abbrev pub each_once : List ℕ → List ℕ
each_once ids = fold with_once [] ids

-- one member of one group
pub record Membership : Type 0 where
  pub name : List ℕ
  pub gid : ℕ

abbrev pub membership : ℕ → List ℕ → Membership
membership gid name = record { name = name; gid = gid }

-- the memberships in a group, and in groups
abbrev pub memberships_in : GroupRow → List Membership
memberships_in group = map (membership group.gid) group.members

abbrev pub memberships_of : List GroupRow → List Membership
memberships_of groups = flat_map memberships_in groups

-- the gids of the groups of which a name is a member
abbrev pub gids_with : List ℕ → List Membership → List ℕ
gids_with name memberships =
    map (λ member. member.gid) (filter (λ member. bytes_eq member.name name) memberships)

-- a user as a requester: in the primary group, then in the order of the file in each that lists the
-- user as a member, in each once
abbrev pub requester_with : List Membership → KnownAccount → Identity
requester_with memberships user = record {
  uid = user.uid;
  gids = each_once (user.gid ∷ gids_with user.name memberships);
}

abbrev pub requester_of : List GroupRow → KnownAccount → Identity
requester_of groups user = requester_with (memberships_of groups) user

abbrev pub account_of : UserRow → KnownAccount
account_of user = record { name = user.name; uid = user.uid; gid = user.gid }

abbrev pub group_of : GroupRow → KnownAccountGroup
group_of group = record { name = group.name; gid = group.gid }

-- the user and the group with a name
abbrev pub account_named : KnownAccounts → List ℕ → Option KnownAccount
account_named accounts name = find (λ user. bytes_eq user.name name) accounts.users

abbrev pub group_named : KnownAccounts → List ℕ → Option KnownAccountGroup
group_named accounts name = find (λ group. bytes_eq group.name name) accounts.groups

abbrev pub is_user_in : KnownAccounts → List ℕ → Bool
is_user_in accounts name = is_some (account_named accounts name)

-- the ids of names
abbrev pub uid_of : KnownAccounts → List ℕ → Option ℕ
uid_of accounts name = option_map (λ user. user.uid) (account_named accounts name)

abbrev pub gid_of : KnownAccounts → List ℕ → Option ℕ
gid_of accounts name = option_map (λ group. group.gid) (group_named accounts name)

-- how getfacl writes them, and which ones it means
abbrev pub names_of : KnownAccounts → Names
names_of accounts =
    record { written = written_account; uid = uid_of accounts; gid = gid_of accounts }

-- the names of ids: of those with the same id, the first by name
abbrev pub user_name : KnownAccounts → ℕ → Option (List ℕ)
user_name accounts uid =
    option_map (λ user. user.name) (find (λ user. user.uid == uid) accounts.users)

abbrev pub group_name : KnownAccounts → ℕ → Option (List ℕ)
group_name accounts gid =
    option_map (λ group. group.name) (find (λ group. group.gid == gid) accounts.groups)

-- the place of the user with the written name, or of the first user with the written id
abbrev pub place_of_written : KnownAccounts → Written → Option ℕ
place_of_written accounts (Number uid) = position (λ user. user.uid == uid) accounts.users
place_of_written accounts (Name name) = position (λ user. bytes_eq user.name name) accounts.users

-- the users and the groups ascend by their names, each name once, and the requesters are the users
pub record AreInOrder (accounts : KnownAccounts) : Type 0 where
  pub users : IsAscending (slice_cmp nat_cmp) (λ user. user.name) accounts.users
  pub groups : IsAscending (slice_cmp nat_cmp) (λ group. group.name) accounts.groups
  pub uids : map (λ requester. requester.uid) accounts.requesters
      ≡ map (λ user. user.uid) accounts.users

-- accounts whose members are found by their ids in these maps
pub record AreIndexed (accounts : KnownAccounts) (user_places group_places : ℕ → Option ℕ) : Type 0
  where
    pub ordered : AreInOrder accounts
    pub users : (uid : ℕ) → user_places uid ≡ position (λ user. user.uid == uid) accounts.users
    pub groups : (gid : ℕ) → group_places gid ≡ position (λ group. group.gid == gid) accounts.groups

-- the accounts of rows: in order, each name is that of its first row, and each user is a requester
-- with the groups of all rows
pub record AreOf (rows : Rows) (accounts : KnownAccounts) : Type 0 where
  pub ordered : AreInOrder accounts
  pub users : (name : List ℕ) → account_named accounts name
      ≡ option_map account_of (find (λ row. bytes_eq row.name name) rows.users)
  pub groups : (name : List ℕ) → group_named accounts name
      ≡ option_map group_of (find (λ row. bytes_eq row.name name) rows.groups)
  pub requesters : accounts.requesters ≡ map (requester_of rows.groups) accounts.users

-- the rows of a text that is not too long
abbrev pub rows_within : List ℕ → Result Rows AccountsFault
rows_within text = if nat_lt MAX_ACCOUNTS_TEXT (length text) then Err TooMany else rows_of text
