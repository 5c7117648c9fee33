-- The users and groups of a directory, as an accounts file has them.
use Rattle.std.specs.Prelude.{◌≡◌, ◌≤◌, ℕ, ◌+◌, Bool, List, [], ◌∷◌, ◌++◌, All, bytes_eq, filter}
use Rattle.std.specs.Prelude.{if◌then◌else◌, length, map, unwrap_or}
use Rattle.std.specs.List.{flat_map, list_any}
use Rattle.acl_names.specs.Bytes.{comma}
use Rattle.acl_names.specs.Directory.{Known, KnownGroup, KnownUser, first_group}
use Rattle.acl_names.specs.declared.limits.TheConstants.{MAX_ID, NOBODY}
use Rattle.acl_accounts.specs.Rows.{GroupRow, Rows, UserRow}
use Rattle.acl_accounts.specs.Text.{group_line, line_with, user_line}

-- a user, with the gid of the first group; one who is in none has nobody's
abbrev pub user_row : Known → KnownUser → UserRow
user_row known user = record {
  name = user.name;
  uid = user.uid;
  gid = unwrap_or (first_group known user.uid) NOBODY;
}

abbrev pub is_member : List ℕ → KnownUser → Bool
is_member group user = list_any (λ name. bytes_eq name group) user.groups

-- the names of who is in the group of this name
abbrev pub members_in : List ℕ → List KnownUser → List (List ℕ)
members_in group users = map (λ user. user.name) (filter (is_member group) users)

abbrev pub group_row : List KnownUser → ℕ → KnownGroup → GroupRow
group_row users number group = record {
  name = group.name;
  gid = group.gid;
  members = members_in group.name users;
  line = number;
}

-- the groups, in lines that begin with this number
abbrev pub group_rows : List KnownUser → ℕ → List KnownGroup → List GroupRow
group_rows users number [] = []
group_rows users number (group ∷ groups) =
    group_row users number group ∷ group_rows users (number + 1) groups

abbrev pub rows_of_known : Known → Rows
rows_of_known known = record {
  users = map (user_row known) known.users;
  groups = group_rows known.users (length known.users + 1) known.groups;
}

-- the line of a user, and that of a group
abbrev pub user_text : Known → KnownUser → List ℕ
user_text known user = line_with user_line (user_row known user)

abbrev pub group_text : List KnownUser → KnownGroup → List ℕ
group_text users group = line_with group_line (group_row users 0 group)

-- a member more, behind a comma unless it is the first
abbrev pub behind_comma : Bool → List ℕ → List ℕ
behind_comma first name = if first then name else comma ∷ name

pub record HasIds (known : Known) (user : KnownUser) : Type 0 where
  pub uid : user.uid ≤ MAX_ID
  pub gid : unwrap_or (first_group known user.uid) NOBODY ≤ MAX_ID

abbrev pub HasGid : KnownGroup → Type 0
HasGid group = group.gid ≤ MAX_ID

-- a text grew by what is said of each of these, of each of which something holds
pub record Adds {A : Type 0} (text_of : A → List ℕ) (Has : A → Type 0) (items : List A)
    (old new : List ℕ) : Type 0 where
  pub text : new ≡ old ++ flat_map text_of items
  pub have : All Has items
