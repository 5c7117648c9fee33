-- Accounts as `getent passwd; getent group` prints them, and that they are read again.
use Rattle.std.specs.Prelude.{◌≡◌, ◌≤◌, ℕ, ◌+◌, true, List, [], ◌∷◌, ◌++◌, All, codes, decimal}
use Rattle.std.specs.Prelude.{length, Ok}
use Rattle.std.specs.List.{flat_map, join_with_byte}
use Rattle.acl_names.specs.Bytes.{colon, comma, newline}
use Rattle.acl_names.specs.Ids.{has_name_shape}
use Rattle.acl_names.specs.declared.limits.TheConstants.{MAX_ID}
use Rattle.acl_accounts.specs.Rows.{GroupRow, Rows, UserRow, rows_of}
use Rattle.acl_accounts.specs.declared.limits.TheConstants.{MAX_ACCOUNT_GROUPS, MAX_ACCOUNT_USERS}

-- `name:x:uid:gid:::`
abbrev pub user_line : UserRow → List ℕ
user_line user = join_with_byte colon
    (user.name ∷ codes "x" ∷ decimal user.uid ∷ decimal user.gid ∷ [] ∷ [] ∷ [] ∷ [])

-- `name:x:gid:member,member`
abbrev pub group_line : GroupRow → List ℕ
group_line group = join_with_byte colon
    (group.name ∷ codes "x" ∷ decimal group.gid ∷ join_with_byte comma group.members ∷ [])

abbrev pub line_with : {A : Type 0} → (A → List ℕ) → A → List ℕ
line_with line row = line row ++ newline ∷ []

-- the users, and then the groups
abbrev pub rows_text : Rows → List ℕ
rows_text rows =
    flat_map (line_with user_line) rows.users ++ flat_map (line_with group_line) rows.groups

abbrev pub IsShaped : List ℕ → Type 0
IsShaped name = has_name_shape name ≡ true

pub record IsPlainUser (user : UserRow) : Type 0 where
  pub name : IsShaped user.name
  pub uid : user.uid ≤ MAX_ID
  pub gid : user.gid ≤ MAX_ID

pub record IsPlainGroup (group : GroupRow) : Type 0 where
  pub name : IsShaped group.name
  pub gid : group.gid ≤ MAX_ID
  pub members : All IsShaped group.members

-- the lines of the groups have these numbers, one after the other
abbrev pub AreNumbered : ℕ → List GroupRow → Type 0
AreNumbered number [] = Unit {0}
AreNumbered number (group ∷ groups) = (group.line ≡ number) × AreNumbered (number + 1) groups

-- rows of names of letters, digits, `.`, `_` and `-`, as a text of so many lines has them
pub record ArePlain (rows : Rows) : Type 0 where
  pub users : All IsPlainUser rows.users
  pub groups : All IsPlainGroup rows.groups
  pub lines : AreNumbered (length rows.users + 1) rows.groups
  pub few_users : length rows.users ≤ MAX_ACCOUNT_USERS
  pub few_groups : length rows.groups ≤ MAX_ACCOUNT_GROUPS

-- such rows, once printed, are read as themselves
abbrev pub RowsAreReadAgain : Type 0
RowsAreReadAgain = (rows : Rows) → ArePlain rows → rows_of (rows_text rows) ≡ Ok rows
