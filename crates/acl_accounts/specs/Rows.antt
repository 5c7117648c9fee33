-- The lines of an accounts file: those of passwd and of group.
use Rattle.std.specs.Prelude.{ℕ, ◌+◌, Bool, true, false, ◌==◌, ◌&&◌, ◌||◌, not, nat_lt, List}
use Rattle.std.specs.Prelude.{[], ◌∷◌, ◌++◌, map, filter, length, Option, Some, None, is_some}
use Rattle.std.specs.Prelude.{Result, Ok, Err, bytes_eq, if◌then◌else◌}
use Rattle.std.specs.Char.{is_ascii_digit}
use Rattle.std.specs.List.{find, list_all, list_any}
use Rattle.std.specs.Option.{option_map_or}
use Rattle.acl_names.specs.Bytes.{newline, hash, hyphen, colon, comma}
use Rattle.acl_names.specs.Ids.{decimal_value}
use Rattle.acl_names.specs.Pieces.{parts}
use Rattle.acl_names.specs.Steps.{◌>>=◌}
use Rattle.acl_accounts.specs.Names.{is_account_name}
use Rattle.acl_accounts.specs.Space.{is_space, skip_space}
use Rattle.acl_accounts.specs.declared.fault.AccountsFault.{AccountsFault}
use Rattle.acl_accounts.specs.declared.fault.AccountsFault.TheVariants.{BadAccount, TooMany}
use Rattle.acl_accounts.specs.declared.limits.TheConstants.{MAX_ACCOUNT_USERS, MAX_ACCOUNT_GROUPS}

-- a line of passwd: a user, and the user's primary group
pub record UserRow : Type 0 where
  pub name : List ℕ
  pub uid : ℕ
  pub gid : ℕ

-- a line of group: a group, the names of its members, and the number of the line
pub record GroupRow : Type 0 where
  pub name : List ℕ
  pub gid : ℕ
  pub members : List (List ℕ)
  pub line : ℕ

pub data Row : Type 0 where
  IsUser : UserRow → Row
  IsGroup : GroupRow → Row
  IsPassed : Row

-- `+`
abbrev pub plus : ℕ
plus = 43

-- a decimal after white space
abbrev pub number_of : List ℕ → Option ℕ
number_of field = decimal_value (skip_space field)

-- the names between commas, without the white space before each; an empty one is none
abbrev pub members_of_parts : List (List ℕ) → List (List ℕ)
members_of_parts texts = filter (λ name. nat_lt 0 (length name)) (map skip_space texts)

abbrev pub members_of : List ℕ → List (List ℕ)
members_of field = members_of_parts (parts comma field)

abbrev pub user_row : List ℕ → Option ℕ → Option ℕ → Option Row
user_row name (Some uid) (Some gid) =
    if is_account_name name then Some (IsUser (record { name = name; uid = uid; gid = gid }))
    else None
user_row name _ _ = None

abbrev pub group_row : ℕ → List ℕ → Option ℕ → List (List ℕ) → Option Row
group_row line name (Some gid) members =
    if is_account_name name
    then Some (IsGroup (record { name = name; gid = gid; members = members; line = line }))
    else None
group_row line name None members = None

-- `name:x:uid:gid:gecos:home:shell`, and `name:x:gid:member,member`
unfoldable pub row_of_fields : ℕ → List (List ℕ) → Option Row
row_of_fields line (name ∷ _ ∷ uid ∷ gid ∷ _ ∷ _ ∷ _ ∷ []) =
    user_row name (number_of uid) (number_of gid)
row_of_fields line (name ∷ _ ∷ gid ∷ members ∷ []) =
    group_row line name (number_of gid) (members_of members)
row_of_fields line _ = None

-- `#` before a comment, `+` or `-` before an entry of another source
abbrev pub is_mark : ℕ → Bool
is_mark byte = (byte == hash) || (byte == plus) || (byte == hyphen)

-- digits, signs and white space: the system reads no number from anything else
abbrev pub is_numeric : List ℕ → Bool
is_numeric field = list_all (λ byte. is_ascii_digit byte || (byte == plus) || (byte == hyphen)
    || is_space byte) field

-- white space and commas, and no member
abbrev pub names_nobody : List ℕ → Bool
names_nobody field = list_all (λ byte. is_space byte || (byte == comma)) field

-- the text after a number names members, and isn't the end of a user's line
abbrev pub name_members : List (List ℕ) → Bool
name_members [] = false
name_members (members ∷ []) = not (names_nobody members)
name_members (gid ∷ _ ∷ _ ∷ _ ∷ []) = not (is_numeric gid)
name_members _ = true

-- a line that the system reads despite its mark, at login: as a group with members
unfoldable pub is_read_at_login : List (List ℕ) → Bool
is_read_at_login (_ ∷ _ ∷ number ∷ fields) = is_numeric number && name_members fields
is_read_at_login _ = false

-- a line with a mark is skipped, unless it is read all the same
abbrev pub passed_over : List (List ℕ) → Option Row
passed_over fields = if is_read_at_login fields then None else Some IsPassed

-- what a line without white space in front holds; an empty one is skipped
abbrev pub row_behind_space : ℕ → List ℕ → Option Row
row_behind_space number [] = Some IsPassed
row_behind_space number (byte ∷ bytes) =
    if is_mark byte then passed_over (parts colon (byte ∷ bytes))
    else row_of_fields number (parts colon (byte ∷ bytes))

-- what the line of this number holds, if it isn't malformed: C ends it at a zero byte
abbrev pub row_of : ℕ → List ℕ → Option Row
row_of number line = if list_any (λ byte. byte == 0) line then None
    else row_behind_space number (skip_space line)

-- the users and the groups, in the order of the file
pub record Rows : Type 0 where
  pub users : List UserRow
  pub groups : List GroupRow

abbrev pub no_rows : Rows
no_rows = record { users = []; groups = [] }

-- another row, if it isn't one too many
abbrev pub with_row : Rows → Row → Result Rows AccountsFault
with_row rows (IsUser row) =
    if nat_lt (length rows.users) MAX_ACCOUNT_USERS
    then Ok (record { users = rows.users ++ row ∷ []; groups = rows.groups }) else Err TooMany
with_row rows (IsGroup row) =
    if nat_lt (length rows.groups) MAX_ACCOUNT_GROUPS
    then Ok (record { users = rows.users; groups = rows.groups ++ row ∷ [] }) else Err TooMany
with_row rows IsPassed = Ok rows

-- the row of the line with this number
abbrev pub row_at : ℕ → Option Row → Result Row AccountsFault
row_at number (Some row) = Ok row
row_at number None = Err (BadAccount number)

-- the rows, and those of these lines, the first of which has this number, up to the first line that
-- is malformed or one too many
abbrev pub rows_from : ℕ → Rows → List (List ℕ) → Result Rows AccountsFault
rows_from number rows [] = Ok rows
rows_from number rows (line ∷ lines) = do
  row ← row_at number (row_of number line)
  more ← with_row rows row
  rows_from (number + 1) more lines

-- the rows of a text, whose lines are numbered from 1
abbrev pub rows_of_lines : List ℕ → Result Rows AccountsFault
rows_of_lines text = rows_from 1 no_rows (parts newline text)

-- the only member of a group, if it is a number
abbrev pub number_alone : List (List ℕ) → Option (List ℕ)
number_alone (name ∷ []) = if is_numeric name then Some name else None
number_alone _ = None

-- the rest of a user's line that was cut after its gid: no user has the number for a name
abbrev pub is_cut : (List ℕ → Bool) → GroupRow → Bool
is_cut is_user group =
    option_map_or (λ name. not (is_user name)) (number_alone group.members) false

abbrev pub is_user_of : Rows → List ℕ → Bool
is_user_of rows name = is_some (find (λ user. bytes_eq user.name name) rows.users)

-- the rows, unless this group is a line that was cut
abbrev pub unless_cut : Rows → Option GroupRow → Result Rows AccountsFault
unless_cut rows None = Ok rows
unless_cut rows (Some group) = Err (BadAccount group.line)

-- the rows of a text; a cut line is searched for once all lines are rows
abbrev pub rows_of : List ℕ → Result Rows AccountsFault
rows_of text = do
  rows ← rows_of_lines text
  unless_cut rows (find (is_cut (is_user_of rows)) rows.groups)
