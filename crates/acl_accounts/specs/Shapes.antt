-- What each line means, as a relation: white space, fields between colons, decimals and members.
use Rattle.std.specs.Prelude.{◌≡◌, ◌<◌, ◌⊎◌, ℕ, ◌==◌, ◌||◌, true, false, List, [], ◌∷◌}
use Rattle.std.specs.Prelude.{◌++◌, length, slice_index, All, Some}
use Rattle.std.specs.List.{join_with_byte}
use Rattle.acl_names.specs.Bytes.{colon, comma}
use Rattle.acl_names.specs.Ids.{decimal_value}
use Rattle.acl_accounts.specs.Names.{is_account_name}
use Rattle.acl_accounts.specs.Rows.{Row, UserRow, GroupRow, IsUser, IsGroup, IsPassed, is_mark}
use Rattle.acl_accounts.specs.Rows.{is_read_at_login}
use Rattle.acl_accounts.specs.Space.{is_space}

-- white space, and then this, which begins with none; no white space is 0, which is past an end
pub record StandsBehindSpace (text rest : List ℕ) : Type 0 where
  pub front : List ℕ
  pub text_is : text ≡ front ++ rest
  pub front_is : All (λ byte. is_space byte ≡ true) front
  pub begins : is_space (slice_index rest 0) ≡ false

abbrev pub Lacks : ℕ → List ℕ → Type 0
Lacks byte text = All (λ other. (other == byte) ≡ false) text

-- the texts between the colons
pub record AreFields (line : List ℕ) (fields : List (List ℕ)) : Type 0 where
  pub joined : line ≡ join_with_byte colon fields
  pub apart : All (Lacks colon) fields

-- white space, and then a decimal of this id
abbrev pub WritesNumber : List ℕ → ℕ → Type 0
WritesNumber field id =
    (digits : List ℕ) × StandsBehindSpace field digits × (decimal_value digits ≡ Some id)

-- what separates members: white space and commas
abbrev pub IsGap : List ℕ → Type 0
IsGap text = All (λ byte. (is_space byte || (byte == comma)) ≡ true) text

-- a member: it begins with no white space, and has no comma
pub record IsMember (name : List ℕ) : Type 0 where
  pub filled : 0 < length name
  pub begins : is_space (slice_index name 0) ≡ false
  pub apart : Lacks comma name

abbrev pub EndsMember : List ℕ → Type 0
EndsMember rest = (rest ≡ []) ⊎ (slice_index rest 0 ≡ comma)

-- each member comes after a gap, and goes up to a comma or to the end
abbrev pub NamesMembers : List ℕ → List (List ℕ) → Type 0
NamesMembers field [] = IsGap field
NamesMembers field (name ∷ names) = (gap : List ℕ) × (rest : List ℕ)
    × (field ≡ gap ++ (name ++ rest)) × IsGap gap × IsMember name × EndsMember rest
    × NamesMembers rest names

-- a name of 1 to 255 bytes that doesn't begin like a comment or an entry of another source
pub record IsNamed (name : List ℕ) : Type 0 where
  pub named : is_account_name name ≡ true
  pub unmarked : is_mark (slice_index name 0) ≡ false

-- a line without a zero byte, of these fields after white space
pub record SaysFields (line : List ℕ) (fields : List (List ℕ)) : Type 0 where
  pub rest : List ℕ
  pub whole : Lacks 0 line
  pub behind : StandsBehindSpace line rest
  pub fields_are : AreFields rest fields

-- seven fields are a user
pub record IsUserLine (line : List ℕ) (row : UserRow) : Type 0 where
  pub password : List ℕ
  pub uid : List ℕ
  pub gid : List ℕ
  pub gecos : List ℕ
  pub home : List ℕ
  pub shell : List ℕ
  pub said : SaysFields line
      (row.name ∷ password ∷ uid ∷ gid ∷ gecos ∷ home ∷ shell ∷ [])
  pub named : IsNamed row.name
  pub uid_is : WritesNumber uid row.uid
  pub gid_is : WritesNumber gid row.gid

-- four are a group, which has the number of its line
pub record IsGroupLine (number : ℕ) (line : List ℕ) (row : GroupRow) : Type 0 where
  pub password : List ℕ
  pub gid : List ℕ
  pub members : List ℕ
  pub said : SaysFields line (row.name ∷ password ∷ gid ∷ members ∷ [])
  pub named : IsNamed row.name
  pub gid_is : WritesNumber gid row.gid
  pub members_are : NamesMembers members row.members
  pub line_is : row.line ≡ number

-- a mark, and no fields that are read despite it
pub record IsIdle (rest : List ℕ) : Type 0 where
  pub marked : is_mark (slice_index rest 0) ≡ true
  pub fields : List (List ℕ)
  pub fields_are : AreFields rest fields
  pub unread : is_read_at_login fields ≡ false

-- after white space there is nothing, or a comment, or an entry of another source
pub record IsPassedLine (line : List ℕ) : Type 0 where
  pub rest : List ℕ
  pub whole : Lacks 0 line
  pub behind : StandsBehindSpace line rest
  pub idle : (rest ≡ []) ⊎ IsIdle rest

-- the line of this number has the shape of this row
abbrev pub HasShape : ℕ → List ℕ → Row → Type 0
HasShape number line (IsUser row) = IsUserLine line row
HasShape number line (IsGroup row) = IsGroupLine number line row
HasShape number line IsPassed = IsPassedLine line

-- it has that of none
abbrev pub HasNoShape : ℕ → List ℕ → Type 0
HasNoShape number line = (row : Row) → HasShape number line row → ⊥
