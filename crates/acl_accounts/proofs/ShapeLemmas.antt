-- What a line says is what the shapes say.
use Rattle.std.proofs.Common.{◌≡◌, ◌⊎◌, ◌∙◌, ℕ, Bool, true, false, cond, ◌==◌, List, [], ◌∷◌, Option, Some, None, refl, sym, ap, subst, inl, inr}
use Rattle.std.specs.Prelude.{slice_index}
use Rattle.std.specs.List.{list_any}
use Rattle.std.proofs.lemmas.Bool.{true≢false}
use Rattle.std.proofs.lemmas.List.Folds.{list_any_none}
use Rattle.std.proofs.lemmas.Option.{cond_some, none-some}
use Rattle.acl_names.specs.Bytes.{colon}
use Rattle.acl_names.specs.Ids.{decimal_value}
use Rattle.acl_names.specs.Pieces.{parts}
use Rattle.acl_names.proofs.AscendingLemmas.{any_false}
use Rattle.acl_accounts.specs.Names.{is_account_name}
use Rattle.acl_accounts.specs.Rows.{Row, IsUser, IsGroup, IsPassed, UserRow, GroupRow, group_row, is_mark, is_read_at_login, members_of, number_of}
use Rattle.acl_accounts.specs.Rows.{passed_over, row_behind_space, row_of, row_of_fields, user_row}
use Rattle.acl_accounts.specs.Shapes.{AreFields, HasNoShape, HasShape, IsGroupLine, IsIdle, IsNamed, IsUserLine, Lacks, StandsBehindSpace, WritesNumber}
use Rattle.acl_accounts.specs.Space.{skip_space}
use Rattle.acl_accounts.proofs.FieldLemmas.{fields_read, fields_stand}
use Rattle.acl_accounts.proofs.MemberLemmas.{members_read, members_stand}
use Rattle.acl_accounts.proofs.SpaceLemmas.{space_skipped, space_stands}

abbrev some_row : Row → Option Row
some_row row = Some row

same_row : (one other : Row) → some_row one ≡ some_row other → one ≡ other
same_row one other e = cc

abbrev user : List ℕ → ℕ → ℕ → Row
user name uid gid = IsUser (record { name = name; uid = uid; gid = gid })

abbrev group : ℕ → List ℕ → ℕ → List (List ℕ) → Row
group line name gid members = IsGroup (record { name = name; gid = gid; members = members; line = line })

number_says : (field : List ℕ) (id : ℕ) → number_of field ≡ Some id → WritesNumber field id
number_says field id e = (skip_space field, space_stands field, e)

number_read : (field : List ℕ) (id : ℕ) → WritesNumber field id → number_of field ≡ Some id
number_read field id (digits, stands, e) = ap decimal_value (space_skipped field digits stands) ∙ e

user_says : (name : List ℕ) (uid gid : Option ℕ) (row : Row) → user_row name uid gid ≡ Some row
    → (u : ℕ) × (g : ℕ) × (uid ≡ Some u) × (gid ≡ Some g) × (is_account_name name ≡ true) × (user name u g ≡ row)
user_says name (Some u) (Some g) row e =
    let is = cond_some (is_account_name name) (user name u g) row e in (u, g, refl, refl, is.0, is.1)
user_says name (Some u) None row e = cc
user_says name None gid row e = cc

group_says : (line : ℕ) (name : List ℕ) (gid : Option ℕ) (members : List (List ℕ)) (row : Row) → group_row line name gid members ≡ Some row
    → (g : ℕ) × (gid ≡ Some g) × (is_account_name name ≡ true) × (group line name g members ≡ row)
group_says line name (Some g) members row e =
    let is = cond_some (is_account_name name) (group line name g members) row e in (g, refl, is.0, is.1)
group_says line name None members row e = cc

-- a line begins as its first field, if that isn't empty
begins_as : (rest name second : List ℕ) (fields : List (List ℕ)) → is_account_name name ≡ true → AreFields rest (name ∷ second ∷ fields) → is_mark (slice_index rest 0) ≡ is_mark (slice_index name 0)
begins_as rest [] second fields named are = absurd (true≢false (sym named))
begins_as rest (byte ∷ bytes) second fields named are = ap (λ text. is_mark (slice_index text 0)) are.joined

module _ (number : ℕ) (line rest : List ℕ) (whole : Lacks 0 line) (behind : StandsBehindSpace line rest) (unmarked : is_mark (slice_index rest 0) ≡ false) where
  user_line : (name password uid gid gecos home shell : List ℕ) (row : Row) → AreFields rest (name ∷ password ∷ uid ∷ gid ∷ gecos ∷ home ∷ shell ∷ [])
      → user_row name (number_of uid) (number_of gid) ≡ Some row → HasShape number line row
  user_line name password uid gid gecos home shell row are e =
      let says = user_says name (number_of uid) (number_of gid) row e in
      subst (HasShape number line) says.5 (record {
        password = password;
        uid = uid;
        gid = gid;
        gecos = gecos;
        home = home;
        shell = shell;
        said = record { rest = rest; whole = whole; behind = behind; fields_are = are };
        named = record { named = says.4; unmarked = sym (begins_as rest name password (uid ∷ gid ∷ gecos ∷ home ∷ shell ∷ []) says.4 are) ∙ unmarked };
        uid_is = number_says uid says.0 says.2;
        gid_is = number_says gid says.1 says.3;
      })

  group_line : (name password gid members : List ℕ) (row : Row) → AreFields rest (name ∷ password ∷ gid ∷ members ∷ [])
      → group_row number name (number_of gid) (members_of members) ≡ Some row → HasShape number line row
  group_line name password gid members row are e =
      let says = group_says number name (number_of gid) (members_of members) row e in
      subst (HasShape number line) says.3 (record {
        password = password;
        gid = gid;
        members = members;
        said = record { rest = rest; whole = whole; behind = behind; fields_are = are };
        named = record { named = says.2; unmarked = sym (begins_as rest name password (gid ∷ members ∷ []) says.2 are) ∙ unmarked };
        gid_is = number_says gid says.0 says.1;
        members_are = members_stand members;
        line_is = refl;
      })

  fields_say : (fields : List (List ℕ)) (row : Row) → AreFields rest fields → row_of_fields number fields ≡ Some row → HasShape number line row
  unfolding row_of_fields
  fields_say [] row are e = cc
  fields_say (a ∷ []) row are e = cc
  fields_say (a ∷ b ∷ []) row are e = cc
  fields_say (a ∷ b ∷ c ∷ []) row are e = cc
  fields_say (name ∷ password ∷ gid ∷ members ∷ []) row are e = group_line name password gid members row are e
  fields_say (a ∷ b ∷ c ∷ d ∷ f ∷ []) row are e = cc
  fields_say (a ∷ b ∷ c ∷ d ∷ f ∷ g ∷ []) row are e = cc
  fields_say (name ∷ password ∷ uid ∷ gid ∷ gecos ∷ home ∷ shell ∷ []) row are e = user_line name password uid gid gecos home shell row are e
  fields_say (a ∷ b ∷ c ∷ d ∷ f ∷ g ∷ h ∷ i ∷ more) row are e = cc

passed_says : (fields : List (List ℕ)) (row : Row) → passed_over fields ≡ Some row → (is_read_at_login fields ≡ false) × (IsPassed ≡ row)
passed_says fields row e = by_read (is_read_at_login fields) refl e
  where
    by_read : (b : Bool) → is_read_at_login fields ≡ b → cond b None (Some IsPassed) ≡ Some row → (is_read_at_login fields ≡ false) × (IsPassed ≡ row)
    by_read true is e = cc
    by_read false is e = (is, same_row IsPassed row e)

behind_says : (number : ℕ) (line rest : List ℕ) (row : Row) → Lacks 0 line → StandsBehindSpace line rest → row_behind_space number rest ≡ Some row → HasShape number line row
behind_says number line [] row whole behind e =
    subst (HasShape number line) (same_row IsPassed row e) (record { rest = []; whole = whole; behind = behind; idle = inl refl })
behind_says number line (byte ∷ bytes) row whole behind e = by_mark (is_mark byte) refl e
  where
    rest : List ℕ
    rest = byte ∷ bytes

    by_mark : (b : Bool) → is_mark byte ≡ b → cond b (passed_over (parts colon (byte ∷ bytes))) (row_of_fields number (parts colon (byte ∷ bytes))) ≡ Some row → HasShape number line row
    by_mark true marked e =
        let says = passed_says (parts colon (byte ∷ bytes)) row e in
        let idle : IsIdle (byte ∷ bytes) = record { marked = marked; fields = parts colon (byte ∷ bytes); fields_are = fields_stand (byte ∷ bytes); unread = says.0 } in
        subst (HasShape number line) says.1 (record { rest = byte ∷ bytes; whole = whole; behind = behind; idle = inr idle })
    by_mark false unmarked e = fields_say number line (byte ∷ bytes) whole behind unmarked (parts colon (byte ∷ bytes)) row (fields_stand (byte ∷ bytes)) e

-- what is read has a shape
pub shape_of_read : (number : ℕ) (line : List ℕ) (row : Row) → row_of number line ≡ Some row → HasShape number line row
shape_of_read number line row e = by_zero (list_any (λ byte. byte == 0) line) refl e
  where
    by_zero : (b : Bool) → list_any (λ byte. byte == 0) line ≡ b → cond b None (row_behind_space number (skip_space line)) ≡ Some row → HasShape number line row
    by_zero true is e = cc
    by_zero false is e = behind_says number line (skip_space line) row (any_false line (λ byte. byte == 0) is) (space_stands line) e

-- ---- the way back
no_zero : (line : List ℕ) → Lacks 0 line → list_any (λ byte. byte == 0) line ≡ false
no_zero line whole = list_any_none (λ byte. byte == 0) line whole

row_behind : (number : ℕ) (line rest : List ℕ) → Lacks 0 line → StandsBehindSpace line rest → row_of number line ≡ row_behind_space number rest
row_behind number line rest whole behind =
    ap (λ b. cond b None (row_behind_space number (skip_space line))) (no_zero line whole) ∙ ap (row_behind_space number) (space_skipped line rest behind)

-- a line without a mark is its fields
fields_row : (number : ℕ) (rest name second : List ℕ) (fields : List (List ℕ)) → IsNamed name → AreFields rest (name ∷ second ∷ fields)
    → row_behind_space number rest ≡ row_of_fields number (name ∷ second ∷ fields)
fields_row number [] name second fields named are = let none = fields_read [] name (second ∷ fields) are in cc
fields_row number (byte ∷ bytes) name second fields named are =
    let unmarked : is_mark byte ≡ false = begins_as (byte ∷ bytes) name second fields named.named are ∙ named.unmarked in
    ap (λ b. cond b (passed_over (parts colon (byte ∷ bytes))) (row_of_fields number (parts colon (byte ∷ bytes)))) unmarked
    ∙ ap (row_of_fields number) (fields_read (byte ∷ bytes) name (second ∷ fields) are)

user_read : (line : List ℕ) (number : ℕ) (row : UserRow) → IsUserLine line row → row_of number line ≡ Some (IsUser row)
unfolding row_of_fields
user_read line number row shape =
    let said = shape.said in
    row_behind number line said.rest said.whole said.behind
    ∙ fields_row number said.rest row.name shape.password (shape.uid ∷ shape.gid ∷ shape.gecos ∷ shape.home ∷ shape.shell ∷ []) shape.named said.fields_are
    ∙ ap (λ uid. user_row row.name uid (number_of shape.gid)) (number_read shape.uid row.uid shape.uid_is)
    ∙ ap (user_row row.name (Some row.uid)) (number_read shape.gid row.gid shape.gid_is)
    ∙ ap (λ b. cond b (Some (IsUser row)) None) shape.named.named

group_read : (line : List ℕ) (number : ℕ) (row : GroupRow) → IsGroupLine number line row → row_of number line ≡ Some (IsGroup row)
unfolding row_of_fields
group_read line number row shape =
    let said = shape.said in
    row_behind number line said.rest said.whole said.behind
    ∙ fields_row number said.rest row.name shape.password (shape.gid ∷ shape.members ∷ []) shape.named said.fields_are
    ∙ ap (λ gid. group_row number row.name gid (members_of shape.members)) (number_read shape.gid row.gid shape.gid_is)
    ∙ ap (group_row number row.name (Some row.gid)) (members_read shape.members row.members shape.members_are)
    ∙ ap (λ n. group_row n row.name (Some row.gid) row.members) (sym shape.line_is)
    ∙ ap (λ b. cond b (Some (IsGroup row)) None) shape.named.named

idle_row : (number : ℕ) (rest : List ℕ) → (rest ≡ []) ⊎ IsIdle rest → row_behind_space number rest ≡ Some IsPassed
idle_row number [] idle = refl
idle_row number (byte ∷ bytes) (inl none) = cc
idle_row number (byte ∷ bytes) (inr idle) = by_fields idle.fields idle.fields_are idle.unread
  where
    by_fields : (fields : List (List ℕ)) → AreFields (byte ∷ bytes) fields → is_read_at_login fields ≡ false → row_behind_space number (byte ∷ bytes) ≡ Some IsPassed
    by_fields [] are unread = let none = are.joined in cc
    by_fields (first ∷ fields) are unread =
        ap (λ b. cond b (passed_over (parts colon (byte ∷ bytes))) (row_of_fields number (parts colon (byte ∷ bytes)))) idle.marked
        ∙ ap passed_over (fields_read (byte ∷ bytes) first fields are)
        ∙ ap (λ b. cond b None (Some IsPassed)) unread

-- a line of a shape is read
pub read_of_shape : (number : ℕ) (line : List ℕ) (row : Row) → HasShape number line row → row_of number line ≡ Some row
read_of_shape number line (IsUser row) shape = user_read line number row shape
read_of_shape number line (IsGroup row) shape = group_read line number row shape
read_of_shape number line IsPassed shape = row_behind number line shape.rest shape.whole shape.behind ∙ idle_row number shape.rest shape.idle

-- and a line of none is bad
pub none_of_bad : (number : ℕ) (line : List ℕ) → row_of number line ≡ None → HasNoShape number line
none_of_bad number line bad row shape = absurd (none-some row (sym bad ∙ read_of_shape number line row shape))

pub bad_of_none : (number : ℕ) (line : List ℕ) → HasNoShape number line → row_of number line ≡ None
bad_of_none number line none = by_row (row_of number line) refl
  where
    by_row : (row : Option Row) → row_of number line ≡ row → row_of number line ≡ None
    by_row None is = is
    by_row (Some row) is = absurd (none row (shape_of_read number line row is))
