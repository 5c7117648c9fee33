-- Rows that are written are read again.
use Rattle.std.proofs.Common.{◌≡◌, ◌∙◌, ◌≤◌, ◌+◌, ◌||◌, ◌&&◌, ℕ, Bool, true, false, ◌==◌, nat_le, List, [], ◌∷◌, ◌++◌, map, length, codes, decimal, Some, None, Ok, refl, sym, ap, ap₂, subst, inl, inr, arith, append_assoc, append-nil, length-append}
use Rattle.std.specs.Char.{is_ascii_digit}
use Rattle.std.specs.List.{AllByRecursion, find, flat_map, join_with_byte, list_all, list_any}
use Rattle.std.specs.Prelude.{slice_index}
use Rattle.std.proofs.lemmas.Bool.{cases_Bool, eqb-true, le-leb, lt-ltb, true≢false}
use Rattle.std.proofs.lemmas.Bool.Decides.{nat_tests}
use Rattle.std.proofs.lemmas.Fmt.{decimal_is_IsNumeral}
use Rattle.std.proofs.lemmas.List.Concat.{flat_map-cons}
use Rattle.std.proofs.lemmas.List.Elements.{All-append, All-cons, All-from_recursion, All-nil, All-weaker, recursion_from_All}
use Rattle.std.proofs.lemmas.List.Folds.{list_any_none}
use Rattle.std.proofs.lemmas.List.Splits.{slice_split_at}
use Rattle.std.proofs.lemmas.List.Sums.{AllPass-from_list_all}
use Rattle.acl_names.specs.Bytes.{colon, comma, newline}
use Rattle.acl_names.specs.Ids.{begins_name, continues_name}
use Rattle.acl_names.specs.Pieces.{parts}
use Rattle.acl_names.specs.declared.limits.TheConstants.{MAX_ID, MAX_NAME_LEN}
use Rattle.acl_names.proofs.Decimals.{digits_model}
use Rattle.acl_names.proofs.IdTexts.{and_first, and_second, decimal_read}
use Rattle.acl_accounts.specs.Rows.{GroupRow, IsGroup, IsUser, Rows, UserRow, is_cut, is_mark, is_numeric, is_user_of, no_rows, number_alone, row_of, rows_from, rows_of, rows_of_lines}
use Rattle.acl_accounts.specs.Shapes.{IsGap, IsMember, IsNamed, Lacks, NamesMembers, SaysFields, StandsBehindSpace, WritesNumber}
use Rattle.acl_accounts.specs.Space.{is_space}
use Rattle.acl_accounts.specs.Text.{AreNumbered, IsPlainGroup, IsPlainUser, IsShaped, RowsAreReadAgain, group_line, line_with, rows_text, user_line}
use Rattle.acl_accounts.specs.declared.limits.TheConstants.{MAX_ACCOUNT_GROUPS, MAX_ACCOUNT_NAME, MAX_ACCOUNT_USERS}
use Rattle.acl_accounts.proofs.ShapeLemmas.{read_of_shape}

-- ---- bytes that a text lacks

lacks : (test : ℕ → Bool) (byte : ℕ) → test byte ≡ false → (text : List ℕ) → list_all test text ≡ true → Lacks byte text
lacks test byte fails text passes = All-weaker (λ x. test x ≡ true) (λ x. (x == byte) ≡ false) apart text (AllPass-from_list_all test text passes)
  where
    apart : (x : ℕ) → test x ≡ true → (x == byte) ≡ false
    apart x is = elim (cases_Bool (x == byte)) [
      | inl same ↦ absurd (true≢false (sym is ∙ ap test (eqb-true x byte same) ∙ fails))
      | inr other ↦ other
    ]

name_bytes : (name : List ℕ) → IsShaped name → list_all continues_name name ≡ true
name_bytes name shaped =
    and_second (nat_le 1 (length name) && nat_le (length name) MAX_NAME_LEN && begins_name (slice_index name 0)) (list_all continues_name name) shaped

name_lacks : (byte : ℕ) → continues_name byte ≡ false → (name : List ℕ) → IsShaped name → Lacks byte name
name_lacks byte other name shaped = lacks continues_name byte other name (name_bytes name shaped)

decimal_digits : (id : ℕ) → id ≤ MAX_ID → list_all is_ascii_digit (decimal id) ≡ true
decimal_digits id small = digits_model.from (decimal id) (decimal_is_IsNumeral id (omega arith)).0.1

decimal_lacks : (byte : ℕ) → is_ascii_digit byte ≡ false → (id : ℕ) → id ≤ MAX_ID → Lacks byte (decimal id)
decimal_lacks byte other id small = lacks is_ascii_digit byte other (decimal id) (decimal_digits id small)

joined_lacks : (byte separator : ℕ) → (separator == byte) ≡ false → (fields : List (List ℕ)) → AllByRecursion (Lacks byte) fields → Lacks byte (join_with_byte separator fields)
joined_lacks byte separator other [] are = All-nil (λ x. (x == byte) ≡ false)
joined_lacks byte separator other (first ∷ []) are = are.0
joined_lacks byte separator other (first ∷ second ∷ fields) are =
    All-append (λ x. (x == byte) ≡ false) first (separator ∷ join_with_byte separator (second ∷ fields)) are.0
    (All-cons (λ x. (x == byte) ≡ false) separator (join_with_byte separator (second ∷ fields)) other (joined_lacks byte separator other (second ∷ fields) are.1))

shaped_lack : (byte : ℕ) → continues_name byte ≡ false → (names : List (List ℕ)) → AllByRecursion IsShaped names → AllByRecursion (Lacks byte) names
shaped_lack byte other [] are = tt
shaped_lack byte other (name ∷ names) are = (name_lacks byte other name are.0, shaped_lack byte other names are.1)

-- ---- how a name begins

begins : (byte : ℕ) (bytes : List ℕ) → IsShaped (byte ∷ bytes) → begins_name byte ≡ true
begins byte bytes shaped =
    let long = nat_le 1 (length (byte ∷ bytes)) && nat_le (length (byte ∷ bytes)) MAX_NAME_LEN in
    and_second long (begins_name byte) (and_first (long && begins_name byte) (list_all continues_name (byte ∷ bytes)) shaped)

letter_no_space : (byte : ℕ) → begins_name byte ≡ true → is_space byte ≡ false
letter_no_space byte is = grind (arith, nat_tests)

letter_no_mark : (byte : ℕ) → begins_name byte ≡ true → is_mark byte ≡ false
letter_no_mark byte is = grind (arith, nat_tests)

letter_no_number : (byte : ℕ) → begins_name byte ≡ true → (is_ascii_digit byte || (byte == 43) || (byte == 45) || is_space byte) ≡ false
letter_no_number byte is = grind (arith, nat_tests)

digit_no_space : (byte : ℕ) → is_ascii_digit byte ≡ true → is_space byte ≡ false
digit_no_space byte is = grind (arith, nat_tests)

-- a text that begins with no white space is behind none
behind_none : (text : List ℕ) → is_space (slice_index text 0) ≡ false → StandsBehindSpace text text
behind_none text begins = record { front = []; text_is = refl; front_is = All-nil (λ byte. is_space byte ≡ true); begins = begins }

number_written : (id : ℕ) → id ≤ MAX_ID → WritesNumber (decimal id) id
number_written id small = (decimal id, behind_none (decimal id) (begins_so (decimal id) (decimal_digits id small)), decimal_read id small)
  where
    begins_so : (text : List ℕ) → list_all is_ascii_digit text ≡ true → is_space (slice_index text 0) ≡ false
    begins_so [] digits = refl
    begins_so (byte ∷ bytes) digits = digit_no_space byte (and_first (is_ascii_digit byte) (list_all is_ascii_digit bytes) digits)

named_by : (name : List ℕ) → IsShaped name → IsNamed name
named_by [] shaped = cc
named_by (byte ∷ bytes) shaped =
    let name = byte ∷ bytes in
    let few : nat_le (length name) MAX_NAME_LEN ≡ true =
    and_second (nat_le 1 (length name)) (nat_le (length name) MAX_NAME_LEN)
    (and_first (nat_le 1 (length name) && nat_le (length name) MAX_NAME_LEN) (begins_name byte)
    (and_first (nat_le 1 (length name) && nat_le (length name) MAX_NAME_LEN && begins_name byte) (list_all continues_name name) shaped)) in
    let short : nat_le (length name) MAX_ACCOUNT_NAME ≡ true = grind (arith, nat_tests) in
    let whole : list_any (λ x. (x == colon) || (x == newline)) name ≡ false = list_any_none (λ x. (x == colon) || (x == newline)) name
    (All-weaker (λ x. continues_name x ≡ true) (λ x. ((x == colon) || (x == newline)) ≡ false) no_end name (AllPass-from_list_all continues_name name (name_bytes name shaped))) in
    record { named = rw (le-leb 1 (length name) (omega arith), short, whole) refl; unmarked = letter_no_mark byte (begins byte bytes shaped) }
  where
    no_end : (x : ℕ) → continues_name x ≡ true → ((x == colon) || (x == newline)) ≡ false
    no_end x is = grind (arith, nat_tests)

member : (name : List ℕ) → IsShaped name → IsMember name
member [] shaped = cc
member (byte ∷ bytes) shaped = record {
  filled = omega arith;
  begins = letter_no_space byte (begins byte bytes shaped);
  apart = name_lacks comma refl (byte ∷ bytes) shaped;
}

-- ---- the members

members_behind : (gap : List ℕ) → IsGap gap → (names : List (List ℕ)) → AllByRecursion IsShaped names → NamesMembers (gap ++ join_with_byte comma names) names
members_behind gap is [] are = subst IsGap (sym (append-nil gap)) is
members_behind gap is (name ∷ []) are = (gap, [], ap (λ (text : List ℕ). gap ++ text) (sym (append-nil name)), is, member name are.0, inl refl, All-nil (λ byte. (is_space byte || (byte == comma)) ≡ true))
members_behind gap is (name ∷ second ∷ names) are = (
  gap,
  comma ∷ join_with_byte comma (second ∷ names),
  refl,
  is,
  member name are.0,
  inr refl,
  members_behind (comma ∷ []) (All-cons (λ byte. (is_space byte || (byte == comma)) ≡ true) comma [] refl (All-nil (λ byte. (is_space byte || (byte == comma)) ≡ true))) (second ∷ names) are.1,
)

-- ---- the lines

-- fields behind a name
says : (name : List ℕ) (second : List ℕ) (fields : List (List ℕ)) → IsShaped name → AllByRecursion (Lacks 0) (second ∷ fields) → AllByRecursion (Lacks colon) (second ∷ fields)
    → SaysFields (join_with_byte colon (name ∷ second ∷ fields)) (name ∷ second ∷ fields)
says [] second fields shaped whole apart = cc
says (byte ∷ bytes) second fields shaped whole apart =
    let name = byte ∷ bytes in
    let line = join_with_byte colon (name ∷ second ∷ fields) in
    record {
      rest = line;
      whole = joined_lacks 0 colon refl (name ∷ second ∷ fields) (name_lacks 0 refl name shaped, whole);
      behind = behind_none line (letter_no_space byte (begins byte bytes shaped));
      fields_are = record { joined = refl; apart = All-from_recursion (Lacks colon) (name ∷ second ∷ fields) (name_lacks colon refl name shaped, apart) };
    }

x_lacks : (byte : ℕ) → (120 == byte) ≡ false → Lacks byte (codes "x")
x_lacks byte other = All-cons (λ x. (x == byte) ≡ false) 120 [] other (All-nil (λ x. (x == byte) ≡ false))

none_lacks : (byte : ℕ) → Lacks byte []
none_lacks byte = All-nil (λ x. (x == byte) ≡ false)

user_fields : (byte : ℕ) → (120 == byte) ≡ false → is_ascii_digit byte ≡ false → (user : UserRow) → IsPlainUser user
    → AllByRecursion (Lacks byte) (codes "x" ∷ decimal user.uid ∷ decimal user.gid ∷ [] ∷ [] ∷ [] ∷ [])
user_fields byte no_x no_digit user plain =
    (x_lacks byte no_x, (decimal_lacks byte no_digit user.uid plain.uid, (decimal_lacks byte no_digit user.gid plain.gid, (none_lacks byte, (none_lacks byte, (none_lacks byte, tt))))))

user_again : (number : ℕ) (user : UserRow) → IsPlainUser user → row_of number (user_line user) ≡ Some (IsUser user)
user_again number user plain = read_of_shape number (user_line user) (IsUser user) (record {
  password = codes "x";
  uid = decimal user.uid;
  gid = decimal user.gid;
  gecos = [];
  home = [];
  shell = [];
  said = says user.name (codes "x") (decimal user.uid ∷ decimal user.gid ∷ [] ∷ [] ∷ [] ∷ []) plain.name (user_fields 0 refl refl user plain) (user_fields colon refl refl user plain);
  named = named_by user.name plain.name;
  uid_is = number_written user.uid plain.uid;
  gid_is = number_written user.gid plain.gid;
})

group_fields : (byte : ℕ) → (120 == byte) ≡ false → is_ascii_digit byte ≡ false → (comma == byte) ≡ false → continues_name byte ≡ false → (group : GroupRow) → IsPlainGroup group
    → AllByRecursion (Lacks byte) (codes "x" ∷ decimal group.gid ∷ join_with_byte comma group.members ∷ [])
group_fields byte no_x no_digit no_comma no_name group plain = (
  x_lacks byte no_x,
  (
    decimal_lacks byte no_digit group.gid plain.gid,
    (joined_lacks byte comma no_comma group.members (shaped_lack byte no_name group.members (recursion_from_All IsShaped group.members plain.members)), tt),
  ),
)

group_again : (number : ℕ) (group : GroupRow) → IsPlainGroup group → group.line ≡ number → row_of number (group_line group) ≡ Some (IsGroup group)
group_again number group plain line_is = read_of_shape number (group_line group) (IsGroup group) (record {
  password = codes "x";
  gid = decimal group.gid;
  members = join_with_byte comma group.members;
  said = says group.name (codes "x") (decimal group.gid ∷ join_with_byte comma group.members ∷ []) plain.name (group_fields 0 refl refl refl refl group plain) (group_fields colon refl refl refl refl group plain);
  named = named_by group.name plain.name;
  gid_is = number_written group.gid plain.gid;
  members_are = members_behind [] (All-nil (λ byte. (is_space byte || (byte == comma)) ≡ true)) group.members (recursion_from_All IsShaped group.members plain.members);
  line_is = line_is;
})

user_line_ends : (user : UserRow) → IsPlainUser user → Lacks newline (user_line user)
user_line_ends user plain = joined_lacks newline colon refl (user.name ∷ codes "x" ∷ decimal user.uid ∷ decimal user.gid ∷ [] ∷ [] ∷ [] ∷ [])
    (name_lacks newline refl user.name plain.name, user_fields newline refl refl user plain)

group_line_ends : (group : GroupRow) → IsPlainGroup group → Lacks newline (group_line group)
group_line_ends group plain = joined_lacks newline colon refl (group.name ∷ codes "x" ∷ decimal group.gid ∷ join_with_byte comma group.members ∷ [])
    (name_lacks newline refl group.name plain.name, group_fields newline refl refl refl refl group plain)

lines_apart : {A : Type 0} (line : A → List ℕ) (P : A → Type 0) → ((row : A) → P row → Lacks newline (line row)) → (rows : List A) (rest : List ℕ) → AllByRecursion P rows
    → parts newline (flat_map (line_with line) rows ++ rest) ≡ map line rows ++ parts newline rest
lines_apart line P ends [] rest are = refl
lines_apart line P ends (row ∷ rows) rest are =
    let more = flat_map (line_with line) rows in
    let front : flat_map (line_with line) (row ∷ rows) ++ rest ≡ line row ++ newline ∷ (more ++ rest) =
    ap (λ (text : List ℕ). text ++ rest) (flat_map-cons (line_with line) row rows)
    ∙ append_assoc (line row ++ newline ∷ []) more rest
    ∙ append_assoc (line row) (newline ∷ []) (more ++ rest) in
    ap (parts newline) front
    ∙ slice_split_at (λ x. x == newline) (line row) newline (more ++ rest) (ends row are.0) refl
    ∙ ap (λ (lines : List (List ℕ)). line row ∷ lines) (lines_apart line P ends rows rest are.1)

-- ---- the rows

users_read : (number : ℕ) (before : Rows) (users : List UserRow) (more : List (List ℕ)) → AllByRecursion IsPlainUser users → length before.users + length users ≤ MAX_ACCOUNT_USERS
    → rows_from number before (map user_line users ++ more) ≡ rows_from (number + length users) (record { users = before.users ++ users; groups = before.groups }) more
users_read number before [] more are few =
    ap₂ (λ (n : ℕ) (users : List UserRow). rows_from n (record { users = users; groups = before.groups }) more) (omega arith) (sym (append-nil before.users))
users_read number before (user ∷ users) more are few =
    let room = lt-ltb (length before.users) MAX_ACCOUNT_USERS (omega (arith, few)) in
    let now : Rows = record { users = before.users ++ user ∷ []; groups = before.groups } in
    rw (user_again number user are.0, room) (
    users_read (number + 1) now users more are.1 (omega (arith, few, length-append before.users (user ∷ [])))
    ∙ ap₂ (λ (n : ℕ) (all : List UserRow). rows_from n (record { users = all; groups = before.groups }) more) (omega arith) (append_assoc before.users (user ∷ []) users)
    )

groups_read : (number : ℕ) (before : Rows) (groups : List GroupRow) → AllByRecursion IsPlainGroup groups → AreNumbered number groups → length before.groups + length groups ≤ MAX_ACCOUNT_GROUPS
    → rows_from number before (map group_line groups ++ [] ∷ []) ≡ Ok (record { users = before.users; groups = before.groups ++ groups })
groups_read number before [] are numbered few = ap (λ (groups : List GroupRow). Ok (record { users = before.users; groups = groups })) (sym (append-nil before.groups))
groups_read number before (group ∷ groups) are numbered few =
    let room = lt-ltb (length before.groups) MAX_ACCOUNT_GROUPS (omega (arith, few)) in
    let now : Rows = record { users = before.users; groups = before.groups ++ group ∷ [] } in
    rw (group_again number group are.0 numbered.0, room) (
    groups_read (number + 1) now groups are.1 numbered.1 (omega (arith, few, length-append before.groups (group ∷ [])))
    ∙ ap (λ (all : List GroupRow). Ok (record { users = before.users; groups = all })) (append_assoc before.groups (group ∷ []) groups)
    )

-- no group looks like a user's line that was cut
not_numeric : (name : List ℕ) → IsShaped name → is_numeric name ≡ false
not_numeric [] shaped = cc
not_numeric (byte ∷ bytes) shaped = rw (letter_no_number byte (begins byte bytes shaped)) refl

not_alone : (names : List (List ℕ)) → AllByRecursion IsShaped names → number_alone names ≡ None
not_alone [] are = refl
not_alone (name ∷ []) are = rw (not_numeric name are.0) refl
not_alone (name ∷ second ∷ names) are = refl

none_cut : (is_user : List ℕ → Bool) (groups : List GroupRow) → AllByRecursion IsPlainGroup groups → find (is_cut is_user) groups ≡ None
none_cut is_user [] are = refl
none_cut is_user (group ∷ groups) are = rw (not_alone group.members (recursion_from_All IsShaped group.members are.0.members), none_cut is_user groups are.1) refl

pub rows_again : RowsAreReadAgain
unfolding rows_of
rows_again rows plain =
    let users = recursion_from_All IsPlainUser rows.users plain.users in
    let groups = recursion_from_All IsPlainGroup rows.groups plain.groups in
    let groups_text = flat_map (line_with group_line) rows.groups in
    let lines : parts newline (rows_text rows) ≡ map user_line rows.users ++ (map group_line rows.groups ++ [] ∷ []) =
    lines_apart user_line IsPlainUser user_line_ends rows.users groups_text users
    ∙ ap (λ (more : List (List ℕ)). map user_line rows.users ++ more)
    (ap (parts newline) (sym (append-nil groups_text)) ∙ lines_apart group_line IsPlainGroup group_line_ends rows.groups [] groups) in
    let read : rows_of_lines (rows_text rows) ≡ Ok rows =
    ap (rows_from 1 no_rows) lines
    ∙ users_read 1 no_rows rows.users (map group_line rows.groups ++ [] ∷ []) users (omega (arith, plain.few_users))
    ∙ groups_read (1 + length rows.users) (record { users = rows.users; groups = [] }) rows.groups groups
    (subst (λ (n : ℕ). AreNumbered n rows.groups) (omega arith) plain.lines) (omega (arith, plain.few_groups)) in
    rw (read, none_cut (is_user_of rows) rows.groups groups) refl
