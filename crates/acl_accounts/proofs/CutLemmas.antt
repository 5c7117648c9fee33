-- Whether a text has a line that was cut.
use Rattle.std.proofs.Common.{◌≡◌, ◌∙◌, ℕ, ◌≤◌, length, Bool, false, not, cond, Option, Some, None, is_some, List, [], ◌∷◌, Result, Ok, Err, refl, sym, ap, bytes_eq, map, option_map}
use Rattle.std.specs.List.{find}
use Rattle.std.specs.Option.{option_map_or}
use Rattle.std.proofs.lemmas.Bool.{le-ltb}
use Rattle.acl_names.specs.Steps.{◌>>=◌}
use Rattle.acl_accounts.specs.Accounts.{KnownAccounts, AreOf, account_of, is_user_in, rows_within}
use Rattle.acl_accounts.specs.Rows as text
use Rattle.acl_accounts.specs.Rows.{is_cut, is_user_of, rows_of, rows_of_lines, unless_cut}
use Rattle.acl_accounts.specs.Views.{view_group}
use Rattle.acl_accounts.specs.declared.fault.AccountsFault.{AccountsFault}
use Rattle.acl_accounts.specs.declared.fault.AccountsFault.TheVariants.{BadAccount, TooMany}
use Rattle.acl_accounts.specs.declared.limits.TheConstants.{MAX_ACCOUNTS_TEXT}
use Rattle.acl_accounts.specs.declared.rows.GroupRow.{GroupRow}
use Rattle.acl_accounts.proofs.ResultLemmas.{find-map, map_twice}

is_some-map : {X Y : Type 0} (f : X → Y) (o : Option X) → is_some (option_map f o) ≡ is_some o
is_some-map f None = refl
is_some-map f (Some x) = refl

-- the names of users are those of the rows
known_users : (rows : text.Rows) (accounts : KnownAccounts) → AreOf rows accounts → (name : List ℕ) → is_user_in accounts name ≡ is_user_of rows name
known_users rows accounts are name =
    ap is_some (are.users name) ∙ is_some-map account_of (find (λ (user : text.UserRow). bytes_eq user.name name) rows.users)

find-alike : {X : Type 0} (p q : X → Bool) → ((x : X) → p x ≡ q x) → (xs : List X) → find p xs ≡ find q xs
find-alike p q alike [] = refl
find-alike p q alike (x ∷ xs) = rw (alike x, find-alike p q alike xs) refl

alone_alike : (one other : List ℕ → Bool) → ((name : List ℕ) → one name ≡ other name) → (group : text.GroupRow) → is_cut one group ≡ is_cut other group
alone_alike one other alike group = by_number (text.number_alone group.members)
  where
    by_number : (number : Option (List ℕ)) → option_map_or (λ name. not (one name)) number false ≡ option_map_or (λ name. not (other name)) number false
    by_number None = refl
    by_number (Some name) = ap not (alike name)

-- the first group that was cut is that of the rows
line_found : (rows : text.Rows) (accounts : KnownAccounts) (groups : List GroupRow) → AreOf rows accounts → rows.groups ≡ map view_group groups
    → option_map (λ (group : GroupRow). group.line) (find (λ group. is_cut (is_user_in accounts) (view_group group)) groups)
    ≡ option_map (λ (group : text.GroupRow). group.line) (find (is_cut (is_user_of rows)) rows.groups)
line_found rows accounts groups are these =
    map_twice view_group (λ (group : text.GroupRow). group.line) (find (λ group. is_cut (is_user_in accounts) (view_group group)) groups)
    ∙ ap (option_map (λ (group : text.GroupRow). group.line)) (
    sym (find-map view_group (is_cut (is_user_in accounts)) groups)
    ∙ ap (find (is_cut (is_user_in accounts))) (sym these)
    ∙ find-alike (is_cut (is_user_in accounts)) (is_cut (is_user_of rows)) (alone_alike (is_user_in accounts) (is_user_of rows) (known_users rows accounts are)) rows.groups)

none_cut : (rows : text.Rows) (group : Option text.GroupRow) → option_map (λ (one : text.GroupRow). one.line) group ≡ None → unless_cut rows group ≡ Ok rows
none_cut rows None e = refl
none_cut rows (Some group) e = cc

one_cut : (rows : text.Rows) (group : Option text.GroupRow) (line : ℕ) → option_map (λ (one : text.GroupRow). one.line) group ≡ Some line
    → unless_cut rows group ≡ Err (BadAccount line)
one_cut rows None line e = cc
one_cut rows (Some group) line e = let is : group.line ≡ line = cc in ap (λ n. Err (BadAccount n)) is

pub read_uncut : (rows : text.Rows) (accounts : KnownAccounts) (groups : List GroupRow) → AreOf rows accounts → rows.groups ≡ map view_group groups
    → None ≡ option_map (λ (group : GroupRow). group.line) (find (λ group. is_cut (is_user_in accounts) (view_group group)) groups)
    → unless_cut rows (find (is_cut (is_user_of rows)) rows.groups) ≡ Ok rows
read_uncut rows accounts groups are these none =
    none_cut rows (find (is_cut (is_user_of rows)) rows.groups) (sym (none ∙ line_found rows accounts groups are these))

pub read_cut : (rows : text.Rows) (accounts : KnownAccounts) (groups : List GroupRow) (line : ℕ) → AreOf rows accounts → rows.groups ≡ map view_group groups
    → Some line ≡ option_map (λ (group : GroupRow). group.line) (find (λ group. is_cut (is_user_in accounts) (view_group group)) groups)
    → unless_cut rows (find (is_cut (is_user_of rows)) rows.groups) ≡ Err (BadAccount line)
read_cut rows accounts groups line are these found =
    one_cut rows (find (is_cut (is_user_of rows)) rows.groups) line (sym (found ∙ line_found rows accounts groups are these))

-- the rows of a text that is short enough
pub rows_read : (bytes : List ℕ) (rows : text.Rows) (read : Result text.Rows AccountsFault) → length bytes ≤ MAX_ACCOUNTS_TEXT → rows_of_lines bytes ≡ Ok rows
    → unless_cut rows (find (is_cut (is_user_of rows)) rows.groups) ≡ read → rows_within bytes ≡ read
rows_read bytes rows read short lines are =
    ap (λ b. cond b (Err TooMany) (rows_of bytes)) (le-ltb MAX_ACCOUNTS_TEXT (length bytes) short)
    ∙ ap (λ r. r >>= uncut) lines ∙ are
  where
    uncut : text.Rows → Result text.Rows AccountsFault
    uncut these = unless_cut these (find (is_cut (is_user_of these)) these.groups)
