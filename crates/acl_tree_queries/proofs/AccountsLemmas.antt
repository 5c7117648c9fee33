-- The lines of users and groups, one more at a time; and that they are read again.
use Rattle.std.proofs.Common.{◌≡◌, ◌∙◌, ◌≤◌, ◌<◌, ◌+◌, ◌||◌, ◌++◌, ℕ, suc, Bool, true, false, not, nat_lt, List, [], ◌∷◌, None, map, filter, length, get_or, take, refl, sym, ap, ap₂, subst, arith, append_assoc, append-nil, inl, inr}
use Rattle.std.specs.List.{All, AllByRecursion, flat_map, join_with_byte, list_any}
use Rattle.std.proofs.lemmas.Bool.{cases_Bool, or_parts}
use Rattle.std.proofs.lemmas.Bool.Decides.{nat_tests}
use Rattle.std.proofs.lemmas.Grind.{flat_map-append}
use Rattle.std.proofs.lemmas.List.{length-map, map-append, take_more}
use Rattle.std.proofs.lemmas.List.Concat.{flat_map-cons}
use Rattle.std.proofs.lemmas.List.Elements.{All-from_recursion, All-push, filter-append, recursion_from_All}
use Rattle.acl_names.specs.Bytes.{comma}
use Rattle.acl_names.specs.Directory.{Known, KnownGroup, KnownUser, fault_of, has_bad_name, is_too_many}
use Rattle.acl_names.specs.Ids.{has_domain_shape, has_name_shape}
use Rattle.acl_names.specs.declared.limits.TheConstants.{MAX_GROUPS, MAX_GROUPS_OF_USER, MAX_USERS}
use Rattle.acl_accounts.specs.Text.{AreNumbered, ArePlain, IsPlainGroup, IsPlainUser, IsShaped, group_line, line_with, rows_text, user_line}
use Rattle.acl_tree_queries.specs.AccountsText.{Adds, HasGid, HasIds, behind_comma, group_row, group_rows, group_text, is_member, members_in, rows_of_known, user_row, user_text}

-- ---- one line more

pub next_added : {A : Type 0} (text_of : A → List ℕ) (Has : A → Type 0) (items : List A) (at : ℕ) (item : A) → at < length items → get_or items at item ≡ item → (old mid new : List ℕ)
    → Adds text_of Has (take at items) old mid → new ≡ mid ++ text_of item → Has item → Adds text_of Has (take (at + 1) items) old new
next_added text_of Has items at item within here old mid new before text has =
    let more : take (at + 1) items ≡ take at items ++ item ∷ [] = take_more items at item within ∙ ap (λ one. take at items ++ one ∷ []) here in
    let front = flat_map text_of (take at items) in
    let texts : flat_map text_of (take (at + 1) items) ≡ front ++ text_of item =
    ap (flat_map text_of) more ∙ flat_map-append text_of (take at items) (item ∷ []) ∙ ap (λ last. front ++ last) (append-nil (text_of item)) in
    record {
      text = text ∙ ap (λ bytes. bytes ++ text_of item) before.text ∙ append_assoc old front (text_of item) ∙ ap (λ bytes. old ++ bytes) (sym texts);
      have = subst (All Has) (sym more) (All-push Has (take at items) item before.have has);
    }

-- ---- one member more

abbrev pub is_first : List (List ℕ) → Bool
is_first [] = true
is_first (name ∷ names) = false

pub joined_more : (names : List (List ℕ)) (name : List ℕ) → join_with_byte comma (names ++ name ∷ []) ≡ join_with_byte comma names ++ behind_comma (is_first names) name
joined_more [] name = refl
joined_more (first ∷ []) name = refl
joined_more (first ∷ second ∷ names) name =
    ap (λ rest. first ++ comma ∷ rest) (joined_more (second ∷ names) name)
    ∙ sym (append_assoc first (comma ∷ join_with_byte comma (second ∷ names)) (behind_comma false name))

pub not_first : (names : List (List ℕ)) (name : List ℕ) → is_first (names ++ name ∷ []) ≡ false
not_first [] name = refl
not_first (first ∷ names) name = refl

module _ (group : List ℕ) (users : List KnownUser) (at : ℕ) (user : KnownUser) (within : at < length users) (here : get_or users at user ≡ user) where
  members_taken : members_in group (take (at + 1) users) ≡ members_in group (take at users) ++ members_in group (user ∷ [])
  members_taken =
      ap (members_in group) (take_more users at user within ∙ ap (λ one. take at users ++ one ∷ []) here)
      ∙ ap (map (λ (one : KnownUser). one.name)) (filter-append (is_member group) (take at users) (user ∷ []))
      ∙ map-append (λ (one : KnownUser). one.name) (filter (is_member group) (take at users)) (filter (is_member group) (user ∷ []))

  pub member_more : is_member group user ≡ true → members_in group (take (at + 1) users) ≡ members_in group (take at users) ++ user.name ∷ []
  member_more is = members_taken ∙ rw is refl

  pub member_not : is_member group user ≡ false → members_in group (take (at + 1) users) ≡ members_in group (take at users)
  member_not is = members_taken ∙ rw is (append-nil (members_in group (take at users)))

-- ---- the whole text

user_texts : (known : Known) (users : List KnownUser) → flat_map (user_text known) users ≡ flat_map (line_with user_line) (map (user_row known) users)
user_texts known [] = refl
user_texts known (user ∷ users) =
    flat_map-cons (user_text known) user users
    ∙ ap (λ (more : List ℕ). user_text known user ++ more) (user_texts known users)
    ∙ sym (flat_map-cons (line_with user_line) (user_row known user) (map (user_row known) users))

group_texts : (users : List KnownUser) (number : ℕ) (groups : List KnownGroup) → flat_map (group_text users) groups ≡ flat_map (line_with group_line) (group_rows users number groups)
group_texts users number [] = refl
group_texts users number (group ∷ groups) =
    flat_map-cons (group_text users) group groups
    ∙ ap (λ (more : List ℕ). group_text users group ++ more) (group_texts users (number + 1) groups)
    ∙ sym (flat_map-cons (line_with group_line) (group_row users number group) (group_rows users (number + 1) groups))

pub text_added : (known : Known) (old mid new : List ℕ) → mid ≡ old ++ flat_map (user_text known) known.users → new ≡ mid ++ flat_map (group_text known.users) known.groups
    → new ≡ old ++ rows_text (rows_of_known known)
text_added known old mid new users groups =
    groups
    ∙ ap₂ (λ (front back : List ℕ). front ++ back) (users ∙ ap (λ (text : List ℕ). old ++ text) (user_texts known known.users)) (group_texts known.users (length known.users + 1) known.groups)
    ∙ append_assoc old (flat_map (line_with user_line) (map (user_row known) known.users)) (flat_map (line_with group_line) (group_rows known.users (length known.users + 1) known.groups))

-- ---- a directory's rows are plain

module _ {A : Type 0} (name_of : A → List ℕ) where
  shaped_all : (items : List A) → list_any (λ (item : A). not (has_name_shape (name_of item))) items ≡ false → AllByRecursion (λ (item : A). IsShaped (name_of item)) items
  shaped_all [] none = tt
  shaped_all (item ∷ items) none = elim (cases_Bool (has_name_shape (name_of item))) [
    | inl shaped ↦ (shaped, shaped_all items (rw shaped at none))
    | inr bad ↦ let wrong = rw bad at none in cc
  ]

members_shaped : (group : List ℕ) (users : List KnownUser) → AllByRecursion (λ (user : KnownUser). IsShaped user.name) users → AllByRecursion IsShaped (members_in group users)
members_shaped group [] are = tt
members_shaped group (user ∷ users) are = elim (cases_Bool (is_member group user)) [
  | inl is ↦ rw is (are.0, members_shaped group users are.1)
  | inr not_one ↦ rw not_one (members_shaped group users are.1)
]

users_plain : (known : Known) (users : List KnownUser) → AllByRecursion (λ (user : KnownUser). IsShaped user.name) users → AllByRecursion (HasIds known) users
    → AllByRecursion IsPlainUser (map (user_row known) users)
users_plain known [] shaped have = tt
users_plain known (user ∷ users) shaped have = (record { name = shaped.0; uid = have.0.uid; gid = have.0.gid }, users_plain known users shaped.1 have.1)

groups_plain : (users : List KnownUser) (number : ℕ) (groups : List KnownGroup) → AllByRecursion (λ (user : KnownUser). IsShaped user.name) users
    → AllByRecursion (λ (group : KnownGroup). IsShaped group.name) groups → AllByRecursion HasGid groups → AllByRecursion IsPlainGroup (group_rows users number groups)
groups_plain users number [] members shaped have = tt
groups_plain users number (group ∷ groups) members shaped have = (
  record { name = shaped.0; gid = have.0; members = All-from_recursion IsShaped (members_in group.name users) (members_shaped group.name users members) },
  groups_plain users (number + 1) groups members shaped.1 have.1,
)

groups_numbered : (users : List KnownUser) (number : ℕ) (groups : List KnownGroup) → AreNumbered number (group_rows users number groups)
groups_numbered users number [] = tt
groups_numbered users number (group ∷ groups) = (refl, groups_numbered users (number + 1) groups)

groups_counted : (users : List KnownUser) (number : ℕ) (groups : List KnownGroup) → length (group_rows users number groups) ≡ length groups
groups_counted users number [] = refl
groups_counted users number (group ∷ groups) = ap suc (groups_counted users (number + 1) groups)

-- what is wrong with none is neither too many nor badly named
record IsGood (known : Known) : Type 0 where
  few : is_too_many known ≡ false
  names : has_bad_name known ≡ false

is_good : (known : Known) → fault_of known ≡ None → IsGood known
is_good known none = elim (cases_Bool (is_too_many known)) [
  | inl many ↦ let wrong = rw many at none in cc
  | inr few ↦ elim (cases_Bool (has_bad_name known)) [
    | inl bad ↦ let wrong = rw (few, bad) at none in cc
    | inr names ↦ record { few = few; names = names }
  ]
]

pub rows_plain : (known : Known) → fault_of known ≡ None → All (HasIds known) known.users → All HasGid known.groups → ArePlain (rows_of_known known)
rows_plain known none users groups =
    let good = is_good known none in
    let bad_domain = not (has_domain_shape known.domain) in
    let bad_users = list_any (λ (user : KnownUser). not (has_name_shape user.name)) known.users in
    let bad_groups = list_any (λ (group : KnownGroup). not (has_name_shape group.name)) known.groups in
    let names = or_parts (bad_domain || bad_users) bad_groups good.names in
    let shaped = shaped_all (λ (user : KnownUser). user.name) known.users (or_parts bad_domain bad_users names.0).1 in
    let group_names = shaped_all (λ (group : KnownGroup). group.name) known.groups names.1 in
    let many_users = nat_lt MAX_USERS (length known.users) in
    let many_groups = nat_lt MAX_GROUPS (length known.groups) in
    let counts = or_parts (many_users || many_groups) (list_any (λ (user : KnownUser). nat_lt MAX_GROUPS_OF_USER (length user.groups)) known.users) good.few in
    let many = or_parts many_users many_groups counts.0 in
    let few_users : length known.users ≤ MAX_USERS = grind (arith, nat_tests) in
    let few_groups : length known.groups ≤ MAX_GROUPS = grind (arith, nat_tests) in
    record {
      users = All-from_recursion IsPlainUser (map (user_row known) known.users) (users_plain known known.users shaped (recursion_from_All (HasIds known) known.users users));
      groups = All-from_recursion IsPlainGroup (group_rows known.users (length known.users + 1) known.groups)
          (groups_plain known.users (length known.users + 1) known.groups shaped group_names (recursion_from_All HasGid known.groups groups));
      lines = subst (λ (n : ℕ). AreNumbered (n + 1) (group_rows known.users (length known.users + 1) known.groups)) (sym (length-map known.users (user_row known)))
          (groups_numbered known.users (length known.users + 1) known.groups);
      few_users = omega (arith, few_users, length-map known.users (user_row known));
      few_groups = omega (arith, few_groups, groups_counted known.users (length known.users + 1) known.groups);
    }
