-- The accounts that rows make.
use Rattle.std.proofs.Common.{◌≡◌, ◌∙◌, ℕ, ◌<◌, Bool, true, false, cond, Ordering, Option, Some, None, List, [], ◌∷◌, length, map, filter}
use Rattle.std.proofs.Common.{get_or, refl, sym, ap, arith, bytes_eq, option_map}
use Rattle.std.specs.declared.cmp.Ordering.TheVariants.{Less}
use Rattle.std.specs.List.{find}
use Rattle.std.proofs.Math.ListN.{get_or-map}
use Rattle.std.proofs.lemmas.List.{length-map, get_or_default}
use Rattle.acl_names.specs.Ascending.{IsAscending}
use Rattle.acl_names.specs.Requester.{Identity}
use Rattle.acl_accounts.specs.Accounts.{KnownAccount, KnownAccountGroup, Membership, each_once, account_of, group_of, memberships_of}
use Rattle.acl_accounts.specs.Accounts.{requester_of, requester_with}
use Rattle.acl_accounts.specs.Firsts.{AreFirsts}
use Rattle.acl_accounts.specs.Rows as text
use Rattle.acl_accounts.specs.Views.{view_group, view_user}
use Rattle.acl_accounts.specs.declared.rows.GroupRow.{GroupRow}
use Rattle.acl_accounts.specs.declared.rows.UserRow.{UserRow}
use Rattle.acl_accounts.proofs.PlaceLemmas.{element}

pub ascends-map : {X Y K : Type 0} (R : K → K → Ordering) (key : Y → K) (f : X → Y) (xs : List X) → IsAscending R (λ x. key (f x)) xs → IsAscending R key (map f xs)
ascends-map {X} {Y} R key f xs ascends = λ i j d before inside.
    let within : j < length xs = omega (arith, inside, length-map xs f) in
    go i j d (element xs j within) before inside within
  where
    go : (i j : ℕ) (d : Y) (e : X) → i < j → j < length (map f xs) → j < length xs → R (key (get_or (map f xs) i d)) (key (get_or (map f xs) j d)) ≡ Less
    go i j d e before inside within =
        let at_i : get_or (map f xs) i d ≡ f (get_or xs i e) = get_or_default (map f xs) i d (f e) (omega arith) ∙ get_or-map f xs i e in
        let at_j : get_or (map f xs) j d ≡ f (get_or xs j e) = get_or_default (map f xs) j d (f e) inside ∙ get_or-map f xs j e in
        rw (at_i, at_j) (ascends i j e before within)

pub find-map : {X Y : Type 0} (f : X → Y) (p : Y → Bool) (xs : List X) → find p (map f xs) ≡ option_map f (find (λ x. p (f x)) xs)
find-map f p [] = refl
find-map {X} {Y} f p (x ∷ xs) = go (p (f x)) (find-map f p xs)
  where
    go : (b : Bool) → find p (map f xs) ≡ option_map f (find (λ y. p (f y)) xs) → cond b (Some (f x)) (find p (map f xs)) ≡ option_map f (cond b (Some x) (find (λ y. p (f y)) xs))
    go true rest = refl
    go false rest = rest

pub map_twice : {X Y Z : Type 0} (f : X → Y) (g : Y → Z) (o : Option X) → option_map (λ x. g (f x)) o ≡ option_map g (option_map f o)
map_twice f g None = refl
map_twice f g (Some x) = refl

-- the users, by those of their rows that stand first
pub users_found : (rows firsts : List UserRow) → AreFirsts (λ (row : UserRow). row.name.now) rows firsts
    → (name : List ℕ) → find (λ (user : KnownAccount). bytes_eq user.name name) (map (λ (row : UserRow). account_of (view_user row)) firsts)
    ≡ option_map account_of (find (λ (row : text.UserRow). bytes_eq row.name name) (map view_user rows))
users_found rows firsts are name =
    let has : UserRow → Bool = λ row. bytes_eq row.name.now name in
    find-map (λ (row : UserRow). account_of (view_user row)) (λ (user : KnownAccount). bytes_eq user.name name) firsts
    ∙ ap (option_map (λ (row : UserRow). account_of (view_user row))) (are.found name)
    ∙ map_twice view_user account_of (find has rows)
    ∙ ap (option_map account_of) (sym (find-map view_user (λ (row : text.UserRow). bytes_eq row.name name) rows))

-- the groups, by those of their rows that stand first
pub groups_found : (rows firsts : List GroupRow) → AreFirsts (λ (row : GroupRow). row.name.now) rows firsts
    → (name : List ℕ) → find (λ (group : KnownAccountGroup). bytes_eq group.name name) (map (λ (row : GroupRow). group_of (view_group row)) firsts)
    ≡ option_map group_of (find (λ (row : text.GroupRow). bytes_eq row.name name) (map view_group rows))
groups_found rows firsts are name =
    let has : GroupRow → Bool = λ row. bytes_eq row.name.now name in
    find-map (λ (row : GroupRow). group_of (view_group row)) (λ (group : KnownAccountGroup). bytes_eq group.name name) firsts
    ∙ ap (option_map (λ (row : GroupRow). group_of (view_group row))) (are.found name)
    ∙ map_twice view_group group_of (find has rows)
    ∙ ap (option_map group_of) (sym (find-map view_group (λ (row : text.GroupRow). bytes_eq row.name name) rows))

-- those who ask, with the groups that each is a member of
pub requesters_asked : (groups : List text.GroupRow) (members : List Membership)
    → ((name : List ℕ) → filter (λ (member : Membership). bytes_eq member.name name) members ≡ filter (λ (member : Membership). bytes_eq member.name name) (memberships_of groups))
    → (users : List KnownAccount) → map (requester_with members) users ≡ map (requester_of groups) users
requesters_asked groups members same [] = refl
requesters_asked groups members same (user ∷ users) =
    ap (λ ms. requester user (map (λ (member : Membership). member.gid) ms) ∷ map (requester_with members) users) (same user.name)
    ∙ ap (λ more. requester_of groups user ∷ more) (requesters_asked groups members same users)
  where
    requester : KnownAccount → List ℕ → Identity
    requester one gids = record { uid = one.uid; gids = each_once (one.gid ∷ gids) }

pub uids_asked : (members : List Membership) (users : List KnownAccount)
    → map (λ (who : Identity). who.uid) (map (requester_with members) users) ≡ map (λ (user : KnownAccount). user.uid) users
uids_asked members [] = refl
uids_asked members (user ∷ users) = ap (λ uids. user.uid ∷ uids) (uids_asked members users)
