-- The place of the first element that passes.
use Rattle.std.proofs.Common.{◌≡◌, ◌∙◌, ℕ, suc, ◌+◌, ◌<◌, Bool, true, false, cond, nat_lt, ◌==◌, option_map, unwrap_or, Ordering, Some, None}
use Rattle.std.proofs.Common.{Err, inl, inr, List, [], ◌∷◌, drop, length, get_or, refl, sym, ap, arith, nat_cmp, bytes_eq}
use Rattle.std.specs.declared.cmp.Ordering.TheVariants.{Less, Equal, Greater}
use Rattle.std.specs.Cmp.Lexicographic.{slice_cmp}
use Rattle.std.specs.List.{All, HoldsAt, find, position, position_from, position_or_len, slice_get}
use Rattle.std.specs.List.Sorted.{IsBinarySearchResult}
use Rattle.std.specs.Option.{option_and_then}
use Rattle.std.specs.Ordering.{is_eq}
use Rattle.std.proofs.lemmas.Bool.{cases_lt, le-ltb, lt-ltb, false≢true}
use Rattle.std.proofs.lemmas.Bool.Decides.{Decides-eqb}
use Rattle.std.proofs.lemmas.Cmp.{alike_right, nat_list_cmp_total, tied_itself}
use Rattle.std.proofs.lemmas.List.Folds.{find_at}
use Rattle.std.proofs.lemmas.List.Sums.{position_or_len_is}
use Rattle.std.proofs.lemmas.Option.{none-some, slice_get_past, slice_get-get_or}
use Rattle.std.proofs.Math.Seq.{drop-cons}
use Rattle.std.proofs.lemmas.List.{get_or_default}
use Rattle.acl_names.specs.Ascending.{IsAscending}
use Rattle.acl_names.proofs.AscendingLemmas.{Contains-find, first_or_none, searchable}
use Rattle.acl_names.proofs.Keys.{same_name}
use Rattle.acl_accounts.specs.Accounts.{KnownAccount, KnownAccountGroup, KnownAccounts, AreInOrder, gid_of, uid_of}

-- what is found stands at that place
pub find_in_place : {X : Type 0} (p : X → Bool) (xs : List X) → find p xs ≡ option_and_then (slice_get xs) (position p xs)
find_in_place {X} p xs =
    let at = position_or_len p xs in
    find_at p xs ∙ elim (cases_lt at (length xs)) [
      | inl inside ↦ sym (ap (λ b. option_and_then (slice_get xs) (cond b (Some at) None)) (lt-ltb at (length xs) inside))
      | inr past ↦ slice_get_past xs at past ∙ sym (ap (λ b. option_and_then (slice_get xs) (cond b (Some at) None)) (le-ltb at (length xs) past))
    ]

-- a list with a place has an element
pub element : {X : Type 0} (xs : List X) (k : ℕ) → k < length xs → X
element [] k inside = absurd (omega arith)
element (x ∷ xs) k inside = x

-- a place before which none passes
pub position_here : {X : Type 0} (p : X → Bool) (xs : List X) (at : ℕ) → at < length xs → HoldsAt (λ x. p x ≡ true) xs at
    → ((k : ℕ) (d : X) → k < at → p (get_or xs k d) ≡ false) → position p xs ≡ Some at
position_here p xs at inside here before =
    let d = element xs at inside in
    let is : position_or_len p xs ≡ at = position_or_len_is p xs at d (omega arith) (λ k earlier. before k d earlier) (λ _. here d) in
    ap (λ n. cond (nat_lt n (length xs)) (Some n) None) is ∙ ap (λ b. cond b (Some at) None) (lt-ltb at (length xs) inside)

pub position_nowhere : {X : Type 0} (p : X → Bool) (xs : List X) → All (λ x. p x ≡ false) xs → position p xs ≡ None
position_nowhere p [] none = refl
position_nowhere {X} p (x ∷ xs) none =
    let all : List X = x ∷ xs in
    let is : position_or_len p all ≡ length all = position_or_len_is p all (length all) x (omega arith) (λ k inside. none k x inside) (λ past. absurd (omega (arith, past))) in
    ap (λ n. cond (nat_lt n (length all)) (Some n) None) is ∙ ap (λ b. cond b (Some (length all)) None) (le-ltb (length all) (length all) (omega arith))

-- what is found passes
found_passes : {X : Type 0} (p : X → Bool) (xs : List X) (x : X) → find p xs ≡ Some x → p x ≡ true
found_passes p xs x found =
    elim (first_or_none p xs) [
      | inl (y, (is, passes)) ↦ ap p (ap (λ o. unwrap_or o x) (sym found ∙ is)) ∙ passes
      | inr (none, all) ↦ absurd (none-some x (sym none ∙ found))
    ]

-- from a place on: the element there, or one behind it
pub position_step : {X : Type 0} (p : X → Bool) (xs : List X) (at : ℕ) (x : X) → at < length xs → get_or xs at x ≡ x
    → position_from p at (drop at xs) ≡ cond (p x) (Some at) (position_from p (at + 1) (drop (at + 1) xs))
position_step {X} p xs at x inside is =
    let next : suc at ≡ at + 1 = omega arith in
    ap (position_from p at) (drop-cons xs at x inside)
    ∙ ap (λ y. cond (p y) (Some at) (position_from p (at + 1) (drop (suc at) xs))) is
    ∙ ap (λ n. cond (p x) (Some at) (position_from p (at + 1) (drop n xs))) next

module _ {X : Type 0} (name_of : X → List ℕ) (xs : List X) (name : List ℕ) (ascends : IsAscending (slice_cmp nat_cmp) name_of xs) where
  is_equal : (o : Ordering) → is_eq o ≡ true → o ≡ Equal
  is_equal Less is = absurd (false≢true is)
  is_equal Equal is = refl
  is_equal Greater is = absurd (false≢true is)

  -- of members in the order of their names, whoever has the name is the first who has it
  pub place_of_one : (at : ℕ) → at < length xs → HoldsAt (λ x. bytes_eq (name_of x) name ≡ true) xs at
      → position (λ x. bytes_eq (name_of x) name) xs ≡ Some at
  place_of_one at inside here =
      position_here (λ x. bytes_eq (name_of x) name) xs at inside here (λ k d earlier.
      let one = name_of (get_or xs at d) in
      let other = name_of (get_or xs k d) in
      let is : slice_cmp nat_cmp one name ≡ Equal = is_equal (slice_cmp nat_cmp one name) (sym (same_name one name) ∙ here d) in
      let less : slice_cmp nat_cmp other name ≡ Less = sym (alike_right nat_list_cmp_total one name other is) ∙ ascends k at d earlier inside in
      same_name other name ∙ ap is_eq less)

  pub place_searched : (at : ℕ) → at < length xs → HoldsAt (λ x. slice_cmp nat_cmp (name_of x) name ≡ Equal) xs at
      → position (λ x. bytes_eq (name_of x) name) xs ≡ Some at
  place_searched at inside here =
      place_of_one at inside (λ d. same_name (name_of (get_or xs at d)) name ∙ ap is_eq (here d))

  -- whoever is found is found again by the name
  pub found_by_name : (p : X → Bool) (x : X) → find p xs ≡ Some x → name_of x ≡ name
      → find (λ y. bytes_eq (name_of y) name) xs ≡ Some x
  found_by_name p x found named =
      let there = Contains-find p xs x found in
      let same : bytes_eq (name_of x) name ≡ true = ap (bytes_eq (name_of x)) (sym named) ∙ same_name (name_of x) (name_of x) ∙ ap is_eq (tied_itself nat_list_cmp_total (name_of x)) in
      find_in_place (λ y. bytes_eq (name_of y) name) xs
      ∙ ap (option_and_then (slice_get xs)) (place_of_one there.0 there.1 (λ d. ap (λ y. bytes_eq (name_of y) name) (get_or_default xs there.0 d x there.1 ∙ there.2) ∙ same))
      ∙ slice_get-get_or xs there.0 x there.1 ∙ ap Some there.2

  -- and if a binary search finds nothing, nobody has it
  pub place_absent : (at : ℕ) → IsBinarySearchResult (λ x. slice_cmp nat_cmp (name_of x) name) xs (Err at)
      → position (λ x. bytes_eq (name_of x) name) xs ≡ None
  place_absent at searched =
      let parted = searched (searchable (slice_cmp nat_cmp) nat_list_cmp_total name_of xs name ascends) in
      position_nowhere (λ x. bytes_eq (name_of x) name) xs (λ k d inside.
      same_name (name_of (get_or xs k d)) name ∙ elim (cases_lt k at) [
        | inl below ↦ ap is_eq (parted.0 k d (omega arith) below)
        | inr above ↦ ap is_eq (parted.1 k d above inside)
      ])

-- the name of an id is that of the id
pub uid_again : (accounts : KnownAccounts) → AreInOrder accounts → (uid : ℕ) (user : KnownAccount)
    → find (λ (one : KnownAccount). one.uid == uid) accounts.users ≡ Some user → uid_of accounts user.name ≡ Some uid
uid_again accounts ordered uid user found =
    ap (option_map (λ (one : KnownAccount). one.uid)) (found_by_name (λ (one : KnownAccount). one.name) accounts.users user.name ordered.users (λ one. one.uid == uid) user found refl)
    ∙ ap Some ((Decides-eqb user.uid uid).0 (found_passes (λ (one : KnownAccount). one.uid == uid) accounts.users user found))

pub gid_again : (accounts : KnownAccounts) → AreInOrder accounts → (gid : ℕ) (group : KnownAccountGroup)
    → find (λ (one : KnownAccountGroup). one.gid == gid) accounts.groups ≡ Some group → gid_of accounts group.name ≡ Some gid
gid_again accounts ordered gid group found =
    ap (option_map (λ (one : KnownAccountGroup). one.gid)) (found_by_name (λ (one : KnownAccountGroup). one.name) accounts.groups group.name ordered.groups (λ one. one.gid == gid) group found refl)
    ∙ ap Some ((Decides-eqb group.gid gid).0 (found_passes (λ (one : KnownAccountGroup). one.gid == gid) accounts.groups group found))
