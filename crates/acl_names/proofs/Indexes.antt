-- The index of members by their ids.
use Rattle.std.proofs.Common.{◌≡◌, ◌∙◌, ℕ, suc, ◌+◌, ◌<◌, ◌==◌, Bool, true, false, cond, nat_lt, nat_eq, Some}
use Rattle.std.proofs.Common.{None, List, [], ◌∷◌, ◌++◌, ◌||◌, length, get_or, take, refl, sym, ap, arith}
use Rattle.std.proofs.Common.{find, map, option_map, IsPermutation, IsSortedByKey, nat_cmp}
use Rattle.std.specs.List.{list_any, count_by, slice_get, enumerate_from, position_from}
use Rattle.std.proofs.lemmas.Cmp.{nat_cmp_total}
use Rattle.std.proofs.lemmas.List.{length-map, take_more}
use Rattle.std.proofs.lemmas.List.FromFn.{length-enumerate_from}
use Rattle.acl_names.specs.Ascending.{repeats}
use Rattle.acl_names.specs.Named.{ids_with_places, IsIndexOf}
use Rattle.acl_names.proofs.AnyLemmas.{list_any-agree}
use Rattle.acl_names.proofs.AscendingLemmas.{ascending_from_sorted, find-permutation, repeats-permutation}
use Rattle.acl_names.proofs.Counting.{count_by-cons}
use Rattle.acl_names.proofs.Keys.{same_id}

module _ {X : Type 0} (id_of : X → ℕ) where
  -- the ids with places that count from n
  abbrev entries_from : ℕ → List X → List (ℕ × ℕ)
  entries_from n members = map (λ (entry : ℕ × X). (id_of entry.1, entry.0)) (enumerate_from n members)

  abbrev entry_id : ℕ × ℕ → ℕ
  entry_id entry = entry.0

  entries-append : (n : ℕ) (members : List X) (member : X) → entries_from n (members ++ member ∷ []) ≡ entries_from n members ++ (id_of member, n + length members) ∷ []
  entries-append n [] member = ap (λ place. (id_of member, place) ∷ []) (omega arith)
  entries-append n (x ∷ xs) member =
      ap (λ entries. (id_of x, n) ∷ entries) (entries-append (n + 1) xs member)
      ∙ ap (λ place. entries_from n (x ∷ xs) ++ (id_of member, place) ∷ []) (omega arith)

  -- the entries of the members before place i, with the member there
  pub one_more_entry : (members : List X) (i : ℕ) (d : X) (entries : List (ℕ × ℕ)) → i < length members → entries ≡ ids_with_places id_of (take i members)
      → entries ++ (id_of (get_or members i d), length entries) ∷ [] ≡ ids_with_places id_of (take (i + 1) members)
  one_more_entry members i d entries inside are =
      let count : length entries ≡ length (take i members) = ap length are ∙ length-map _ _ ∙ length-enumerate_from 0 (take i members) in
      let place : length entries ≡ 0 + length (take i members) = omega (arith, count) in
      rw (place, are) (sym (entries-append 0 (take i members) (get_or members i d))) ∙ ap (ids_with_places id_of) (sym (take_more members i d inside))

  -- a test of the ids is a test of the members
  list_any-entries : (p : ℕ → Bool) (n : ℕ) (members : List X) → list_any (λ entry. p (entry_id entry)) (entries_from n members) ≡ list_any (λ member. p (id_of member)) members
  list_any-entries p n [] = refl
  list_any-entries p n (x ∷ xs) = ap (λ b. p (id_of x) || b) (list_any-entries p (n + 1) xs)

  count-entries : (id n : ℕ) (members : List X) → count_by (λ entry. entry_id entry == id) (entries_from n members) ≡ count_by (λ member. id_of member == id) members
  count-entries id n [] = refl
  count-entries id n (x ∷ xs) =
      count_by-cons (λ entry. entry_id entry == id) (id_of x, n) (entries_from (n + 1) xs)
      ∙ ap (λ m. cond (id_of x == id) 1 0 + m) (count-entries id (n + 1) xs)
      ∙ sym (count_by-cons (λ member. id_of member == id) x xs)

  -- an id stands twice among the entries if two members have it
  repeats-entries : (n : ℕ) (members : List X) → repeats nat_eq entry_id (entries_from n members) ≡ repeats nat_eq id_of members
  repeats-entries n members =
      list_any-agree (λ entry. nat_lt 1 (count_by (λ other. entry_id other == entry_id entry) (entries_from n members)))
      (λ entry. nat_lt 1 (count_by (λ member. id_of member == entry_id entry) members))
      (λ entry. ap (nat_lt 1) (count-entries (entry_id entry) n members)) (entries_from n members)
      ∙ list_any-entries (λ id. nat_lt 1 (count_by (λ member. id_of member == id) members)) n members

  -- the entry of an id has the place of the first member with it
  place-entries : (id n : ℕ) (members : List X)
      → option_map (λ (entry : ℕ × ℕ). entry.1) (find (λ entry. entry_id entry == id) (entries_from n members)) ≡ position_from (λ member. id_of member == id) n members
  place-entries id n [] = refl
  place-entries id n (x ∷ xs) =
      elim (id_of x == id) as (λ b. option_map (λ (entry : ℕ × ℕ). entry.1) (cond b (Some (id_of x, n)) (find (λ (entry : ℕ × ℕ). entry_id entry == id) (entries_from (n + 1) xs)))
      ≡ cond b (Some n) (position_from (λ (member : X). id_of member == id) (n + 1) xs)) [
        | true ↦ refl
        | false ↦ place-entries id (n + 1) xs
      ]

  -- the entries in the order of their ids are an index, if no two members have one id
  pub index_from_sorted : (members : List X) (index : List (ℕ × ℕ)) → repeats nat_eq id_of members ≡ false
      → IsPermutation (ids_with_places id_of members) index → IsSortedByKey entry_id nat_cmp index → IsIndexOf id_of members index
  index_from_sorted members index distinct moved sorted =
      let once : repeats nat_eq entry_id index ≡ false =
      sym (repeats-permutation nat_cmp nat_cmp_total entry_id nat_eq same_id (entries_from 0 members) index moved) ∙ repeats-entries 0 members ∙ distinct in
      record {
        ascends = ascending_from_sorted nat_cmp nat_cmp_total entry_id nat_eq same_id index sorted once;
        places = λ id.
            ap (option_map (λ (entry : ℕ × ℕ). entry.1)) (sym (find-permutation nat_cmp nat_cmp_total entry_id nat_eq same_id (entries_from 0 members) index id moved once))
            ∙ place-entries id 0 members;
      }

-- the first member that passes stands at the first place that passes
pub record IsPlaceOf {X : Type 0} (p : X → Bool) (n : ℕ) (members : List X) (place : ℕ) : Type 0 where
  pub behind : ℕ
  pub is : place ≡ n + behind
  pub inside : behind < length members
  pub found : find p members ≡ slice_get members behind

pub place_of : {X : Type 0} (p : X → Bool) (n : ℕ) (members : List X) (place : ℕ) → position_from p n members ≡ Some place → IsPlaceOf p n members place
place_of p n [] place is = absurd (cc)
place_of {X} p n (x ∷ xs) place is = go (p x) refl is (place_of p (n + 1) xs place)
  where
    go : (b : Bool) → p x ≡ b → cond b (Some n) (position_from p (n + 1) xs) ≡ Some place
        → (position_from p (n + 1) xs ≡ Some place → IsPlaceOf p (n + 1) xs place) → IsPlaceOf p n (x ∷ xs) place
    go true passes same more =
        let here : n ≡ place = cc in
        record { behind = 0; is = omega arith; inside = omega arith; found = ap (λ b. cond b (Some x) (find p xs)) passes }
    go false fails later more =
        let rest = more later in
        record { behind = suc rest.behind; is = omega (arith, rest.is); inside = omega (arith, rest.inside); found = ap (λ b. cond b (Some x) (find p xs)) fails ∙ rest.found }

pub no_place : {X : Type 0} (p : X → Bool) (n : ℕ) (members : List X) → position_from p n members ≡ None → find p members ≡ None
no_place p n [] is = refl
no_place {X} p n (x ∷ xs) is = go (p x) refl is (no_place p (n + 1) xs)
  where
    go : (b : Bool) → p x ≡ b → cond b (Some n) (position_from p (n + 1) xs) ≡ None
        → (position_from p (n + 1) xs ≡ None → find p xs ≡ None) → find p (x ∷ xs) ≡ None
    go true passes same more = absurd (cc)
    go false fails later more = ap (λ b. cond b (Some x) (find p xs)) fails ∙ more later

-- the place that an index has for an id is that of the first member with it
pub place_found : {X : Type 0} (id_of : X → ℕ) (members : List X) (index : List (ℕ × ℕ)) → IsIndexOf id_of members index → (id place : ℕ)
    → Some place ≡ option_map (λ entry. entry.1) (find (λ entry. entry.0 == id) index) → IsPlaceOf (λ member. id_of member == id) 0 members place
place_found id_of members index is id place found = place_of (λ member. id_of member == id) 0 members place (sym (is.places id) ∙ sym found)

-- and if it has none, no member has the id
pub none_found : {X : Type 0} (id_of : X → ℕ) (members : List X) (index : List (ℕ × ℕ)) → IsIndexOf id_of members index → (id : ℕ)
    → None ≡ option_map (λ entry. entry.1) (find (λ entry. entry.0 == id) index) → find (λ member. id_of member == id) members ≡ None
none_found id_of members index is id none = no_place (λ member. id_of member == id) 0 members (sym (is.places id) ∙ sym none)
