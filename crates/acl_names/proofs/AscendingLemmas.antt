-- What is found in a list that ascends by its keys, and which sorted lists ascend.
use Rattle.std.proofs.Common.{◌≡◌, ◌∙◌, ◌⊎◌, ℕ, zero, suc, ◌+◌, ◌<◌, ◌≤◌, Bool, true, false, cond, not}
use Rattle.std.proofs.Common.{nat_lt, Ordering, Some, None, Err, List, [], ◌∷◌, length, get_or, IsTrue, refl}
use Rattle.std.proofs.Common.{sym, subst, ap, arith, inl, inr}
use Rattle.std.specs.declared.cmp.Ordering.TheVariants.{Less, Equal, Greater}
use Rattle.std.specs.Cmp.{IsTotalOrder, Equal-is}
use Rattle.std.specs.List.{list_any, count_by, find, slice_get, All, Contains, HoldsAt, IsAllAdjacentAnswer}
use Rattle.std.specs.List.Sorted.{IsPermutation, IsSortedByKey, IsNonDecreasingBy, IsBinarySearchResult}
use Rattle.std.specs.Ordering.{is_eq, is_lt, ordering_index, ordering_reverse}
use Rattle.std.proofs.lemmas.Bool.{cases_Bool, cases_lt, both_ways, or_parts, le-ltb, lt-ltb, false≢true, true≢false}
use Rattle.std.proofs.lemmas.Bool.Decides.{nat_tests}
use Rattle.std.proofs.lemmas.Cmp.{alike_right, tied_back, tied_itself}
use Rattle.std.proofs.lemmas.List.Folds.{list_any_none}
use Rattle.std.proofs.lemmas.List.Sorted.{sorted_far, ranks_by, searchable_from_sorted, sum_by-IsPermutation, list_any-IsPermutation, All-permutation, Contains-permutation}
use Rattle.std.proofs.lemmas.List.{get_or_default}
use Rattle.std.proofs.lemmas.Option.{slice_get-get_or, none-some}
use Rattle.acl_names.specs.Ascending.{repeats, IsAscending}
use Rattle.acl_names.proofs.AnyLemmas.{list_any-agree}
use Rattle.acl_names.proofs.Counting.{count_by-cons, list_any-count_by, two_counted}

-- the element at the first place that passes is found
pub find-first : {X : Type 0} (p : X → Bool) (xs : List X) (at : ℕ) → at < length xs → HoldsAt (λ y. p y ≡ true) xs at
    → ((k : ℕ) (d : X) → k < at → p (get_or xs k d) ≡ false) → find p xs ≡ slice_get xs at
find-first p [] at inside here before = absurd (omega arith)
find-first p (x ∷ xs) zero inside here before = ap (λ b. cond b (Some x) (find p xs)) (here x)
find-first p (x ∷ xs) (suc at) inside here before =
    ap (λ b. cond b (Some x) (find p xs)) (before zero x (omega arith))
    ∙ find-first p xs at (omega arith) here (λ k d earlier. before (suc k) d (omega arith))

-- nothing is found if nothing passes
pub find-none : {X : Type 0} (p : X → Bool) (xs : List X) → ((k : ℕ) (d : X) → k < length xs → p (get_or xs k d) ≡ false) → find p xs ≡ None
find-none p [] none = refl
find-none p (x ∷ xs) none =
    ap (λ b. cond b (Some x) (find p xs)) (none zero x (omega arith))
    ∙ find-none p xs (λ k d inside. none (suc k) d (omega arith))

-- no element passes
pub any_false : {X : Type 0} (xs : List X) (p : X → Bool) → list_any p xs ≡ false → (k : ℕ) (d : X) → k < length xs → p (get_or xs k d) ≡ false
any_false [] p none k d inside = absurd (omega arith)
any_false (x ∷ xs) p none zero d inside = (or_parts (p x) (list_any p xs) none).0
any_false (x ∷ xs) p none (suc k) d inside = any_false xs p (or_parts (p x) (list_any p xs) none).1 k d (omega arith)

-- some element of a list that is longer than a place
element : {X : Type 0} (xs : List X) (k : ℕ) → k + 1 < length xs → X
element [] k inside = absurd (omega arith)
element (x ∷ xs) k inside = x

-- what is found passes and stands in the list; else none passes
pub first_or_none : {X : Type 0} (p : X → Bool) (xs : List X)
    → ((x : X) × ((find p xs ≡ Some x) × (p x ≡ true))) ⊎ ((find p xs ≡ None) × All (λ x. p x ≡ false) xs)
first_or_none p [] = inr (refl, λ k d inside. absurd (omega arith))
first_or_none {X} p (x ∷ xs) =
    elim (cases_Bool (p x)) [
      | inl passes ↦ inl (x, (ap (λ b. cond b (Some x) (find p xs)) passes, passes))
      | inr fails ↦
          let later : find p (x ∷ xs) ≡ find p xs = ap (λ b. cond b (Some x) (find p xs)) fails in
          elim (first_or_none p xs) [
            | inl (y, (found, passes)) ↦ inl (y, (later ∙ found, passes))
            | inr none ↦ inr (later ∙ none.0, none_of fails none.1)
          ]
    ]
  where
    none_of : p x ≡ false → All (λ y. p y ≡ false) xs → (k : ℕ) (d : X) → k < length (x ∷ xs) → p (get_or (x ∷ xs) k d) ≡ false
    none_of fails rest zero d inside = fails
    none_of fails rest (suc k) d inside = rest k d (omega arith)

pub Contains-find : {X : Type 0} (p : X → Bool) (xs : List X) (x : X) → find p xs ≡ Some x → Contains xs x
Contains-find p [] x found = absurd (none-some x found)
Contains-find p (y ∷ ys) x found =
    elim (cases_Bool (p y)) [
      | inl passes ↦
          let same : Some y ≡ Some x = sym (ap (λ b. cond b (Some y) (find p ys)) passes) ∙ found in
          (0, omega arith, cc)
      | inr fails ↦
          let rest = Contains-find p ys x (sym (ap (λ b. cond b (Some y) (find p ys)) fails) ∙ found) in
          (suc rest.0, omega (arith, rest.1), rest.2)
    ]

module _ {X K : Type 0} (R : K → K → Ordering) (total : IsTotalOrder R) (key : X → K) where
  reversed : (a b : X) → R (key a) (key b) ≡ Less → R (key b) (key a) ≡ Greater
  reversed a b below = total.antisymm (key b) (key a) ∙ ap ordering_reverse below

  -- a list that ascends is sorted
  pub sorted_from_ascending : (xs : List X) → IsAscending R key xs → IsSortedByKey key R xs
  sorted_from_ascending xs ascends = λ k d low high. ap is_lt (reversed _ _ (ascends k (k + 1) d (omega arith) high))

  -- what a binary search for the key asks
  pub searchable : (xs : List X) (q : K) → IsAscending R key xs → IsNonDecreasingBy (λ x. ordering_index (R (key x) q)) xs
  searchable xs q ascends = searchable_from_sorted total key xs q (sorted_from_ascending xs ascends)

  -- in a list that ascends no key is counted twice
  ascending_once : (xs : List X) → IsAscending R key xs → (q : K) → count_by (λ x. is_eq (R (key x) q)) xs ≤ 1
  ascending_once [] ascends q = omega arith
  ascending_once (x ∷ xs) ascends q =
      let has : X → Bool = λ y. is_eq (R (key y) q) in
      let counts : count_by has (x ∷ xs) ≡ cond (has x) 1 0 + count_by has xs = count_by-cons has x xs in
      elim (cases_order (R (key x) q)) [
        | inl equal ↦
            let later : list_any has xs ≡ false =
            list_any_none has xs (λ k d inside.
            ap is_eq (sym (alike_right total _ q _ equal) ∙ reversed x _ (ascends zero (suc k) d (omega arith) (omega arith)))) in
            let none : nat_lt 0 (count_by has xs) ≡ false = sym (list_any-count_by has xs) ∙ later in
            let zero_more : count_by has xs ≤ 0 = grind (arith, nat_tests, none) in
            let one : cond {A = ℕ} (has x) 1 0 ≡ 1 = ap (λ o. cond {A = ℕ} (is_eq o) 1 0) equal in
            omega arith
        | inr other ↦
            let most = ascending_once xs (λ i j d before inside. ascends (suc i) (suc j) d (omega arith) (omega arith)) q in
            let none : cond {A = ℕ} (has x) 1 0 ≡ 0 = ap (λ b. cond {A = ℕ} b 1 0) other in
            omega arith
      ]
    where
      cases_order : (o : Ordering) → (o ≡ Equal) ⊎ (is_eq o ≡ false)
      cases_order Less = inr refl
      cases_order Equal = inl refl
      cases_order Greater = inr refl

  -- of two keys the first is below the second, if it isn't above it and they aren't tied
  below : (a b : K) (o : Ordering) → R a b ≡ o → is_lt (R b a) ≡ false → (R a b ≡ Equal → ⊥) → R a b ≡ Less
  below a b Less is far apart = is
  below a b Equal is far apart = absurd (apart is)
  below a b Greater is far apart = absurd (both_ways _ far (ap is_lt (total.antisymm b a ∙ ap ordering_reverse is)))

  module _ (same : K → K → Bool) (is_same : (a b : K) → same a b ≡ is_eq (R a b)) where
    count-same : (xs : List X) (q : K) → count_by (λ y. same (key y) q) xs ≡ count_by (λ y. is_eq (R (key y) q)) xs
    count-same [] q = refl
    count-same (x ∷ xs) q =
        count_by-cons (λ y. same (key y) q) x xs
        ∙ ap (λ b. cond b 1 0 + count_by (λ y. same (key y) q) xs) (is_same (key x) q)
        ∙ ap (λ n. cond (is_eq (R (key x) q)) 1 0 + n) (count-same xs q)
        ∙ sym (count_by-cons (λ y. is_eq (R (key y) q)) x xs)

    -- in a list that ascends no key stands twice
    pub repeats-ascending : (xs : List X) → IsAscending R key xs → repeats same key xs ≡ false
    repeats-ascending xs ascends =
        list_any_none (λ x. nat_lt 1 (count_by (λ y. same (key y) (key x)) xs)) xs (λ k d inside.
        le-ltb 1 _ (rw (count-same xs (key (get_or xs k d))) (ascending_once xs ascends (key (get_or xs k d)))))

    -- if no key stands twice, whoever has the key is found
    pub find-distinct : (xs : List X) (q : K) → repeats same key xs ≡ false → (at : ℕ) → at < length xs → HoldsAt (λ x. same (key x) q ≡ true) xs at
        → find (λ x. same (key x) q) xs ≡ slice_get xs at
    find-distinct xs q once at inside here =
        find-first (λ x. same (key x) q) xs at inside here (λ k d before.
        elim (cases_Bool (same (key (get_or xs k d)) q)) [
          | inl also ↦
              let a = key (get_or xs at d) in
              let b = key (get_or xs k d) in
              let a_is : R a q ≡ Equal = (Equal-is (R a q)).0 (sym (is_same a q) ∙ here d) in
              let b_is : R b q ≡ Equal = (Equal-is (R b q)).0 (sym (is_same b q) ∙ also) in
              let tied : R b a ≡ Equal = alike_right total a q b a_is ∙ b_is in
              let first : same b a ≡ true = is_same b a ∙ ap is_eq tied in
              let second : same a a ≡ true = is_same a a ∙ ap is_eq (tied_itself total a) in
              let twice : 1 < count_by (λ y. same (key y) a) xs = two_counted (λ y. same (key y) a) xs k at d before inside first second in
              absurd (both_ways _ (any_false xs (λ x. nat_lt 1 (count_by (λ y. same (key y) (key x)) xs)) once at d inside) (lt-ltb 1 _ twice))
          | inr other ↦ other
        ])

    -- if no key stands twice, what is found by a key does not depend on the order
    pub find-permutation : (xs ys : List X) (q : K) → IsPermutation xs ys → repeats same key ys ≡ false
        → find (λ x. same (key x) q) xs ≡ find (λ x. same (key x) q) ys
    find-permutation xs ys q moved once =
        elim (first_or_none (λ x. same (key x) q) xs) [
          | inl (x, (found, passes)) ↦
              let there : Contains ys x = Contains-permutation xs ys x moved (Contains-find (λ y. same (key y) q) xs x found) in
              let here : HoldsAt (λ y. same (key y) q ≡ true) ys there.0 =
              λ d. ap (λ y. same (key y) q) (get_or_default ys there.0 d x there.1 ∙ there.2) ∙ passes in
              found ∙ sym (find-distinct ys q once there.0 there.1 here ∙ slice_get-get_or ys there.0 x there.1 ∙ ap Some there.2)
          | inr none ↦
              none.0 ∙ sym (find-none (λ x. same (key x) q) ys
              (All-permutation (λ x. same (key x) q ≡ false) xs ys moved none.1))
        ]

    -- what a binary search finds is the one with the key
    pub find-searched : (xs : List X) (q : K) → IsAscending R key xs → (at : ℕ) → at < length xs → HoldsAt (λ x. R (key x) q ≡ Equal) xs at
        → find (λ x. same (key x) q) xs ≡ slice_get xs at
    find-searched xs q ascends at inside here =
        find-distinct xs q (repeats-ascending xs ascends) at inside (λ d. is_same _ _ ∙ ap is_eq (here d))

    -- and if it finds nothing, nobody has the key
    pub find-absent : (xs : List X) (q : K) → IsAscending R key xs → (at : ℕ) → IsBinarySearchResult (λ x. R (key x) q) xs (Err at)
        → find (λ x. same (key x) q) xs ≡ None
    find-absent xs q ascends at searched =
        let parted = searched (searchable xs q ascends) in
        find-none (λ x. same (key x) q) xs (λ k d inside.
        is_same _ _ ∙ elim (cases_lt k at) [
          | inl below ↦ ap is_eq (parted.0 k d (omega arith) below)
          | inr above ↦ ap is_eq (parted.1 k d above inside)
        ])

    -- a sorted list in which no key stands twice ascends
    pub ascending_from_sorted : (xs : List X) → IsSortedByKey key R xs → repeats same key xs ≡ false → IsAscending R key xs
    ascending_from_sorted xs sorted once = λ i j d before inside.
        let a = get_or xs i d in
        let b = get_or xs j d in
        let far : is_lt (R (key b) (key a)) ≡ false =
        sorted_far (λ (x y : X). is_lt (R (key x) (key y))) (ranks_by total key) xs sorted i j d (omega arith) inside in
        let apart : R (key a) (key b) ≡ Equal → ⊥ = λ equal.
        let itself : same (key a) (key a) ≡ true = is_same (key a) (key a) ∙ ap is_eq (tied_itself total (key a)) in
        let other : same (key b) (key a) ≡ true = is_same (key b) (key a) ∙ ap is_eq (tied_back total (key a) (key b) equal) in
        let twice : 1 < count_by (λ y. same (key y) (key a)) xs =
        two_counted (λ y. same (key y) (key a)) xs i j d before inside itself other in
        both_ways _ (any_false xs (λ x. nat_lt 1 (count_by (λ y. same (key y) (key x)) xs)) once i d (omega arith)) (lt-ltb 1 _ twice) in
        below (key a) (key b) (R (key a) (key b)) refl far apart

    -- whether a key stands twice does not depend on the order
    pub repeats-permutation : (xs ys : List X) → IsPermutation xs ys → repeats same key xs ≡ repeats same key ys
    repeats-permutation xs ys moved =
        list_any-IsPermutation (λ x. nat_lt 1 (count_by (λ y. same (key y) (key x)) xs)) xs ys moved
        ∙ list_any-agree (λ x. nat_lt 1 (count_by (λ y. same (key y) (key x)) xs)) (λ x. nat_lt 1 (count_by (λ y. same (key y) (key x)) ys))
        (λ x. ap (nat_lt 1) (sym (sum_by-IsPermutation (λ y. cond (same (key y) (key x)) 1 0) xs ys moved))) ys

  below_trans : (a b c : K) → R a b ≡ Less → R b c ≡ Less → R a c ≡ Less
  below_trans a b c = total.trans a b c

  -- a list in which each member is below the next ascends
  pub ascending_from_next : (xs : List X)
      → ((k : ℕ) (d : X) → k + 1 < length xs → R (key (get_or xs k d)) (key (get_or xs (k + 1) d)) ≡ Less) → IsAscending R key xs
  ascending_from_next xs next = far
    where
      far : (i j : ℕ) (d : X) → i < j → j < length xs → R (key (get_or xs i d)) (key (get_or xs j d)) ≡ Less
      far i zero d before inside = absurd (omega arith)
      far i (suc k) d before inside =
          let here : R (key (get_or xs k d)) (key (get_or xs (suc k) d)) ≡ Less =
          let up : k + 1 ≡ suc k = omega arith in
          subst (λ n. R (key (get_or xs k d)) (key (get_or xs n d)) ≡ Less) up (next k d (omega arith)) in
          elim (cases_lt i k) [
            | inl below ↦ below_trans _ _ _ (far i k d below (omega arith)) here
            | inr level ↦ let same : i ≡ k = omega arith in rw same here
          ]

  is_less : (o : Ordering) → true ≡ is_lt o → o ≡ Less
  is_less Less e = refl
  is_less Equal e = absurd (true≢false e)
  is_less Greater e = absurd (true≢false e)

  -- what the test of each member and the next answers
  pub ascending_from_answer : (xs : List X) (r : Bool) → IsAllAdjacentAnswer (λ (x y : X) b. b ≡ is_lt (R (key x) (key y))) xs r
      → (IsTrue r → IsAscending R key xs) × (IsAscending R key xs → IsTrue r)
  ascending_from_answer xs true next =
      let to : IsTrue true → IsAscending R key xs = λ is. ascending_from_next xs (λ k d inside. is_less _ (next k d inside)) in
      let from : IsAscending R key xs → IsTrue true = λ is. refl in
      (to, from)
  ascending_from_answer xs false (k, inside, differs) =
      let to : IsTrue false → IsAscending R key xs = λ is. absurd (false≢true is) in
      let from : IsAscending R key xs → IsTrue false =
      λ ascends. absurd (false≢true (differs (element xs k inside) ∙ ap is_lt (ascends k (k + 1) (element xs k inside) (omega arith) inside))) in
      (to, from)

  -- whether a sorted list has no key twice, by whether it ascends
  pub distinct_from_ascending : (same : K → K → Bool) → ((a b : K) → same a b ≡ is_eq (R a b)) → (xs : List X) (r : Bool) → IsSortedByKey key R xs
      → (IsTrue r → IsAscending R key xs) × (IsAscending R key xs → IsTrue r) → r ≡ not (repeats same key xs)
  distinct_from_ascending same is_same xs r sorted ascends = go r (repeats same key xs) refl ascends
    where
      go : (r twice : Bool) → repeats same key xs ≡ twice → (IsTrue r → IsAscending R key xs) × (IsAscending R key xs → IsTrue r) → r ≡ not twice
      go true true is parts = absurd (both_ways _ (repeats-ascending same is_same xs (parts.0 refl)) is)
      go true false is parts = refl
      go false true is parts = refl
      go false false is parts = absurd (false≢true (parts.1 (ascending_from_sorted same is_same xs sorted is)))

  -- the same by what the test of each member and the next answers
  pub distinct_from_answer : (same : K → K → Bool) → ((a b : K) → same a b ≡ is_eq (R a b)) → (xs : List X) (r : Bool) → IsSortedByKey key R xs
      → IsAllAdjacentAnswer (λ (x y : X) b. b ≡ is_lt (R (key x) (key y))) xs r → r ≡ not (repeats same key xs)
  distinct_from_answer same is_same xs r sorted answer =
      distinct_from_ascending same is_same xs r sorted (ascending_from_answer xs r answer)
