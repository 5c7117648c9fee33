-- A sort by names keeps the members of each name in their order.
use Rattle.std.proofs.Common.{◌≡◌, ◌∙◌, ℕ, suc, Bool, true, false, cond, not, ◌&&◌}
use Rattle.std.proofs.Common.{Ordering, Result, Ok, Err, OnOk, Some, List, [], ◌∷◌, map, filter, refl}
use Rattle.std.proofs.Common.{sym, ap, arith, inl, inr, nat_cmp, bytes_eq}
use Rattle.std.specs.declared.cmp.Ordering.TheVariants.{Less, Equal, Greater}
use Rattle.std.specs.List.{find, All}
use Rattle.std.specs.List.Sorted.{IsPermutation, IsStableBy, ties}
use Rattle.std.specs.Ordering.{is_eq, is_lt, ordering_reverse}
use Rattle.std.specs.Cmp.Lexicographic.{slice_cmp, bytes_decides}
use Rattle.std.proofs.lemmas.Cmp.{nat_list_cmp_total}
use Rattle.std.proofs.lemmas.List.Elements.{filter_agree}
use Rattle.std.proofs.lemmas.List.Sorted.{All-permutation}
use Rattle.acl_names.specs.Directory.{first_of}
use Rattle.acl_names.proofs.AscendingLemmas.{first_or_none}
use Rattle.acl_names.proofs.Keys.{same_name}

pub on_ok : {T E A B : Type 0} (r : Result T E) → OnOk r A → (A → B) → OnOk r B
on_ok (Ok x) a f = f a
on_ok (Err e) a f = a

pub filter_none : {X : Type 0} (p : X → Bool) (xs : List X) → All (λ x. p x ≡ false) xs → filter p xs ≡ []
filter_none p [] none = refl
filter_none p (x ∷ xs) none =
    ap (λ b. cond b (x ∷ filter p xs) (filter p xs)) (none 0 x (omega arith)) ∙ filter_none p xs (λ k d inside. none (suc k) d (omega arith))

pub filter_every : {X : Type 0} (p : X → Bool) (xs : List X) → All (λ x. p x ≡ true) xs → filter p xs ≡ xs
filter_every p [] every = refl
filter_every p (x ∷ xs) every =
    ap (λ b. cond b (x ∷ filter p xs) (filter p xs)) (every 0 x (omega arith)) ∙ ap (λ ys. x ∷ ys) (filter_every p xs (λ k d inside. every (suc k) d (omega arith)))

-- what is found is the first of those that are kept
pub find-filter : {X : Type 0} (p : X → Bool) (xs : List X) → find p xs ≡ first_of (filter p xs)
find-filter p [] = refl
find-filter {X} p (x ∷ xs) = go (p x) (find-filter p xs)
  where
    go : (b : Bool) → find p xs ≡ first_of (filter p xs) → cond b (Some x) (find p xs) ≡ first_of (cond b (x ∷ filter p xs) (filter p xs))
    go true rest = refl
    go false rest = rest

-- a filter by what is seen of the members
pub map-filter : {X Y : Type 0} (f : X → Y) (p : Y → Bool) (xs : List X) → map f (filter (λ x. p (f x)) xs) ≡ filter p (map f xs)
map-filter f p [] = refl
map-filter {X} {Y} f p (x ∷ xs) = go (p (f x)) (map-filter f p xs)
  where
    go : (b : Bool) → map f (filter (λ y. p (f y)) xs) ≡ filter p (map f xs)
        → map f (cond b (x ∷ filter (λ y. p (f y)) xs) (filter (λ y. p (f y)) xs)) ≡ cond b (f x ∷ filter p (map f xs)) (filter p (map f xs))
    go true rest = ap (λ ys. f x ∷ ys) rest
    go false rest = rest

tied : (o p : Ordering) → p ≡ ordering_reverse o → (not (is_lt p) && not (is_lt o)) ≡ is_eq o
tied Less p e = rw e refl
tied Equal p e = rw e refl
tied Greater p e = rw e refl

module _ {X : Type 0} (name_of : X → List ℕ) where
  ties_same : (x y : X) → ties (λ (a b : X). is_lt (slice_cmp nat_cmp (name_of a) (name_of b))) x y ≡ bytes_eq (name_of y) (name_of x)
  ties_same x y =
      tied (slice_cmp nat_cmp (name_of y) (name_of x)) (slice_cmp nat_cmp (name_of x) (name_of y)) (nat_list_cmp_total.antisymm (name_of x) (name_of y))
      ∙ sym (same_name (name_of y) (name_of x))

  -- the members of one name keep their order
  pub filter_stays : (xs ys : List X) → IsPermutation xs ys → IsStableBy (λ (a b : X). is_lt (slice_cmp nat_cmp (name_of a) (name_of b))) xs ys
      → (q : List ℕ) → filter (λ x. bytes_eq (name_of x) q) ys ≡ filter (λ x. bytes_eq (name_of x) q) xs
  filter_stays xs ys moved stable q =
      elim (first_or_none (λ x. bytes_eq (name_of x) q) xs) [
        | inl (x, (found, passes)) ↦
            let below : X → X → Bool = λ a b. is_lt (slice_cmp nat_cmp (name_of a) (name_of b)) in
            let is : name_of x ≡ q = (bytes_decides (name_of x) q).0 passes in
            let agree : (y : X) → ties below x y ≡ bytes_eq (name_of y) q = λ y. ties_same x y ∙ ap (bytes_eq (name_of y)) is in
            sym (filter_agree (ties below x) (λ y. bytes_eq (name_of y) q) agree ys) ∙ stable x
            ∙ filter_agree (ties below x) (λ y. bytes_eq (name_of y) q) agree xs
        | inr none ↦
            filter_none (λ y. bytes_eq (name_of y) q) ys (All-permutation (λ y. bytes_eq (name_of y) q ≡ false) xs ys moved none.1)
            ∙ sym (filter_none (λ y. bytes_eq (name_of y) q) xs none.1)
      ]
