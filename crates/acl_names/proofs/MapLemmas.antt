-- Lists that are seen through a map.
use Rattle.std.proofs.Common.{◌≡◌, ◌∙◌, ℕ, ◌+◌, ◌<◌, Bool, cond, nat_lt, Option, Some, None, List, [], ◌∷◌, ◌++◌, length, get_or, take, refl, sym, ap, map, option_to_list}
use Rattle.std.specs.List.{count_by, cons_option, filter_map}
use Rattle.std.proofs.lemmas.List.{take_more}
use Rattle.std.proofs.lemmas.List.Elements.{filter_map-append}
use Rattle.std.proofs.lemmas.List.Folds.{fold-map}
use Rattle.acl_names.specs.Ascending.{repeats}
use Rattle.acl_names.proofs.AnyLemmas.{list_any-agree, list_any-map}

pub count_by-map : {X Y : Type 0} (p : Y → Bool) (f : X → Y) (xs : List X) → count_by p (map f xs) ≡ count_by (λ x. p (f x)) xs
count_by-map p f xs = fold-map (λ n y. n + cond (p y) 1 0) f 0 xs

-- a key stands twice where it stands twice among the keys
pub repeats-map : {X K : Type 0} (same : K → K → Bool) (key : X → K) (xs : List X) → repeats same (λ k. k) (map key xs) ≡ repeats same key xs
repeats-map same key xs =
    list_any-map (λ one. nat_lt 1 (count_by (λ other. same other one) (map key xs))) key xs
    ∙ list_any-agree (λ x. nat_lt 1 (count_by (λ other. same other (key x)) (map key xs))) (λ x. nat_lt 1 (count_by (λ y. same (key y) (key x)) xs))
    (λ x. ap (nat_lt 1) (count_by-map (λ other. same other (key x)) key xs)) xs

pub filter_map-map : {X Y Z : Type 0} (p : Y → Option Z) (f : X → Y) (xs : List X) → filter_map p (map f xs) ≡ filter_map (λ x. p (f x)) xs
filter_map-map p f [] = refl
filter_map-map {X} {Y} {Z} p f (x ∷ xs) = ap (with (p (f x))) (filter_map-map p f xs)
  where
    with : Option Z → List Z → List Z
    with None zs = zs
    with (Some z) zs = z ∷ zs

pub filter_map-agree : {Y Z : Type 0} (p q : Y → Option Z) → ((y : Y) → p y ≡ q y) → (ys : List Y) → filter_map p ys ≡ filter_map q ys
filter_map-agree p q same [] = refl
filter_map-agree p q same (y ∷ ys) = rw (same y, filter_map-agree p q same ys) refl

-- what h gives of the items before place i, with what it gives of the item there
pub filter_map-one_more : {X Y : Type 0} (h : X → Option Y) (xs : List X) (i : ℕ) (d : X) (ys : List Y) (o : Option Y) → i < length xs → ys ≡ filter_map h (take i xs)
    → h (get_or xs i d) ≡ o → ys ++ option_to_list o ≡ filter_map h (take (i + 1) xs)
filter_map-one_more {X} {Y} h xs i d ys o inside are gives =
    rw (are, sym gives) (ap (λ zs. filter_map h (take i xs) ++ zs) (one (h (get_or xs i d))))
    ∙ sym (filter_map-append h (take i xs) (get_or xs i d ∷ [])) ∙ ap (filter_map h) (sym (take_more xs i d inside))
  where
    one : (o : Option Y) → option_to_list o ≡ cons_option o []
    one None = refl
    one (Some y) = refl
