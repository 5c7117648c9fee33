-- Lists that are filtered.
use Rattle.std.proofs.Common.{◌≡◌, ◌≤◌, Bool, true, false, cond, ◌&&◌, refl, sym, ap, ◌∙◌, List, [], ◌∷◌, length, arith, ap₂, Some, find, All, filter, true≢false}
use Rattle.std.proofs.lemmas.List.Elements.{All-head, All-tail}

pub filter_twice : {X : Type 0} (p q g : X → Bool) → ((x : X) → (p x && q x) ≡ g x) → (xs : List X) → filter q (filter p xs) ≡ filter g xs
filter_twice p q g both [] = refl
filter_twice {X} p q g both (x ∷ xs) = go (p x) (both x) (filter_twice p q g both xs)
  where
    go : (a : Bool) → (a && q x) ≡ g x → filter q (filter p xs) ≡ filter g xs
        → filter q (cond a (x ∷ filter p xs) (filter p xs)) ≡ cond (g x) (x ∷ filter g xs) (filter g xs)
    go true e rest = ap₂ (λ b others. cond b (x ∷ others) others) e rest
    go false e rest = rest ∙ ap (λ b. cond b (x ∷ filter g xs) (filter g xs)) e

filter-false : {X : Type 0} (xs : List X) → filter (λ _. false) xs ≡ []
filter-false [] = refl
filter-false (x ∷ xs) = filter-false xs

pub filter_twice-none : {X : Type 0} (p q : X → Bool) → ((x : X) → (p x && q x) ≡ false) → (xs : List X) → filter q (filter p xs) ≡ []
filter_twice-none p q none xs = filter_twice p q (λ _. false) none xs ∙ filter-false xs

-- what passes two tests is no more than what passes a third that both imply
pub length-filter_twice : {X : Type 0} (p q g : X → Bool) → ((x : X) → p x ≡ true → q x ≡ true → g x ≡ true)
    → (xs : List X) → length (filter q (filter p xs)) ≤ length (filter g xs)
length-filter_twice p q g both [] = omega arith
length-filter_twice {X} p q g both (x ∷ xs) = go (length-filter_twice p q g both xs) (p x) refl (q x) refl (g x) refl
  where
    go : length (filter q (filter p xs)) ≤ length (filter g xs)
        → (a : Bool) → p x ≡ a → (b : Bool) → q x ≡ b → (c : Bool) → g x ≡ c
        → length (filter q (cond a (x ∷ filter p xs) (filter p xs))) ≤ length (cond c (x ∷ filter g xs) (filter g xs))
    go rest false ea b eb true ec = omega arith
    go rest false ea b eb false ec = rest
    go rest true ea true eb true ec = rw eb (omega arith)
    go rest true ea false eb true ec = rw eb (omega arith)
    go rest true ea false eb false ec = rw eb rest
    go rest true ea true eb false ec = absurd (true≢false (sym (both x ea eb) ∙ ec))

-- the one element that passes is the first
pub the_one : {X : Type 0} (p : X → Bool) (xs : List X) → length (filter p xs) ≡ 1 → (x : X) × (filter p xs ≡ x ∷ []) × (find p xs ≡ Some x)
the_one p [] one = absurd (omega arith)
the_one {X} p (x ∷ xs) one = go (p x) one (the_one p xs)
  where
    alone : (ys : List X) → length (x ∷ ys) ≡ 1 → ys ≡ []
    alone [] e = refl
    alone (y ∷ ys) e = absurd (omega arith)

    go : (b : Bool) → length (cond b (x ∷ filter p xs) (filter p xs)) ≡ 1
        → (length (filter p xs) ≡ 1 → (x : X) × (filter p xs ≡ x ∷ []) × (find p xs ≡ Some x))
        → (y : X) × (cond b (x ∷ filter p xs) (filter p xs) ≡ y ∷ []) × (cond b (Some x) (find p xs) ≡ Some y)
    go true e rest = (x, ap (λ ys. x ∷ ys) (alone (filter p xs) e), refl)
    go false e rest = rest e

-- what is found passes the test, and is as all elements are
pub find-passes : {X : Type 0} (P : X → Type 0) (p : X → Bool) (xs : List X) (x : X) → All P xs → find p xs ≡ Some x
    → (p x ≡ true) × P x
find-passes P p [] x all e = cc
find-passes {X} P p (y ∷ ys) x all e = go (p y) refl e (find-passes P p ys x (All-tail P y ys all))
  where
    go : (b : Bool) → p y ≡ b → cond b (Some y) (find p ys) ≡ Some x → (find p ys ≡ Some x → (p x ≡ true) × P x) → (p x ≡ true) × P x
    go true passes e rest = let same : y ≡ x = cc in (rw (← same) passes, rw (← same) (All-head P y ys all))
    go false fails e rest = rest e
