-- How many elements of a list pass a test.
use Rattle.std.proofs.Common.{◌≡◌, ◌∙◌, ℕ, ◌+◌, ◌<◌, ◌≤◌, Bool, true, cond, nat_lt, List, [], ◌∷◌, ◌||◌, length, get_or, take, refl, sym, ap, arith, inl, inr, length-take, get_or-take}
use Rattle.std.specs.List.{count_by, sum_by, list_any}
use Rattle.std.proofs.lemmas.Bool.{cases_Bool, lt-ltb}
use Rattle.std.proofs.lemmas.List.Sums.{sum_by-cons, sum_by_more_le, get_or-le-sum_by}

-- one more element
pub count_by-cons : {X : Type 0} (p : X → Bool) (x : X) (xs : List X) → count_by p (x ∷ xs) ≡ cond (p x) 1 0 + count_by p xs
count_by-cons p x xs = sum_by-cons (λ y. cond (p y) 1 0) x xs

-- some element passes if at least one is counted
pub list_any-count_by : {X : Type 0} (p : X → Bool) (xs : List X) → list_any p xs ≡ nat_lt 0 (count_by p xs)
list_any-count_by p [] = refl
list_any-count_by p (x ∷ xs) =
    elim (cases_Bool (p x)) [
      | inl passes ↦
          let counts : count_by p (x ∷ xs) ≡ 1 + count_by p xs = count_by-cons p x xs ∙ ap (λ b. cond b 1 0 + count_by p xs) passes in
          ap (λ b. b || list_any p xs) passes ∙ sym (lt-ltb 0 (count_by p (x ∷ xs)) (omega arith))
      | inr fails ↦
          let counts : count_by p (x ∷ xs) ≡ 0 + count_by p xs = count_by-cons p x xs ∙ ap (λ b. cond b 1 0 + count_by p xs) fails in
          let same : count_by p (x ∷ xs) ≡ count_by p xs = omega arith in
          ap (λ b. b || list_any p xs) fails ∙ list_any-count_by p xs ∙ ap (nat_lt 0) (sym same)
    ]

-- two places that pass are counted twice
pub two_counted : {X : Type 0} (p : X → Bool) (xs : List X) (i j : ℕ) (d : X) → i < j → j < length xs
    → p (get_or xs i d) ≡ true → p (get_or xs j d) ≡ true → 1 < count_by p xs
two_counted {X} p xs i j d before inside first second =
    let f : X → ℕ = λ y. cond (p y) 1 0 in
    let one : f (get_or xs i d) ≡ 1 = ap (λ b. cond b 1 0) first in
    let other : f (get_or xs j d) ≡ 1 = ap (λ b. cond b 1 0) second in
    let n = length-take j xs in
    let at : f (get_or (take j xs) i d) ≤ sum_by f (take j xs) = get_or-le-sum_by f (take j xs) i d (omega arith) in
    let same : f (get_or (take j xs) i d) ≡ f (get_or xs i d) = ap f (get_or-take j xs i d before) in
    let all : sum_by f (take j xs) + f (get_or xs j d) ≤ sum_by f xs = sum_by_more_le f xs j d inside in
    omega arith
