-- Lists as a loop goes through them.
use Rattle.std.proofs.Common.{◌≡◌, ℕ, suc, ◌+◌, ◌<◌, ◌≤◌, ap, sym, ◌∙◌, List, []}
use Rattle.std.proofs.Common.{◌∷◌, ◌++◌, Option, Some, None, length, get_or, drop}
use Rattle.std.proofs.Common.{length-append, add-one, arith, drop-cons}
use Rattle.std.proofs.Common.{filter_map, Result, Ok, Err, OnErr}
use Rattle.std.specs.List.{cons_option}

module _ {X : Type 0} where
  -- what is left at an element is the element and what is left after it
  pub drop-here : (xs : List X) (i : ℕ) (x : X) → i < length xs → x ≡ get_or xs i x → drop i xs ≡ x ∷ drop (i + 1) xs
  drop-here xs i x inside here = rw add-one (drop-cons xs i x inside ∙ ap (λ y. y ∷ drop (suc i) xs) (sym here))

  -- a list in the making that has a further element to come is shorter than the whole
  pub shorter : (made : List X) (x : X) (rest whole : List X) → made ++ x ∷ rest ≡ whole → length made < length whole
  shorter made x rest whole e = omega (arith, ap length e, length-append made (x ∷ rest))

pub length-filter_map : {X Y : Type 0} (f : X → Option Y) (xs : List X) → length (filter_map f xs) ≤ length xs
length-filter_map f [] = omega arith
length-filter_map {X} {Y} f (x ∷ xs) = go (f x) (length-filter_map f xs)
  where
    go : (o : Option Y) → length (filter_map f xs) ≤ length xs → length (cons_option o (filter_map f xs)) ≤ length (x ∷ xs)
    go (Some y) below = omega arith
    go None below = omega arith

-- what is known anyway is known on a refusal
pub OnErr-from : {T E P : Type 0} (r : Result T E) → P → OnErr r P
OnErr-from (Ok x) p = tt
OnErr-from (Err e) p = p
