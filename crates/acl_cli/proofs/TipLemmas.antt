-- A value that the parser takes for an option.
use Rattle.std.proofs.Common.{◌≡◌, ◌∙◌, ◌+◌, ◌<◌, ◌≤◌, ◌&&◌, ◌++◌, ℕ, Bool, true, false, cond, List, [], ◌∷◌, Some, None, ap, drop, drop_of_length-le, get_or, length, map, nat_eq, refl, take}
use Rattle.std.specs.Cmp.Lexicographic.{pointwise}
use Rattle.std.specs.List.{find}
use Rattle.std.proofs.lemmas.List.{drop_more}
use Rattle.clap.specs.Words.{Text}
use Rattle.acl_cli.specs.Tips.{in_pairs}

and_by : (b p q r : Bool) → p ≡ (q && r) → (b && p) ≡ ((b && q) && r)
and_by true p q r is = is
and_by false p q r is = refl

-- a text is these texts one after the other exactly if it begins with the first, and the second is the rest
pub front_apart : (text front rest : List ℕ) → pointwise nat_eq text (front ++ rest) ≡ (pointwise nat_eq (take (length front) text) front && pointwise nat_eq (drop (length front) text) rest)
front_apart text [] rest = refl
front_apart [] (byte ∷ front) rest = refl
front_apart (first ∷ text) (byte ∷ front) rest = and_by (nat_eq first byte) _ _ _ (front_apart text front rest)

-- ---- words one after the other

module _ {X : Type 0} (text : X → Text) (is : Text × Text → Bool) (words : List X) (before : Text) (place : ℕ) where
  abbrev pub pairs_left : List (Text × Text)
  pairs_left = in_pairs before (map text (drop place words))

  module _ (word : X) (within : place < length words) (here : get_or words place word ≡ word) where
    left : map text (drop place words) ≡ text word ∷ map text (drop (place + 1) words)
    left = ap (map text) (drop_more words place word within ∙ ap (λ one. one ∷ drop (place + 1) words) here)

    by : (b : Bool) → is (before, text word) ≡ b
        → find is pairs_left ≡ cond b (Some (before, text word)) (find is (in_pairs (text word) (map text (drop (place + 1) words))))
    by b found = ap (λ rest. find is (in_pairs before rest)) left
        ∙ ap (λ b. cond b (Some (before, text word)) (find is (in_pairs (text word) (map text (drop (place + 1) words))))) found

    pub pair_here : is (before, text word) ≡ true → find is pairs_left ≡ Some (before, text word)
    pair_here found = by true found

    pub pair_more : is (before, text word) ≡ false → find is pairs_left ≡ find is (in_pairs (text word) (map text (drop (place + 1) words)))
    pair_more lacks = by false lacks

  pub pair_none : length words ≤ place → find is pairs_left ≡ None
  pair_none past = ap (λ rest. find is (in_pairs before (map text rest))) (drop_of_length-le words past)
