-- A folder above a folder is above all that this one is above.
use Rattle.std.proofs.Common.{◌≡◌, ◌∙◌, ℕ, Bool, true, false, cond, bytes_eq, List, [], ◌∷◌, Some, None, ap, refl}
use Rattle.std.proofs.lemmas.Slice.Eq.{bytes_eq-Decides}
use Rattle.acl_listings.specs.declared.way.Place.TheVariants.{Elsewhere}
use Rattle.acl_listings.specs.Way.{begin_alike, is_above, is_absolute, is_below, place_by, steps_behind, steps_of}

abbrev leads_below : List (List ℕ) → List (List ℕ) → Bool
leads_below above steps = is_below (place_by (steps_behind above steps))

more_steps : (step : List ℕ) (steps : List (List ℕ)) → is_below (place_by (Some (step ∷ steps))) ≡ true
more_steps step [] = refl
more_steps step (next ∷ steps) = refl

steps-trans : (one two three : List (List ℕ)) → leads_below one two ≡ true → leads_below two three ≡ true → leads_below one three ≡ true
steps-trans [] [] three is are = cc
steps-trans [] (step ∷ two) [] is are = cc
steps-trans [] (step ∷ two) (other ∷ three) is are = more_steps other three
steps-trans (first ∷ one) [] three is are = cc
steps-trans (first ∷ one) (step ∷ two) [] is are = cc
steps-trans (first ∷ one) (step ∷ two) (other ∷ three) is are =
    by (bytes_eq first step) (bytes_eq step other) refl refl is are (steps-trans one two three)
  where
    by : (b c : Bool) → bytes_eq first step ≡ b → bytes_eq step other ≡ c
        → is_below (place_by (cond b (steps_behind one two) None)) ≡ true → is_below (place_by (cond c (steps_behind two three) None)) ≡ true
        → (leads_below one two ≡ true → leads_below two three ≡ true → leads_below one three ≡ true)
        → is_below (place_by (cond (bytes_eq first other) (steps_behind one three) None)) ≡ true
    by true true same alike is are rest =
        let both : first ≡ other = (bytes_eq-Decides first step).0 same ∙ (bytes_eq-Decides step other).0 alike in
        ap (λ b. is_below (place_by (cond b (steps_behind one three) None))) ((bytes_eq-Decides first other).1 both) ∙ rest is are
    by true false same alike is are rest = cc
    by false c same alike is are rest = cc

-- ---- how paths begin

pub begin-trans : (one two three : Bool) → begin_alike one two ≡ true → begin_alike two three ≡ true → begin_alike one three ≡ true
begin-trans true true three is are = are
begin-trans true false three is are = cc
begin-trans false true three is are = cc
begin-trans false false three is are = are

pub begin-turned : (one two : Bool) → begin_alike one two ≡ true → begin_alike two one ≡ true
begin-turned true true is = refl
begin-turned true false is = cc
begin-turned false true is = cc
begin-turned false false is = refl

pub begin-same : (one : Bool) → begin_alike one one ≡ true
begin-same true = refl
begin-same false = refl

-- ---- what is above

pub is_above-trans : (one two three : List ℕ) → is_above one two ≡ true → is_above two three ≡ true → is_above one three ≡ true
is_above-trans one two three is are = by (begin_alike (is_absolute one) (is_absolute two)) (begin_alike (is_absolute two) (is_absolute three)) refl refl is are
  where
    by : (b c : Bool) → begin_alike (is_absolute one) (is_absolute two) ≡ b → begin_alike (is_absolute two) (is_absolute three) ≡ c
        → is_below (cond b (place_by (steps_behind (steps_of one) (steps_of two))) Elsewhere) ≡ true
        → is_below (cond c (place_by (steps_behind (steps_of two) (steps_of three))) Elsewhere) ≡ true
        → is_above one three ≡ true
    by true true first second is are =
        ap (λ b. is_below (cond b (place_by (steps_behind (steps_of one) (steps_of three))) Elsewhere)) (begin-trans (is_absolute one) (is_absolute two) (is_absolute three) first second)
        ∙ steps-trans (steps_of one) (steps_of two) (steps_of three) is are
    by true false first second is are = cc
    by false c first second is are = cc

steps-same : (steps : List (List ℕ)) → steps_behind steps steps ≡ Some []
steps-same [] = refl
steps-same (step ∷ steps) = ap (λ b. cond b (steps_behind steps steps) None) ((bytes_eq-Decides step step).1 refl) ∙ steps-same steps

-- none is above itself
pub is_above-self : (path : List ℕ) → is_above path path ≡ false
is_above-self path = by (begin_alike (is_absolute path) (is_absolute path))
  where
    by : (b : Bool) → is_below (cond b (place_by (steps_behind (steps_of path) (steps_of path))) Elsewhere) ≡ false
    by true = ap (λ left. is_below (place_by left)) (steps-same (steps_of path))
    by false = refl
