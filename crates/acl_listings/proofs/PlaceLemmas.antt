-- Where paths lead, as lists of steps; and how these compare.
use Rattle.std.proofs.Common.{◌≡◌, ◌∙◌, ◌++◌, ℕ, Bool, true, false, cond, bytes_eq, List, [], ◌∷◌, Option, Some, None, ap, refl, sym}
use Rattle.std.specs.Cmp.{tied_itself}
use Rattle.std.specs.Cmp.Lexicographic.{nat_list_cmp_total, same_text, slice_cmp, texts_ties}
use Rattle.std.specs.Ordering.{is_eq, is_gt, nat_cmp, ordering_reverse, ordering_then}
use Rattle.std.specs.declared.cmp.Ordering.{Ordering}
use Rattle.std.specs.declared.cmp.Ordering.TheVariants.{Less, Equal, Greater}
use Rattle.std.proofs.lemmas.Slice.Eq.{bytes_eq-Decides}
use Rattle.acl_listings.specs.declared.way.Place.{Place}
use Rattle.acl_listings.specs.declared.way.Place.TheVariants.{Elsewhere, Same, Inside, Deeper}
use Rattle.acl_listings.specs.Way.{begin_alike, is_above, is_absolute, is_below, is_folder_of, is_inside, place_below, place_by, steps_behind, steps_cmp, steps_of}

-- ---- steps behind others

pub behind-is : (above steps rest : List (List ℕ)) → steps_behind above steps ≡ Some rest → steps ≡ above ++ rest
behind-is [] steps rest is = by is
  where
    by : Some steps ≡ Some rest → steps ≡ rest
    by is = cc
behind-is (first ∷ above) [] rest is = cc
behind-is (first ∷ above) (step ∷ steps) rest is = by (bytes_eq first step) refl is (behind-is above steps rest)
  where
    by : (b : Bool) → bytes_eq first step ≡ b → cond b (steps_behind above steps) None ≡ Some rest → (steps_behind above steps ≡ Some rest → steps ≡ above ++ rest) → step ∷ steps ≡ first ∷ (above ++ rest)
    by true same is more = λ i. sym ((bytes_eq-Decides first step).0 same) i ∷ more is i
    by false same is more = cc

pub behind-of : (above rest : List (List ℕ)) → steps_behind above (above ++ rest) ≡ Some rest
behind-of [] rest = refl
behind-of (first ∷ above) rest = ap (λ b. cond b (steps_behind above (above ++ rest)) None) ((bytes_eq-Decides first first).1 refl) ∙ behind-of above rest

-- ---- a path that leads to a folder, or below it

-- these are the steps from there
pub record LeadsBelow (folder path : List ℕ) (rest : List (List ℕ)) : Type 0 where
  pub alike : begin_alike (is_absolute folder) (is_absolute path) ≡ true
  pub steps : steps_of path ≡ steps_of folder ++ rest

place-of : (folder path : List ℕ) (rest : List (List ℕ)) → LeadsBelow folder path rest → place_below folder path ≡ place_by (Some rest)
place-of folder path rest leads =
    ap (λ b. cond b (place_by (steps_behind (steps_of folder) (steps_of path))) Elsewhere) leads.alike
    ∙ ap (λ steps. place_by (steps_behind (steps_of folder) steps)) leads.steps ∙ ap place_by (behind-of (steps_of folder) rest)

place-is : (folder path : List ℕ) (place : Place) → place_below folder path ≡ place → is_below place ≡ true → (rest : List (List ℕ)) × LeadsBelow folder path rest × (place ≡ place_by (Some rest))
place-is folder path place is below = by (begin_alike (is_absolute folder) (is_absolute path)) refl (steps_behind (steps_of folder) (steps_of path)) refl is
  where
    by : (b : Bool) → begin_alike (is_absolute folder) (is_absolute path) ≡ b → (found : Option (List (List ℕ))) → steps_behind (steps_of folder) (steps_of path) ≡ found
        → cond b (place_by (steps_behind (steps_of folder) (steps_of path))) Elsewhere ≡ place → (rest : List (List ℕ)) × LeadsBelow folder path rest × (place ≡ place_by (Some rest))
    by true alike (Some rest) found is = (rest, record { alike = alike; steps = behind-is (steps_of folder) (steps_of path) rest found }, sym is ∙ ap place_by found)
    by true alike None found is = absurd (nowhere (ap is_below (sym (ap place_by found) ∙ is) ∙ below))
      where
        nowhere : false ≡ true → ⊥
        nowhere is = cc
    by false alike found there is = absurd (nowhere (ap is_below is ∙ below))
      where
        nowhere : false ≡ true → ⊥
        nowhere is = cc

-- what is above another
pub above-is : (folder path : List ℕ) → is_above folder path ≡ true → (step : List ℕ) × (rest : List (List ℕ)) × LeadsBelow folder path (step ∷ rest)
above-is folder path above = by (place-is folder path (place_below folder path) refl above)
  where
    by : (rest : List (List ℕ)) × LeadsBelow folder path rest × (place_below folder path ≡ place_by (Some rest)) → (step : List ℕ) × (rest : List (List ℕ)) × LeadsBelow folder path (step ∷ rest)
    by ([], leads, is) = absurd (nowhere (sym (ap is_below is) ∙ above))
      where
        nowhere : false ≡ true → ⊥
        nowhere is = cc
    by (step ∷ rest, leads, is) = (step, rest, leads)

below_by : (step : List ℕ) (rest : List (List ℕ)) → is_below (place_by (Some (step ∷ rest))) ≡ true
below_by step [] = refl
below_by step (next ∷ rest) = refl

pub above-of : (folder path step : List ℕ) (rest : List (List ℕ)) → LeadsBelow folder path (step ∷ rest) → is_above folder path ≡ true
above-of folder path step rest leads = ap is_below (place-of folder path (step ∷ rest) leads) ∙ below_by step rest

-- the folder in which another is
pub holds-is : (folder path : List ℕ) → is_folder_of folder path ≡ true → (step : List ℕ) × LeadsBelow folder path (step ∷ [])
holds-is folder path holds = by (place-is folder path (place_below folder path) refl (below (place_below folder path) holds))
  where
    below : (place : Place) → is_inside place ≡ true → is_below place ≡ true
    below Elsewhere inside = inside
    below Same inside = inside
    below Inside inside = refl
    below Deeper inside = refl

    by : (rest : List (List ℕ)) × LeadsBelow folder path rest × (place_below folder path ≡ place_by (Some rest)) → (step : List ℕ) × LeadsBelow folder path (step ∷ [])
    by ([], leads, is) = absurd (nowhere (sym (ap is_inside is) ∙ holds))
      where
        nowhere : false ≡ true → ⊥
        nowhere is = cc
    by (step ∷ [], leads, is) = (step, leads)
    by (step ∷ (next ∷ rest), leads, is) = absurd (nowhere (sym (ap is_inside is) ∙ holds))
      where
        nowhere : false ≡ true → ⊥
        nowhere is = cc

-- another path to the same
pub same-of : (folder path : List ℕ) → LeadsBelow folder path [] → place_below folder path ≡ Same
same-of folder path leads = place-of folder path [] leads

-- ---- how steps compare

text-tied : (one other : List ℕ) → slice_cmp nat_cmp one other ≡ Equal → one ≡ other
text-tied one other tied = same_text one other (sym (texts_ties one other ∙ ap is_eq tied))

-- what leads further comes behind
pub steps-before : (steps rest : List (List ℕ)) → is_gt (steps_cmp steps (steps ++ rest)) ≡ false
steps-before [] [] = refl
steps-before [] (step ∷ rest) = refl
steps-before (first ∷ steps) rest = ap (λ order. is_gt (ordering_then order (steps_cmp steps (steps ++ rest)))) (tied_itself nat_list_cmp_total first) ∙ steps-before steps rest

-- of two that come neither before nor behind each other
tied : (one other : Ordering) (more rest : Ordering) → one ≡ ordering_reverse other → is_gt (ordering_then one more) ≡ false → is_gt (ordering_then other rest) ≡ false
    → (one ≡ Equal) × (is_gt more ≡ false) × (is_gt rest ≡ false)
tied Equal Equal more rest turned behind before = (refl, behind, before)
tied Equal Less more rest turned behind before = cc
tied Equal Greater more rest turned behind before = cc
tied Less Equal more rest turned behind before = cc
tied Less Less more rest turned behind before = cc
tied Less Greater more rest turned behind before = cc
tied Greater other more rest turned behind before = cc

-- and what is between them leads on from there, too
pub steps-between : (steps other rest : List (List ℕ)) → is_gt (steps_cmp steps other) ≡ false → is_gt (steps_cmp other (steps ++ rest)) ≡ false → (more : List (List ℕ)) × (other ≡ steps ++ more)
steps-between [] other rest behind before = (other, refl)
steps-between (first ∷ steps) [] rest behind before = cc
steps-between (first ∷ steps) (step ∷ other) rest behind before = by (steps-between steps other rest)
  where
    first_tied : (slice_cmp nat_cmp first step ≡ Equal) × (is_gt (steps_cmp steps other) ≡ false) × (is_gt (steps_cmp other (steps ++ rest)) ≡ false)
    first_tied = tied (slice_cmp nat_cmp first step) (slice_cmp nat_cmp step first) (steps_cmp steps other) (steps_cmp other (steps ++ rest)) (nat_list_cmp_total.antisymm first step) behind before

    by : (is_gt (steps_cmp steps other) ≡ false → is_gt (steps_cmp other (steps ++ rest)) ≡ false → (more : List (List ℕ)) × (other ≡ steps ++ more)) → (more : List (List ℕ)) × (step ∷ other ≡ first ∷ (steps ++ more))
    by between = let found = between first_tied.1 first_tied.2 in (found.0, λ i. sym (text-tied first step first_tied.0) i ∷ found.1 i)
