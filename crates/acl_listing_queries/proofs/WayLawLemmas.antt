-- Of a listing whose folders stand before what is in them, the way to a file is all that are above it.
use Rattle.std.proofs.Common.{◌≡◌, ◌∙◌, ◌++◌, Bool, true, false, cond, List, [], ◌∷◌, ap, append_assoc, append-nil, refl, reverse, sym}
use Rattle.std.specs.List.{filter, fold, list_any}
use Rattle.std.proofs.lemmas.Bool.{or_parts}
use Rattle.std.proofs.lemmas.List.{reverse-append}
use Rattle.std.proofs.lemmas.List.Elements.{filter-append}
use Rattle.acl_listings.proofs.WayLemmas.{is_above-self}
use Rattle.acl_listing_queries.specs.Readings.{Reading}
use Rattle.acl_listing_queries.specs.WayLaws.{AreInPreOrder, WaysAreAllAbove, first_in, is_in}
use Rattle.acl_listing_queries.specs.Ways.{may_be_above, those_above, way_on}
use Rattle.acl_listing_queries.specs.WhoSteps.{lacks_path}
use Rattle.acl_listing_queries.proofs.WaysLemmas.{lacks_none}

none_passes : (test : Reading → Bool) (before : List Reading) (here : Reading) (after : List Reading) → filter test (before ++ here ∷ after) ≡ [] → test here ≡ false
none_passes test [] here after none = by (test here) none
  where
    by : (b : Bool) → cond b (here ∷ filter test after) (filter test after) ≡ [] → b ≡ false
    by true none = cc
    by false none = refl
none_passes test (first ∷ before) here after none = by (test first) none (none_passes test before here after)
  where
    by : (b : Bool) → cond b (first ∷ filter test (before ++ here ∷ after)) (filter test (before ++ here ∷ after)) ≡ []
        → (filter test (before ++ here ∷ after) ≡ [] → test here ≡ false) → test here ≡ false
    by true none rest = cc
    by false none rest = rest none

-- what is in each of these stands at the front
abbrev AreClear : List Reading → List Reading → Type 0
AreClear [] more = Unit {0}
AreClear (folder ∷ way) more = (filter (is_in folder) more ≡ first_in folder more) × AreClear way more

clear_left : (here : Reading) (way more : List Reading) → AreClear way (here ∷ more) → AreClear (those_above here way) more
clear_left here [] more clear = tt
clear_left here (folder ∷ way) more (first, clear) = by (is_in folder here) first (clear_left here way more clear)
  where
    by : (b : Bool) → cond b (here ∷ filter (is_in folder) more) (filter (is_in folder) more) ≡ cond b (here ∷ first_in folder more) [] → AreClear (those_above here way) more
        → AreClear (cond b (folder ∷ those_above here way) (those_above here way)) more
    by true first rest = (same first, rest)
      where
        same : here ∷ filter (is_in folder) more ≡ here ∷ first_in folder more → filter (is_in folder) more ≡ first_in folder more
        same first = cc
    by false first rest = rest

same_left : (next : Reading) (before : List Reading) (here : Reading) (after way : List Reading) → AreClear way (next ∷ (before ++ here ∷ after))
    → those_above here (those_above next way) ≡ those_above here way
same_left next before here after [] clear = refl
same_left next before here after (folder ∷ way) (first, clear) = by (is_in folder next) first (same_left next before here after way clear)
  where
    more : List Reading
    more = before ++ here ∷ after

    by : (b : Bool) → cond b (next ∷ filter (is_in folder) (before ++ here ∷ after)) (filter (is_in folder) (before ++ here ∷ after)) ≡ cond b (next ∷ first_in folder (before ++ here ∷ after)) []
        → those_above here (those_above next way) ≡ those_above here way
        → those_above here (cond b (folder ∷ those_above next way) (those_above next way))
        ≡ cond (is_in folder here) (folder ∷ those_above here way) (those_above here way)
    by true first rest = ap (λ left. cond (is_in folder here) (folder ∷ left) left) rest
    by false first rest =
        rest ∙ ap (λ b. cond b (folder ∷ those_above here way) (those_above here way)) (sym (none_passes (is_in folder) before here after first))

onto : (way before : List Reading) (here : Reading) (after : List Reading) → AreClear way (before ++ here ∷ after) → AreInPreOrder (before ++ here ∷ after)
    → those_above here (fold way_on way before) ≡ reverse (those_above here before) ++ those_above here way
onto way [] here after clear order = refl
onto way (next ∷ before) here after clear (none, first, order) =
    onto (next ∷ those_above next way) before here after (first, clear_left next way (before ++ here ∷ after) clear) order
    ∙ ap (λ left. reverse (those_above here before) ++ cond (is_in next here) (next ∷ left) left) (same_left next before here after way clear)
    ∙ by (is_in next here)
  where
    by : (b : Bool) → reverse (those_above here before) ++ cond b (next ∷ those_above here way) (those_above here way)
        ≡ reverse (cond b (next ∷ those_above here before) (those_above here before)) ++ those_above here way
    by true =
        sym (append_assoc (reverse (those_above here before)) (next ∷ []) (those_above here way))
        ∙ ap (λ front. front ++ those_above here way) (sym (reverse-append (next ∷ []) (those_above here before)))
    by false = refl

-- what is so behind some
ends_in : (before : List Reading) (here : Reading) (after : List Reading) → AreInPreOrder (before ++ here ∷ after) → those_above here after ≡ []
ends_in [] here after (none, first, order) = none
ends_in (first ∷ before) here after (none, own, order) = ends_in before here after order

has_path : (before : List Reading) (here : Reading) (after : List Reading) → list_any lacks_path (before ++ here ∷ after) ≡ false → lacks_path here ≡ false
has_path [] here after none = (or_parts (lacks_path here) (list_any lacks_path after) none).0
has_path (first ∷ before) here after none = has_path before here after (or_parts (lacks_path first) (list_any lacks_path (before ++ here ∷ after)) none).1

not_itself : (here : Reading) → lacks_path here ≡ false → may_be_above here.path here.path ≡ false
not_itself here known = let (path, is) = lacks_none here known in ap (λ found. may_be_above found found) is ∙ is_above-self path

pub ways_are_all_above : WaysAreAllAbove
ways_are_all_above before here after known order =
    let rest : those_above here (here ∷ after) ≡ [] =
    ap (λ b. cond b (here ∷ those_above here after) (those_above here after)) (not_itself here (has_path before here after known)) ∙ ends_in before here after order in
    onto [] before here after (clear_none (before ++ here ∷ after)) order
    ∙ append-nil (reverse (those_above here before))
    ∙ ap reverse (sym (filter-append (λ folder. may_be_above folder.path here.path) before (here ∷ after) ∙ ap (λ rest. those_above here before ++ rest) rest ∙ append-nil (those_above here before)))
  where
    clear_none : (more : List Reading) → AreClear [] more
    clear_none more = tt
