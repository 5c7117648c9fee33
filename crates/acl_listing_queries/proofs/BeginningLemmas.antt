-- Where the way to a block begins, by where the way to the block before it began.
use Rattle.std.proofs.Common.{◌≡◌, ◌∙◌, ◌++◌, ◌&&◌, ℕ, Bool, Vec, true, false, cond, List, [], ◌∷◌, Option, Some, None, ap, append_assoc, append-nil, option_map, refl, subst, sym}
use Rattle.std.specs.Prelude.{is_none}
use Rattle.std.specs.List.{flat_map, list_all, list_any}
use Rattle.std.specs.declared.alloc.Global.{Global}
use Rattle.std.proofs.lemmas.Bool.{or_parts}
use Rattle.std.proofs.lemmas.Grind.{flat_map-append, fold-append}
use Rattle.std.proofs.lemmas.List.Folds.{list_all-append}
use Rattle.acl_reports.specs.Placed.{Placed, in_places, in_places_after}
use Rattle.acl_listing_queries.specs.Readings.{Reading}
use Rattle.acl_listing_queries.specs.RootSteps.{AreRoots, IsBegun, IsBegunOn, is_apart, is_begun_above, outermost, with_root_if}
use Rattle.acl_listing_queries.specs.Ways.{are_all_apart, are_apart, beginnings_of, begins_apart, if_first, may_be_above, those_above, way_behind, way_of, way_on}
use Rattle.acl_listing_queries.specs.WhoSteps.{IsChain, lacks_path}
use Rattle.acl_listing_queries.specs.declared.beginning.Beginning.{Beginning}
use Rattle.acl_listing_queries.proofs.ReachSteps.{chain_on, known_on}
use Rattle.acl_listing_queries.proofs.WaysLemmas.{all_left}

-- ---- one block more

pub way_behind-more : (earlier : List Reading) (here : Reading) → way_behind (earlier ++ here ∷ []) ≡ here ∷ way_of earlier here
way_behind-more earlier here = fold-append way_on [] earlier (here ∷ [])

in_places-more : (before earlier : List Reading) (here : Reading) → in_places_after before (earlier ++ here ∷ []) ≡ in_places_after before earlier ++ record { earlier = before ++ earlier; here = here } ∷ []
in_places-more before [] here = ap (λ before. record { earlier = before; here = here } ∷ []) (sym (append-nil before))
in_places-more before (first ∷ earlier) here =
    ap (λ more. record { earlier = before; here = first } ∷ more)
    (in_places-more (before ++ first ∷ []) earlier here ∙ ap (λ all. in_places_after (before ++ first ∷ []) earlier ++ record { earlier = all; here = here } ∷ []) (append_assoc before (first ∷ []) earlier))

abbrev begun_by : Placed Reading → List Reading
begun_by placed = if_first placed.here (way_of placed.earlier placed.here)

pub beginnings-more : (earlier : List Reading) (here : Reading) → beginnings_of (earlier ++ here ∷ []) ≡ beginnings_of earlier ++ if_first here (way_of earlier here)
beginnings-more earlier here =
    ap (flat_map begun_by) (in_places-more [] earlier here)
    ∙ flat_map-append begun_by (in_places earlier) (record { earlier = earlier; here = here } ∷ [])
    ∙ ap (λ more. beginnings_of earlier ++ more) (append-nil (if_first here (way_of earlier here)))

-- each of these and this one are apart, if each of these are, and this one from them
pub all_apart-more : (blocks : List Reading) (here : Reading) → are_all_apart (blocks ++ here ∷ []) ≡ are_all_apart blocks && is_apart blocks here
all_apart-more [] here = refl
all_apart-more (one ∷ blocks) here =
    (λ i. list_all-append (λ other. are_apart one.path other.path) blocks (here ∷ []) i && all_apart-more blocks here i)
    ∙ by (list_all (λ other. are_apart one.path other.path) blocks) (are_apart one.path here.path) (are_all_apart blocks) (is_apart blocks here)
  where
    by : (a b c d : Bool) → ((a && (b && true)) && (c && d)) ≡ ((a && c) && (b && d))
    by true true c d = refl
    by true false true d = refl
    by true false false d = refl
    by false b c d = refl

-- ---- what is above a block, by the outermost

-- a way begins with this block
record BeginsWith (way : List Reading) (bottom : Reading) : Type 0 where
  nearest : Reading
  above : List Reading
  is : way ≡ nearest ∷ above
  same : outermost above nearest ≡ bottom

begins_still : (here block : Reading) (above : List Reading) → may_be_above (outermost above block).path here.path ≡ true → BeginsWith (those_above here (block ∷ above)) (outermost above block)
begins_still here block [] over = record { nearest = block; above = []; is = ap (λ b. cond b (block ∷ []) []) over; same = refl }
begins_still here block (folder ∷ above) over = by (may_be_above block.path here.path) (begins_still here folder above over)
  where
    by : (b : Bool) → BeginsWith (those_above here (folder ∷ above)) (outermost above folder)
        → BeginsWith (cond b (block ∷ those_above here (folder ∷ above)) (those_above here (folder ∷ above))) (outermost above folder)
    by true rest = record { nearest = block; above = those_above here (folder ∷ above); is = refl; same = ap (λ way. outermost way block) rest.is ∙ rest.same }
    by false rest = rest

none_above : (here : Reading) (path : List ℕ) → here.path ≡ Some path → (block : Reading) (above : List Reading) → IsChain (block ∷ above) → list_any lacks_path (block ∷ above) ≡ false
    → may_be_above (outermost above block).path here.path ≡ false → those_above here (block ∷ above) ≡ []
none_above here path path_is block [] chain known apart = ap (λ b. cond b (block ∷ []) []) apart
none_above here path path_is block (folder ∷ above) chain known apart =
    let parts = or_parts (lacks_path block) (list_any lacks_path (folder ∷ above)) known in
    by (may_be_above block.path here.path) refl parts.0 (none_above here path path_is folder above chain.1 parts.1 apart)
  where
    never : folder ∷ above ≡ [] → ⊥
    never is = cc

    by : (b : Bool) → may_be_above block.path here.path ≡ b → lacks_path block ≡ false → those_above here (folder ∷ above) ≡ []
        → cond b (block ∷ those_above here (folder ∷ above)) (those_above here (folder ∷ above)) ≡ []
    by true over lacks rest = absurd (never (sym (all_left here block path path_is over lacks (folder ∷ above) chain.0) ∙ rest))
    by false over lacks rest = rest

-- if anything of a way is above a block, its outermost is
pub begins_left : (here : Reading) (path : List ℕ) → here.path ≡ Some path → (block : Reading) (above : List Reading) (folder : Reading) (rest : List Reading) → IsChain (block ∷ above)
    → list_any lacks_path (block ∷ above) ≡ false → those_above here (block ∷ above) ≡ folder ∷ rest → outermost rest folder ≡ outermost above block
begins_left here path path_is block [] folder rest chain known is = by (may_be_above block.path here.path) is
  where
    by : (b : Bool) → cond b (block ∷ []) [] ≡ folder ∷ rest → outermost rest folder ≡ block
    by true is = λ i. outermost (rest_is is i) (folder_is is i)
      where
        rest_is : block ∷ [] ≡ folder ∷ rest → rest ≡ []
        rest_is is = cc

        folder_is : block ∷ [] ≡ folder ∷ rest → folder ≡ block
        folder_is is = cc
    by false is = absurd (never is)
      where
        never : [] ≡ folder ∷ rest → ⊥
        never is = cc
begins_left here path path_is block (next ∷ above) folder rest chain known is =
    let parts = or_parts (lacks_path block) (list_any lacks_path (next ∷ above)) known in
    by (may_be_above block.path here.path) refl parts.0 is (begins_left here path path_is next above folder rest chain.1 parts.1)
  where
    by : (b : Bool) → may_be_above block.path here.path ≡ b → lacks_path block ≡ false → cond b (block ∷ those_above here (next ∷ above)) (those_above here (next ∷ above)) ≡ folder ∷ rest
        → (those_above here (next ∷ above) ≡ folder ∷ rest → outermost rest folder ≡ outermost above next) → outermost rest folder ≡ outermost above next
    by true over lacks is further = λ i. outermost ((rest_is is ∙ all_left here block path path_is over lacks (next ∷ above) chain.0) i) (folder_is is i)
      where
        rest_is : block ∷ those_above here (next ∷ above) ≡ folder ∷ rest → rest ≡ those_above here (next ∷ above)
        rest_is is = cc

        folder_is : block ∷ those_above here (next ∷ above) ≡ folder ∷ rest → folder ≡ block
        folder_is is = cc
    by false over lacks is further = further is

-- ---- a block that is reached

module _ (earlier : List Reading) (here : Reading) (path : List ℕ) (path_is : here.path ≡ Some path) (known : list_any lacks_path earlier ≡ false) (old : Beginning) (is : IsBegun old earlier) where
  -- all ways begin apart then, if they did and if a way that begins here does
  apart_then : (way : List Reading) → way_of earlier here ≡ way → begins_apart earlier here ≡ are_all_apart (beginnings_of earlier ++ if_first here way)
  apart_then way way_is = ap are_all_apart (beginnings-more earlier here ∙ ap (λ way. beginnings_of earlier ++ if_first here way) way_is)

  -- ---- after ways that don't begin apart

  module _ (not_apart : old.apart ≡ false) where
    pub apart_never : begins_apart earlier here ≡ false
    apart_never = apart_then (way_of earlier here) refl ∙ by (way_of earlier here)
      where
        were : are_all_apart (beginnings_of earlier) ≡ false
        were = sym is.apart ∙ not_apart

        by : (way : List Reading) → are_all_apart (beginnings_of earlier ++ if_first here way) ≡ false
        by [] = all_apart-more (beginnings_of earlier) here ∙ ap (λ b. b && is_apart (beginnings_of earlier) here) were
        by (folder ∷ above) = ap are_all_apart (append-nil (beginnings_of earlier)) ∙ were

    pub begun_never : IsBegun old (earlier ++ here ∷ [])
    begun_never = record { apart = not_apart ∙ sym apart_never; roots = λ apart. absurd (never (sym not_apart ∙ apart)); is = λ apart. absurd (never (sym not_apart ∙ apart)) }
      where
        never : false ≡ true → ⊥
        never is = cc

  module _ (all : old.apart ≡ true) where
    -- the outermost block is above it, or isn't
    over_is : (found : Option (Vec ℕ Global)) (bottom : Reading) (b : Bool) → is_begun_above found path ≡ b → option_map (λ path. path.items) found ≡ bottom.path → (found ≡ None → ⊥)
        → may_be_above bottom.path here.path ≡ b
    over_is None bottom b over bottom_is some = absurd (some refl)
    over_is (Some outermost) bottom b over bottom_is some = (λ i. may_be_above (sym bottom_is i) (path_is i)) ∙ over

    -- ---- a way that goes on

    module _ (over : is_begun_above old.path path ≡ true) where
      there : (old.path ≡ None) → ⊥
      there none = never (sym (ap (λ found. is_begun_above found path) none) ∙ over)
        where
          never : false ≡ true → ⊥
          never is = cc

      begun_there : (way : List Reading) → IsBegunOn old way → (bottom : Reading) × (option_map (λ path. path.items) old.path ≡ bottom.path) × BeginsWith (those_above here way) bottom
      begun_there [] none = absurd (there none)
      begun_there (block ∷ above) begun = (outermost above block, begun, begins_still here block above (over_is old.path (outermost above block) true over begun there))

      still : (bottom : Reading) × (option_map (λ path. path.items) old.path ≡ bottom.path) × BeginsWith (way_of earlier here) bottom
      still = begun_there (way_behind earlier) (is.is all)

      outermost_is : outermost (way_of earlier here) here ≡ still.0
      outermost_is = ap (λ way. outermost way here) still.2.is ∙ still.2.same

      beginnings_stay : beginnings_of (earlier ++ here ∷ []) ≡ beginnings_of earlier
      beginnings_stay = beginnings-more earlier here ∙ ap (λ way. beginnings_of earlier ++ if_first here way) still.2.is ∙ append-nil (beginnings_of earlier)

      pub apart_still : begins_apart earlier here ≡ true
      apart_still = ap are_all_apart beginnings_stay ∙ sym is.apart ∙ all

      pub begun_still : IsBegun old (earlier ++ here ∷ [])
      begun_still = record {
        apart = all ∙ sym apart_still;
        roots = λ apart. subst (AreRoots old.roots) (sym beginnings_stay) (is.roots apart);
        is = λ apart. subst (IsBegunOn old) (sym (way_behind-more earlier here)) (still.1 ∙ ap (λ (block : Reading). block.path) (sym outermost_is));
      }

    -- ---- a way that begins

    module _ (apart : is_begun_above old.path path ≡ false) where
      none_there : (way : List Reading) → IsBegunOn old way → IsChain way → list_any lacks_path way ≡ false → those_above here way ≡ []
      none_there [] begun chain none = refl
      none_there (block ∷ above) begun chain none =
          none_above here path path_is block above chain none
          (over_is old.path (outermost above block) false apart begun (λ nothing. has old.path nothing begun))
        where
          has : (found : Option (Vec ℕ Global)) → found ≡ None → option_map (λ path. path.items) found ≡ (outermost above block).path → ⊥
          has found is bottom_is = lacking above block none (sym bottom_is ∙ ap (option_map (λ path. path.items)) is)
            where
              lacking : (above : List Reading) (block : Reading) → list_any lacks_path (block ∷ above) ≡ false → (outermost above block).path ≡ None → ⊥
              lacking [] block none is = never (sym (ap is_none is) ∙ (or_parts (lacks_path block) false none).0)
                where
                  never : true ≡ false → ⊥
                  never is = cc
              lacking (folder ∷ above) block none is = lacking above folder (or_parts (lacks_path block) (list_any lacks_path (folder ∷ above)) none).1 is

      way_is : way_of earlier here ≡ []
      way_is = none_there (way_behind earlier) (is.is all) (chain_on [] earlier tt) (known_on [] earlier refl known)

      beginnings_then : beginnings_of (earlier ++ here ∷ []) ≡ beginnings_of earlier ++ here ∷ []
      beginnings_then = beginnings-more earlier here ∙ ap (λ way. beginnings_of earlier ++ if_first here way) way_is

      pub apart_newly : is_apart (beginnings_of earlier) here ≡ begins_apart earlier here
      apart_newly =
          ap (λ b. b && is_apart (beginnings_of earlier) here) (sym all ∙ is.apart)
          ∙ sym (all_apart-more (beginnings_of earlier) here) ∙ sym (apart_then [] way_is)

      pub begun_newly : (new : Beginning) → new.apart ≡ is_apart (beginnings_of earlier) here → AreRoots new.roots (with_root_if (beginnings_of earlier) here)
          → option_map (λ path. path.items) new.path ≡ Some path → IsBegun new (earlier ++ here ∷ [])
      begun_newly new new_apart new_roots new_path = record {
        apart = new_apart ∙ apart_newly;
        roots = λ now. subst (AreRoots new.roots) (sym beginnings_then)
            (subst (λ b. AreRoots new.roots (cond b (beginnings_of earlier ++ here ∷ []) (beginnings_of earlier))) (sym new_apart ∙ now) new_roots);
        is = λ now. subst (IsBegunOn new) (sym (way_behind-more earlier here)) (new_path ∙ sym path_is ∙ ap (λ way. (outermost way here).path) (sym way_is));
      }
