-- Paths that are apart from those with which ways begin, by what stands next to them.
use Rattle.std.proofs.Common.{◌≡◌, ◌∙◌, ◌++◌, ◌&&◌, ◌⊎◌, ℕ, Bool, true, false, cond, List, [], ◌∷◌, Option, Some, None, IfSome, ap, append-nil, inl, inr, not, option_map, refl, subst, sym}
use Rattle.std.specs.Cmp.{IsTotalOrder, both_ways, tied_back, tied_itself}
use Rattle.std.specs.Cmp.Lexicographic.{lists_total, nat_list_cmp_total}
use Rattle.std.specs.Cmp.Derive.{both_true}
use Rattle.std.proofs.lemmas.Bool.{and_parts}
use Rattle.std.specs.List.{slice_get}
use Rattle.std.specs.Option.{MatchOption}
use Rattle.std.specs.Borrow.{Bor}
use Rattle.std.specs.Ordering.{is_eq, is_gt, is_lt, match_ordering, ordering_reverse, ordering_then}
use Rattle.std.specs.declared.cmp.Ordering.{Ordering}
use Rattle.std.specs.declared.cmp.Ordering.TheVariants.{Less, Equal, Greater}
use Rattle.std.specs.BTreeMap.Range.{IsLeBy, range_contains}
use Rattle.std.specs.BTreeSet.{BTreeSet, IsKeyInRange, IsKeyRangeOf, contains, insert_key, keys_between}
use Rattle.std.specs.declared.ops.Bound.TheVariants.{Included, Unbounded}
use Rattle.acl_listings.specs.Way.{begin_alike, is_above, is_absolute, steps_cmp, steps_of}
use Rattle.acl_listings.proofs.WayLemmas.{begin-same, begin-trans, begin-turned, is_above-self}
use Rattle.acl_listings.proofs.PlaceLemmas.{LeadsBelow, above-is, above-of, steps-before, steps-between}
use Rattle.acl_listing_queries.specs.Readings.{Reading}
use Rattle.acl_listing_queries.specs.RootSteps.{AreRoots, ComesNoLater, IsFirst, IsKeptBy, IsLast, IsOneOf, apart_if, is_apart, root_cmp, root_steps, root_total, with_root_if}
use Rattle.acl_listing_queries.specs.Ways.{are_apart}
use Rattle.acl_listing_queries.specs.declared.roots.Root.{Root}
use Rattle.acl_listing_queries.specs.declared.roots.Roots.{Roots}
use Rattle.acl_listing_queries.proofs.OneOfLemmas.{all_from, all_pass, any_from, one_of_either, one_of_end, one_of_filter, one_of_front}

-- ---- a kept root is found

pub is_contained : (set : BTreeSet Root) (root : Root) → IsOneOf root set.keys → contains root_cmp set root ≡ true
is_contained set root there = any_from (λ key. is_eq (root_cmp root key)) set.keys root there (ap is_eq (tied_itself root_total root))

turned : (one other : Root) → is_lt (root_cmp one other) ≡ false → ComesNoLater other one
turned one other is = ap is_gt (root_total.antisymm other one) ∙ by (root_cmp one other) is
  where
    by : (o : Ordering) → is_lt o ≡ false → is_gt (ordering_reverse o) ≡ false
    by Less is = cc
    by Equal is = refl
    by Greater is = refl

-- ---- what comes next to a path

module _ (roots : BTreeSet Root) (root : Root) where
  pub last_of : (range rest : List Root) (found : Option (Bor Root)) → range ≡ keys_between root_cmp Unbounded (Included root) roots → IsKeyRangeOf root_cmp Unbounded (Included root) roots range
      → MatchOption found ((range ≡ []) × (rest ≡ [])) (λ last. range ≡ rest ++ last.now ∷ []) → IsLast roots.keys root (option_map (λ last. last.now) found)
  last_of range rest None between has (none, rest_none) = record { is = tt; last = λ other there before. absurd (no other there before) }
    where
      no : (other : Root) → IsOneOf other roots.keys → ComesNoLater other root → ⊥
      no other there before = never (sym (is_contained roots other there) ∙ has.5 none other (tt, before))
        where
          never : true ≡ false → ⊥
          never is = cc
  last_of range rest (Some last) between has are = record {
    is = one_of_filter (range_contains root_cmp Unbounded (Included root)) last.now roots.keys (subst (IsOneOf last.now) (sym are ∙ between) (one_of_end last.now rest));
    last = λ other there before. (last.now, refl, turned last.now other (has.4 last.now rest are other (tt, before) (is_contained roots other there)), (has.3 last.now rest are).0.1);
  }

  pub first_of : (range rest : List Root) (found : Option (Bor Root)) → range ≡ keys_between root_cmp (Included root) Unbounded roots → IsKeyRangeOf root_cmp (Included root) Unbounded roots range
      → MatchOption found ((range ≡ []) × (rest ≡ [])) (λ first. range ≡ first.now ∷ rest) → IsFirst roots.keys root (option_map (λ first. first.now) found)
  first_of range rest None between has (none, rest_none) = record { is = tt; first = λ other there behind. absurd (no other there behind) }
    where
      no : (other : Root) → IsOneOf other roots.keys → ComesNoLater root other → ⊥
      no other there behind = never (sym (is_contained roots other there) ∙ has.5 none other (behind, tt))
        where
          never : true ≡ false → ⊥
          never is = cc
  first_of range rest (Some first) between has are = record {
    is = one_of_filter (range_contains root_cmp (Included root) Unbounded) first.now roots.keys (subst (IsOneOf first.now) (sym are ∙ between) (inl refl));
    first = λ other there behind. (
      first.now,
      refl,
      (subst (λ range. IfSome (slice_get range 0) (IsKeyInRange root_cmp (Included root) Unbounded roots)) are has.1).0.0,
      subst (λ range. IfSome (slice_get range 0) (λ key. IsLeBy root_cmp key other)) are (has.2 other (behind, tt) (is_contained roots other there)),
    );
  }

-- ---- what is added to the kept ones

add_to : (keys : List Root) (key root : Root) → IsOneOf root keys → IsOneOf root (insert_key root_cmp keys key)
add_to [] key root there = absurd there
add_to (first ∷ keys) key root there = by (root_cmp key first) there (add_to keys key root)
  where
    by : (o : Ordering) → IsOneOf root (first ∷ keys) → (IsOneOf root keys → IsOneOf root (insert_key root_cmp keys key))
        → IsOneOf root (match_ordering o (key ∷ first ∷ keys) (first ∷ keys) (first ∷ insert_key root_cmp keys key))
    by Less there rest = inr there
    by Equal there rest = there
    by Greater (inl here) rest = inl here
    by Greater (inr later) rest = inr (rest later)

added_or_there : (keys : List Root) (key root : Root) → IsOneOf root (insert_key root_cmp keys key) → IsOneOf root keys ⊎ (root ≡ key)
added_or_there [] key root (inl here) = inr here
added_or_there [] key root (inr none) = absurd none
added_or_there (first ∷ keys) key root there = by (root_cmp key first) there (added_or_there keys key root)
  where
    or_later : IsOneOf root keys ⊎ (root ≡ key) → IsOneOf root (first ∷ keys) ⊎ (root ≡ key)
    or_later (inl later) = inl (inr later)
    or_later (inr is) = inr is

    by : (o : Ordering) → IsOneOf root (match_ordering o (key ∷ first ∷ keys) (first ∷ keys) (first ∷ insert_key root_cmp keys key))
        → (IsOneOf root (insert_key root_cmp keys key) → IsOneOf root keys ⊎ (root ≡ key)) → IsOneOf root (first ∷ keys) ⊎ (root ≡ key)
    by Less (inl here) rest = inr here
    by Less (inr later) rest = inl later
    by Equal there rest = inl there
    by Greater (inl here) rest = inl (inl here)
    by Greater (inr later) rest = or_later (rest later)

-- one of the same steps
record HasSteps (keys : List Root) (steps : List (List ℕ)) : Type 0 where
  root : Root
  there : IsOneOf root keys
  same : root_steps root ≡ steps

steps_total : IsTotalOrder steps_cmp
steps_total = lists_total nat_list_cmp_total

longer : (steps : List (List ℕ)) (step : List ℕ) (more : List (List ℕ)) → steps_cmp steps (steps ++ step ∷ more) ≡ Equal → ⊥
longer [] step more tied = never tied
  where
    never : Less ≡ Equal → ⊥
    never is = cc
longer (first ∷ steps) step more tied =
    longer steps step more (ap (λ o. ordering_then o (steps_cmp steps (steps ++ step ∷ more))) (sym (tied_itself nat_list_cmp_total first)) ∙ tied)

steps_tied : (one other : List (List ℕ)) → steps_cmp one other ≡ Equal → other ≡ one
steps_tied one other tied = by (steps-between one other [] (ap is_gt tied) (ap is_gt (ap (steps_cmp other) (append-nil one) ∙ tied_back steps_total one other tied)))
  where
    by : (more : List (List ℕ)) × (other ≡ one ++ more) → other ≡ one
    by ([], is) = is ∙ append-nil one
    by (step ∷ more, is) = absurd (longer one step more (ap (steps_cmp one) (sym is) ∙ tied))

now_kept : (keys : List Root) (key : Root) → HasSteps (insert_key root_cmp keys key) (root_steps key)
now_kept [] key = record { root = key; there = inl refl; same = refl }
now_kept (first ∷ keys) key = by (root_cmp key first) refl (now_kept keys key)
  where
    by : (o : Ordering) → root_cmp key first ≡ o → HasSteps (insert_key root_cmp keys key) (root_steps key)
        → HasSteps (match_ordering o (key ∷ first ∷ keys) (first ∷ keys) (first ∷ insert_key root_cmp keys key)) (root_steps key)
    by Less is rest = record { root = key; there = inl refl; same = refl }
    by Equal is rest = record { root = first; there = inl refl; same = steps_tied (root_steps key) (root_steps first) is }
    by Greater is rest = record { root = rest.root; there = inr rest.there; same = rest.same }

-- ---- what is above, and apart

-- both paths begin alike, and neither is above the other
record Apart (one other : List ℕ) : Type 0 where
  alike : begin_alike (is_absolute one) (is_absolute other) ≡ true
  not_above : is_above one other ≡ false
  not_below : is_above other one ≡ false

apart-is : (one other : List ℕ) → are_apart (Some one) (Some other) ≡ true → Apart one other
apart-is one other apart = by (begin_alike (is_absolute one) (is_absolute other)) refl (is_above one other) refl (is_above other one) refl apart
  where
    by : (b : Bool) → begin_alike (is_absolute one) (is_absolute other) ≡ b → (c : Bool) → is_above one other ≡ c → (d : Bool) → is_above other one ≡ d
        → (b && (not c && not d)) ≡ true → Apart one other
    by true alike false above false below apart = record { alike = alike; not_above = above; not_below = below }
    by true alike false above true below apart = cc
    by true alike true above d below apart = cc
    by false alike c above d below apart = cc

apart-of : (one other : List ℕ) → Apart one other → are_apart (Some one) (Some other) ≡ true
apart-of one other apart =
    ap (λ b. b && (not (is_above one other) && not (is_above other one))) apart.alike ∙ ap (λ b. not b && not (is_above other one)) apart.not_above ∙ ap not apart.not_below

pub apart_from_itself : (path : List ℕ) → are_apart (Some path) (Some path) ≡ true
apart_from_itself path = apart-of path path (record { alike = begin-same (is_absolute path); not_above = is_above-self path; not_below = is_above-self path })

pub apart_turned : (one other : Option (List ℕ)) → are_apart one other ≡ true → are_apart other one ≡ true
apart_turned None other apart = cc
apart_turned (Some one) None apart = cc
apart_turned (Some one) (Some other) apart =
    let is = apart-is one other apart in
    apart-of other one (record { alike = begin-turned (is_absolute one) (is_absolute other) is.alike; not_above = is.not_below; not_below = is.not_above })

-- each of these is apart from each
abbrev pub AreAllApart : List Reading → Type 0
AreAllApart blocks = (one other : Reading) → IsOneOf one blocks → IsOneOf other blocks → are_apart one.path other.path ≡ true

-- and still with one more
pub all_apart_with : (blocks : List Reading) (here : Reading) (path : List ℕ) → here.path ≡ Some path → is_apart blocks here ≡ true → AreAllApart blocks → AreAllApart (blocks ++ here ∷ [])
all_apart_with blocks here path path_is apart all one other there too = by (one_of_either one here blocks there) (one_of_either other here blocks too)
  where
    here_apart : (block : Reading) → IsOneOf block blocks → are_apart block.path here.path ≡ true
    here_apart = all_pass (λ block. are_apart block.path here.path) blocks apart

    by : IsOneOf one blocks ⊎ (one ≡ here) → IsOneOf other blocks ⊎ (other ≡ here) → are_apart one.path other.path ≡ true
    by (inl one_in) (inl other_in) = all one other one_in other_in
    by (inl one_in) (inr is) = ap (λ (block : Reading). are_apart one.path block.path) is ∙ here_apart one one_in
    by (inr is) (inl other_in) = ap (λ (block : Reading). are_apart block.path other.path) is ∙ apart_turned other.path here.path (here_apart other other_in)
    by (inr is) (inr it_is) = (λ i. are_apart (is i).path (it_is i).path) ∙ (λ i. are_apart (path_is i) (path_is i)) ∙ apart_from_itself path

-- of a path that is apart from each that comes next to it
module _ (blocks : List Reading) (roots : Roots) (are : AreRoots roots blocks) (root : Root) where
  abbrev keys : List Root
  keys = roots.paths.keys

  abbrev path : List ℕ
  path = root.path.items

  pair_apart : (one other : Reading) (own more : List ℕ) → IsOneOf one blocks → IsOneOf other blocks → one.path ≡ Some own → other.path ≡ Some more → Apart own more
  pair_apart one other own more there too is are_it =
      apart-is own more (ap (λ path. are_apart path (Some more)) (sym is) ∙ ap (are_apart one.path) (sym are_it) ∙ are.apart one other there too)

  -- a kept path is apart from it
  record IsBeside (key : Root) : Type 0 where
    there : IsOneOf key keys
    apart : Apart key.path.items path

  -- and from the path of each block
  module _ (block : Reading) (own : List ℕ) (among : IsOneOf block blocks) (own_is : block.path ≡ Some own) where
    before_own : (key : Root) → IsOneOf key keys → Apart key.path.items own
    before_own key there = let its = are.each key there in pair_apart its.0 block key.path.items own its.1 among its.2 own_is

    behind_own : (key : Root) → IsOneOf key keys → Apart own key.path.items
    behind_own key there = let its = are.each key there in pair_apart block its.0 own key.path.items among its.1 own_is its.2

    begins_alike : (key : Root) → IsBeside key → begin_alike (is_absolute own) (is_absolute path) ≡ true
    begins_alike key beside = begin-trans (is_absolute own) (is_absolute key.path.items) (is_absolute path) (behind_own key beside.there).alike beside.apart.alike

    -- if it isn't above the path, of those that come before the path the last isn't
    not_above_it : (key : Root) → IsBeside key → is_gt (steps_cmp (steps_of own) (root_steps key)) ≡ false → ComesNoLater key root → is_above own path ≡ true → ⊥
    not_above_it key beside behind before above = by (steps-between (steps_of own) (root_steps key) (found.0 ∷ found.1) behind (subst (λ steps. is_gt (steps_cmp (root_steps key) steps) ≡ false) found.2.steps before))
      where
        found : (step : List ℕ) × (rest : List (List ℕ)) × LeadsBelow own path (step ∷ rest)
        found = above-is own path above

        never : false ≡ true → ⊥
        never is = cc

        by : (more : List (List ℕ)) × (root_steps key ≡ steps_of own ++ more) → ⊥
        by ([], same) =
            never (sym beside.apart.not_above
            ∙ above-of key.path.items path found.0 found.1 (record { alike = beside.apart.alike; steps = found.2.steps ∙ ap (λ steps. steps ++ (found.0 ∷ found.1)) (sym (append-nil (steps_of own)) ∙ sym same) }))
        by (step ∷ more, is) = never (sym (behind_own key beside.there).not_above ∙ above-of own key.path.items step more (record { alike = (behind_own key beside.there).alike; steps = is }))

    -- nor is it below
    not_below_it : (key : Root) → IsBeside key → ComesNoLater root key → is_gt (steps_cmp (root_steps key) (steps_of own)) ≡ false → is_above path own ≡ true → ⊥
    not_below_it key beside behind before above = by (steps-between (root_steps root) (root_steps key) (found.0 ∷ found.1) behind (subst (λ steps. is_gt (steps_cmp (root_steps key) steps) ≡ false) found.2.steps before))
      where
        found : (step : List ℕ) × (rest : List (List ℕ)) × LeadsBelow path own (step ∷ rest)
        found = above-is path own above

        never : false ≡ true → ⊥
        never is = cc

        by : (more : List (List ℕ)) × (root_steps key ≡ root_steps root ++ more) → ⊥
        by ([], same) =
            never (sym (before_own key beside.there).not_above
            ∙ above-of key.path.items own found.0 found.1
            (record { alike = (before_own key beside.there).alike; steps = found.2.steps ∙ ap (λ steps. steps ++ (found.0 ∷ found.1)) (sym (append-nil (root_steps root)) ∙ sym same) }))
        by (step ∷ more, is) =
            never (sym beside.apart.not_below
            ∙ above-of path key.path.items step more (record { alike = begin-turned (is_absolute key.path.items) (is_absolute path) beside.apart.alike; steps = is }))

  -- ---- by the last before the path, and the first behind it

  module _ (before after : Option Root) (last : IsLast keys root before) (first : IsFirst keys root after) where
    module _ (beside_before : (key : Root) → before ≡ Some key → IsBeside key) (beside_after : (key : Root) → after ≡ Some key → IsBeside key)
        (block : Reading) (own : List ℕ) (among : IsOneOf block blocks) (own_is : block.path ≡ Some own) where
      kept : IsKeptBy keys block
      kept = are.all block among

      its_own : steps_of kept.path ≡ steps_of own
      its_own = by (sym kept.path_is ∙ own_is)
        where
          by : Some kept.path ≡ Some own → steps_of kept.path ≡ steps_of own
          by is = cc

      kept_steps : root_steps kept.root ≡ steps_of own
      kept_steps = kept.same ∙ its_own

      -- one of both is there
      some_beside : (key : Root) × IsBeside key
      some_beside = by (is_gt (root_cmp kept.root root)) refl
        where
          by : (b : Bool) → is_gt (root_cmp kept.root root) ≡ b → (key : Root) × IsBeside key
          by false is = let found = last.last kept.root kept.there is in (found.0, beside_before found.0 found.1)
          by true is = let found = first.first kept.root kept.there (turned kept.root root (not_less (root_cmp kept.root root) is)) in (found.0, beside_after found.0 found.1)
            where
              not_less : (o : Ordering) → is_gt o ≡ true → is_lt o ≡ false
              not_less Less is = cc
              not_less Equal is = refl
              not_less Greater is = refl

      none_above : is_above own path ≡ false
      none_above = by (is_above own path) refl
        where
          no : is_above own path ≡ true → ⊥
          no above =
              let far = above-is own path above in
              let near : ComesNoLater kept.root root = ap is_gt (λ i. steps_cmp (kept_steps i) (far.2.steps i)) ∙ steps-before (steps_of own) (far.0 ∷ far.1) in
              let found = last.last kept.root kept.there near in
              not_above_it block own among own_is found.0 (beside_before found.0 found.1) (subst (λ steps. is_gt (steps_cmp steps (root_steps found.0)) ≡ false) kept_steps found.2) found.3 above

          by : (b : Bool) → is_above own path ≡ b → is_above own path ≡ false
          by true is = absurd (no is)
          by false is = is

      none_below : is_above path own ≡ false
      none_below = by (is_above path own) refl
        where
          no : is_above path own ≡ true → ⊥
          no above =
              let far = above-is path own above in
              let near : ComesNoLater root kept.root = ap is_gt (λ i. steps_cmp (root_steps root) ((kept_steps ∙ far.2.steps) i)) ∙ steps-before (root_steps root) (far.0 ∷ far.1) in
              let found = first.first kept.root kept.there near in
              not_below_it block own among own_is found.0 (beside_after found.0 found.1) found.2 (subst (λ steps. is_gt (steps_cmp (root_steps found.0) steps) ≡ false) kept_steps found.3) above

          by : (b : Bool) → is_above path own ≡ b → is_above path own ≡ false
          by true is = absurd (no is)
          by false is = is

      apart_from_it : are_apart (Some own) (Some path) ≡ true
      apart_from_it = apart-of own path (record { alike = begins_alike block own among own_is some_beside.0 some_beside.1; not_above = none_above; not_below = none_below })

    module _ (here : Reading) (here_is : here.path ≡ Some path) where
      abbrev near_apart : Bool
      near_apart = apart_if (option_map (λ (key : Root). key.path.items) before) path && apart_if (option_map (λ (key : Root). key.path.items) after) path

      all_apart : near_apart ≡ true → is_apart blocks here ≡ true
      all_apart near = all_from (λ block. are_apart block.path here.path) blocks each
        where
          beside : (found : Option Root) → IfSome found (λ key. IsOneOf key keys) → apart_if (option_map (λ (key : Root). key.path.items) found) path ≡ true → (key : Root) → found ≡ Some key → IsBeside key
          beside (Some own) there apart key is = subst IsBeside (inner is) (record { there = there; apart = apart-is own.path.items path apart })
            where
              inner : Some own ≡ Some key → own ≡ key
              inner is = cc
          beside None there apart key is = cc

          each : (block : Reading) → IsOneOf block blocks → are_apart block.path here.path ≡ true
          each block among =
              let kept = are.all block among in
              let both = and_parts (apart_if (option_map (λ (key : Root). key.path.items) before) path) (apart_if (option_map (λ (key : Root). key.path.items) after) path) near in
              (λ i. are_apart (kept.path_is i) (here_is i))
              ∙ apart_from_it (beside before last.is both.0) (beside after first.is both.1) block kept.path among kept.path_is

      near_too : is_apart blocks here ≡ true → near_apart ≡ true
      near_too all = both_true (by before last.is) (by after first.is)
        where
          by : (found : Option Root) → IfSome found (λ key. IsOneOf key keys) → apart_if (option_map (λ (key : Root). key.path.items) found) path ≡ true
          by None there = refl
          by (Some key) there =
              let its = are.each key there in
              (λ i. are_apart (sym its.2 i) (sym here_is i)) ∙ all_pass (λ block. are_apart block.path here.path) blocks all its.0 its.1

      near-apart : near_apart ≡ is_apart blocks here
      near-apart = both_ways near_apart (is_apart blocks here) all_apart near_too

-- the paths of what comes next to it
pub shown_path : (found : Option (Bor Root)) → option_map (λ root. root.now.path.items) found ≡ option_map (λ (key : Root). key.path.items) (option_map (λ root. root.now) found)
shown_path None = refl
shown_path (Some root) = refl

pub near_it : (blocks : List Reading) (roots : Roots) (here : Reading) (root : Root) (before after : Option (Bor Root)) → IsLast roots.paths.keys root (option_map (λ last. last.now) before)
    → IsFirst roots.paths.keys root (option_map (λ first. first.now) after) → AreRoots roots blocks → here.path ≡ Some root.path.items
    → (apart_if (option_map (λ root. root.now.path.items) before) root.path.items && apart_if (option_map (λ root. root.now.path.items) after) root.path.items) ≡ is_apart blocks here
near_it blocks roots here root before after last first are here_is =
    (λ i. apart_if (shown_path before i) root.path.items && apart_if (shown_path after i) root.path.items)
    ∙ near-apart blocks roots are root (option_map (λ last. last.now) before) (option_map (λ first. first.now) after) last first here here_is

-- ---- one root more

module _ (blocks : List Reading) (old new : Roots) (are : AreRoots old blocks) (key : Root) (here : Reading) (here_is : here.path ≡ Some key.path.items)
    (apart : is_apart blocks here ≡ true) (added : new.paths.keys ≡ insert_key root_cmp old.paths.keys key) where
  in_new : (root : Root) → IsOneOf root (insert_key root_cmp old.paths.keys key) → IsOneOf root new.paths.keys
  in_new root there = subst (IsOneOf root) (sym added) there

  each_of_them : (root : Root) → IsOneOf root new.paths.keys → (block : Reading) × IsOneOf block (blocks ++ here ∷ []) × (block.path ≡ Some root.path.items)
  each_of_them root there = by (added_or_there old.paths.keys key root (subst (IsOneOf root) added there))
    where
      by : IsOneOf root old.paths.keys ⊎ (root ≡ key) → (block : Reading) × IsOneOf block (blocks ++ here ∷ []) × (block.path ≡ Some root.path.items)
      by (inl before) = let its = are.each root before in (its.0, one_of_front its.0 blocks (here ∷ []) its.1, its.2)
      by (inr is) = (here, one_of_end here blocks, here_is ∙ ap (λ (root : Root). Some root.path.items) (sym is))

  kept_too : (block : Reading) → IsOneOf block (blocks ++ here ∷ []) → IsKeptBy new.paths.keys block
  kept_too block among = by (one_of_either block here blocks among)
    where
      by : IsOneOf block blocks ⊎ (block ≡ here) → IsKeptBy new.paths.keys block
      by (inl before) =
          let kept = are.all block before in
          record { root = kept.root; there = in_new kept.root (add_to old.paths.keys key kept.root kept.there); path = kept.path; path_is = kept.path_is; same = kept.same }
      by (inr is) =
          let its = now_kept old.paths.keys key in
          record { root = its.root; there = in_new its.root its.there; path = key.path.items; path_is = ap (λ (block : Reading). block.path) is ∙ here_is; same = its.same }

  pub roots_with : AreRoots new (with_root_if blocks here)
  roots_with = subst (λ b. AreRoots new (cond b (blocks ++ here ∷ []) blocks)) (sym apart) (record { apart = all_apart_with blocks here key.path.items here_is apart are.apart; each = each_of_them; all = kept_too })

-- a path that isn't apart is none
pub roots_without : (blocks : List Reading) (roots : Roots) (here : Reading) → AreRoots roots blocks → is_apart blocks here ≡ false → AreRoots roots (with_root_if blocks here)
roots_without blocks roots here are not_apart = subst (λ b. AreRoots roots (cond b (blocks ++ here ∷ []) blocks)) (sym not_apart) are
