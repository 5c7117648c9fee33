-- What is kept of all users by their places reports the same as each user's own check.
use Rattle.std.proofs.Common.{◌≡◌, ◌∙◌, ℕ, zero, suc, ◌+◌, ◌<◌, ◌++◌, ◌&&◌, Bool, true, false, cond, List, [], ◌∷◌, Option, add-zero, zero-add, ap, append_assoc, append-nil, arith, get_or, length, length-append, map, refl, sym, take}
use Rattle.std.specs.List.{enumerate_from, filter_map, flat_map, list_all}
use Rattle.std.proofs.lemmas.List.{flat_map_more, map-append, take_more}
use Rattle.std.proofs.lemmas.List.Folds.{list_all-append, list_all_at, list_all-map}
use Rattle.std.proofs.lemmas.List.Elements.{filter_map-append}
use Rattle.acl_access.specs.Marks.{both, mark_in_both, places_from}

-- the places among one item more
places_next : {X : Type 0} (test : X → Bool) (place : ℕ) (items : List X) (at : ℕ) (item : X) → at < length items
    → places_from test place (take (suc at) items) ≡ places_from test place (take at items) ++ cond (test (get_or items at item)) ((place + at) ∷ []) []
places_next test place [] at item within = absurd (omega (arith, within))
places_next test place (first ∷ items) zero item within =
    elim (test first) as (λ b. cond b (place ∷ []) [] ≡ cond b ((place + 0) ∷ []) []) [
      | true ↦ ap (λ (n : ℕ). n ∷ []) (sym (add-zero place))
      | false ↦ refl
    ]
places_next test place (first ∷ items) (suc at) item within =
    let there : ℕ = place + suc at in
    let same : place + 1 + at ≡ there = omega arith in
    let rest : places_from test (place + 1) (take (suc at) items) ≡ places_from test (place + 1) (take at items) ++ cond (test (get_or items at item)) (there ∷ []) [] =
    places_next test (place + 1) items at item (omega (arith, within))
    ∙ ap (λ n. places_from test (place + 1) (take at items) ++ cond (test (get_or items at item)) (n ∷ []) []) same in
    elim (test first) as (λ b. cond b (place ∷ places_from test (place + 1) (take (suc at) items)) (places_from test (place + 1) (take (suc at) items))
    ≡ cond b (place ∷ places_from test (place + 1) (take at items)) (places_from test (place + 1) (take at items)) ++ cond (test (get_or items at item)) (there ∷ []) []) [
      | true ↦ ap (λ more. place ∷ more) rest
      | false ↦ rest
    ]

pub places_more : {X : Type 0} (test : X → Bool) (items : List X) (at : ℕ) (item : X) → at < length items → get_or items at item ≡ item
    → places_from test 0 (take (at + 1) items) ≡ places_from test 0 (take at items) ++ cond (test item) (at ∷ []) []
places_more test items at item within is =
    let next : at + 1 ≡ suc at = omega arith in
    ap (λ n. places_from test 0 (take n items)) next ∙ places_next test 0 items at item within
    ∙ ap (λ item. places_from test 0 (take at items) ++ cond (test item) ((0 + at) ∷ []) []) is
    ∙ ap (λ (n : ℕ). places_from test 0 (take at items) ++ cond (test item) (n ∷ []) []) (zero-add at)

-- each of one item more, with its place
enumerate_next : {X : Type 0} (place : ℕ) (items : List X) (at : ℕ) (item : X) → at < length items
    → enumerate_from place (take (suc at) items) ≡ enumerate_from place (take at items) ++ (place + at, get_or items at item) ∷ []
enumerate_next place [] at item within = absurd (omega (arith, within))
enumerate_next place (first ∷ items) zero item within = ap (λ (n : ℕ). (n, first) ∷ []) (sym (add-zero place))
enumerate_next place (first ∷ items) (suc at) item within =
    let same : place + 1 + at ≡ place + suc at = omega arith in
    ap (λ more. (place, first) ∷ more)
    (enumerate_next (place + 1) items at item (omega (arith, within)) ∙ ap (λ (n : ℕ). enumerate_from (place + 1) (take at items) ++ (n, get_or items at item) ∷ []) same)

pub enumerate_more : {X : Type 0} (items : List X) (at : ℕ) (item : X) → at < length items → get_or items at item ≡ item
    → enumerate_from 0 (take (at + 1) items) ≡ enumerate_from 0 (take at items) ++ (at, item) ∷ []
enumerate_more items at item within is =
    let next : at + 1 ≡ suc at = omega arith in
    ap (λ n. enumerate_from 0 (take n items)) next ∙ enumerate_next 0 items at item within
    ∙ ap (λ item. enumerate_from 0 (take at items) ++ (0 + at, item) ∷ []) is
    ∙ ap (λ (n : ℕ). enumerate_from 0 (take at items) ++ (n, item) ∷ []) (zero-add at)

-- what is made of one item more
module _ {X : Type 0} (items : List X) (at : ℕ) (item : X) (within : at < length items) (here : get_or items at item ≡ item) where
  pub next_marked : {Y : Type 0} (f : ℕ × X → Y) (old new : List Y) (made : Y) → old ≡ map f (enumerate_from 0 (take at items)) → made ≡ f (at, item) → new ≡ old ++ made ∷ []
      → new ≡ map f (enumerate_from 0 (take (at + 1) items))
  next_marked f old new made was is more =
      more ∙ ap (λ front. front ++ made ∷ []) was ∙ ap (λ made. map f (enumerate_from 0 (take at items)) ++ made ∷ []) is
      ∙ sym (map-append f (enumerate_from 0 (take at items)) ((at, item) ∷ [])) ∙ ap (map f) (sym (enumerate_more items at item within here))

  pub next_reported : {Y : Type 0} (f : ℕ × X → List Y) (first old new : List Y) → old ≡ first ++ flat_map f (enumerate_from 0 (take at items)) → new ≡ old ++ f (at, item)
      → new ≡ first ++ flat_map f (enumerate_from 0 (take (at + 1) items))
  next_reported f first old new was more =
      more ∙ ap (λ front. front ++ f (at, item)) was ∙ flat_map_more f first (enumerate_from 0 (take at items)) (at, item)
      ∙ ap (λ items. first ++ flat_map f items) (sym (enumerate_more items at item within here))

  pub next_place : (test : X → Bool) (old new : List ℕ) (b : Bool) → old ≡ places_from test 0 (take at items) → b ≡ test item → new ≡ old ++ cond b (at ∷ []) []
      → new ≡ places_from test 0 (take (at + 1) items)
  next_place test old new b was is more =
      more ∙ ap (λ front. front ++ cond b (at ∷ []) []) was ∙ ap (λ b. places_from test 0 (take at items) ++ cond b (at ∷ []) []) is
      ∙ sym (places_more test items at item within here)

  -- whether all of them pass, as they are shown
  module _ {Y : Type 0} (test : Y → Bool) (shown : X → Y) where
    pub next_passes : list_all test (map shown (take at items)) ≡ true → test (shown item) ≡ true → list_all test (map shown (take (at + 1) items)) ≡ true
    next_passes was is =
        ap (λ items. list_all test (map shown items)) (take_more items at item within ∙ ap (λ item. take at items ++ item ∷ []) here)
        ∙ ap (list_all test) (map-append shown (take at items) (item ∷ [])) ∙ list_all-append test (map shown (take at items)) (shown item ∷ [])
        ∙ ap (λ b. b && (test (shown item) && true)) was ∙ ap (λ b. b && true) is

    pub one_fails : test (shown item) ≡ false → list_all test (map shown items) ≡ false
    one_fails is = list_all-map test shown items ∙ list_all_at (λ item. test (shown item)) items at item within (ap (λ item. test (shown item)) here ∙ is)

  -- of what stands at a place that passes, or of nothing
  module _ (test : X → Bool) {Y Z : Type 0} (f : ℕ → Z) (h : Z → Option Y) where
    abbrev pub Made : List Y → ℕ → Type 0
    Made made count = made ≡ filter_map h (map f (places_from test 0 (take count items)))

    pub next_found : (old new : List Y) → Made old at → test item ≡ true → new ≡ old ++ filter_map h (f at ∷ []) → Made new (at + 1)
    next_found old new was is more =
        let places : places_from test 0 (take (at + 1) items) ≡ places_from test 0 (take at items) ++ at ∷ [] =
        places_more test items at item within here ∙ ap (λ b. places_from test 0 (take at items) ++ cond b (at ∷ []) []) is in
        more ∙ ap (λ front. front ++ filter_map h (f at ∷ [])) was
        ∙ sym (filter_map-append h (map f (places_from test 0 (take at items))) (f at ∷ []))
        ∙ ap (filter_map h) (sym (map-append f (places_from test 0 (take at items)) (at ∷ [])))
        ∙ ap (λ places. filter_map h (map f places)) (sym places)

    pub none_found : (old : List Y) → Made old at → test item ≡ false → Made old (at + 1)
    none_found old was is =
        let places : places_from test 0 (take (at + 1) items) ≡ places_from test 0 (take at items) =
        places_more test items at item within here ∙ ap (λ b. places_from test 0 (take at items) ++ cond b (at ∷ []) []) is ∙ append-nil (places_from test 0 (take at items)) in
        was ∙ ap (λ places. filter_map h (map f places)) (sym places)

-- what stands behind some items
pub at_place : {X Z : Type 0} (f : X → Z) (default : Z) (before after : List X) (item : X) → get_or (map f (before ++ item ∷ after)) (length before) default ≡ f item
at_place f default [] after item = refl
at_place f default (first ∷ before) after item = at_place f default before after item

-- of each item two marks, and both
module _ {X : Type 0} (one other : X → Bool) where
  both_behind : (items before after : List X) (place : ℕ) → items ≡ before ++ after → place ≡ length before
      → map (mark_in_both (map other items)) (enumerate_from place (map one after)) ≡ map (λ item. one item && other item) after
  both_behind items before [] place is there = refl
  both_behind items before (item ∷ after) place is there =
      let next : place + 1 ≡ length (before ++ item ∷ []) = simp length-append (omega (arith, there)) in
      let here : get_or (map other items) place false ≡ other item =
      ap (λ place. get_or (map other items) place false) there
      ∙ ap (λ items. get_or (map other items) (length before) false) is
      ∙ at_place other false before after item in
      ap (λ b. (one item && b) ∷ map (mark_in_both (map other items)) (enumerate_from (place + 1) (map one after))) here
      ∙ ap (λ marks. (one item && other item) ∷ marks)
      (both_behind items (before ++ item ∷ []) after (place + 1) (is ∙ sym (append_assoc before (item ∷ []) after)) next)

  pub both_are : (items : List X) → both (map one items) (map other items) ≡ map (λ item. one item && other item) items
  both_are items = both_behind items [] items 0 refl refl
