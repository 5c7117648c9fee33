-- The places of the blocks that have a path, and the marks of those that were met.
use Rattle.std.proofs.Common.{◌≡◌, ◌∙◌, ◌<◌, ◌≤◌, ◌+◌, ◌-◌, ◌&&◌, ◌||◌, ◌++◌, ℕ, zero, suc, Bool, true, false, cond}
use Rattle.std.proofs.Common.{List, [], ◌∷◌, Option, Some, None, ap, arith, bytes_eq, drop, drop-cons}
use Rattle.std.proofs.Common.{get_or, is_some, length, map, nat_lt, option_and_then, option_map}
use Rattle.std.proofs.Common.{refl, replicate, set, subst, sym, take, eq-eqb}
use Rattle.std.specs.List.{find, list_any}
use Rattle.std.specs.Option.{option_map_or}
use Rattle.std.specs.Prelude.{nat_eq, slice_get, unwrap_or}
use Rattle.std.proofs.lemmas.Bool.{or_parts, true≢false}
use Rattle.std.proofs.Math.Bool.{or-false, or-true}
use Rattle.std.proofs.lemmas.Bool.Decides.{Decides-eqb, nat_tests}
use Rattle.std.proofs.lemmas.List.{drop_all, get_or-map, get_or-replicate, get_or-set_other, get_or-set_same}
use Rattle.std.proofs.lemmas.List.{length-map, length-replicate, length-set}
use Rattle.std.proofs.lemmas.List.Folds.{list_any-append}
use Rattle.std.proofs.lemmas.Option.{slice_get_within}
use Rattle.std.proofs.lemmas.Slice.Eq.{bytes_eq-Decides}
use Rattle.acl_names.proofs.AnyLemmas.{list_any-agree}
use Rattle.acl_listings.specs.Block.{path_of}
use Rattle.acl_listings.specs.Listing.{Block}
use Rattle.acl_reports.specs.Paths.{block_for, has_path, is_among, lists}
use Rattle.acl_listing_changes.specs.ChangeSteps.{AreMet, is_marked, is_met, is_place, with_mark}
use Rattle.acl_listing_changes.specs.Kept.{block_of, first_place, is_earlier, place_of}
use Rattle.acl_listing_changes.specs.declared.between.kept.KeptBlock.{KeptBlock}

none_below : (place : ℕ) → nat_lt place 0 ≡ false
none_below place = grind (arith, nat_tests)

first_below : (count : ℕ) → nat_lt 0 (suc count) ≡ true
first_below count = grind (arith, nat_tests)

both_more : (place count : ℕ) → nat_lt (suc place) (suc count) ≡ nat_lt place count
both_more place count = grind (arith, nat_tests)

module _ {X : Type 0} (test : X → Bool) where
  -- the test passes at one of the first if the first place where it does is one of them
  pub any_of_first : (count : ℕ) (items : List X) → list_any test (take count items) ≡ option_map_or (λ place. nat_lt place count) (first_place test items) false
  any_of_first zero items = by (first_place test items)
    where
      by : (found : Option ℕ) → false ≡ option_map_or (λ place. nat_lt place 0) found false
      by None = refl
      by (Some place) = sym (none_below place)
  any_of_first (suc count) [] = refl
  any_of_first (suc count) (here ∷ items) = by (test here) (any_of_first count items)
    where
      later : (found : Option ℕ) → option_map_or (λ place. nat_lt place count) found false ≡ option_map_or (λ place. nat_lt place (suc count)) (option_map suc found) false
      later None = refl
      later (Some place) = sym (both_more place count)

      by : (b : Bool) → list_any test (take count items) ≡ option_map_or (λ place. nat_lt place count) (first_place test items) false → (b || list_any test (take count items))
          ≡ option_map_or (λ place. nat_lt place (suc count)) (cond b (Some 0) (option_map suc (first_place test items))) false
      by true more = sym (first_below count)
      by false more = more ∙ later (first_place test items)

  -- what stands there is what is found
  pub find_place : (items : List X) → find test items ≡ option_and_then (slice_get items) (first_place test items)
  find_place [] = refl
  find_place (here ∷ items) = by (test here) (find_place items)
    where
      later : (found : Option ℕ) → option_and_then (slice_get items) found ≡ option_and_then (slice_get (here ∷ items)) (option_map suc found)
      later None = refl
      later (Some place) = refl

      by : (b : Bool) → find test items ≡ option_and_then (slice_get items) (first_place test items)
          → cond b (Some here) (find test items) ≡ option_and_then (slice_get (here ∷ items)) (cond b (Some 0) (option_map suc (first_place test items)))
      by true more = refl
      by false more = more ∙ later (first_place test items)

  -- the test passes there

  abbrev Passes : List X → Type 0
  Passes items = (place : ℕ) → first_place test items ≡ Some place → (item : X) × (slice_get items place ≡ Some item) × (test item ≡ true)

  pub passes_there : (items : List X) (place : ℕ) → first_place test items ≡ Some place → (item : X) × (slice_get items place ≡ Some item) × (test item ≡ true)
  passes_there [] place is = cc
  passes_there (here ∷ items) place is = by (test here) refl (passes_there items) is
    where
      later : (found : Option ℕ) → Passes items → first_place test items ≡ found → option_map suc found ≡ Some place → (item : X) × (slice_get (here ∷ items) place ≡ Some item) × (test item ≡ true)
      later None more none same = cc
      later (Some before) more found same =
          let (item, at, passes) = more before found in
          let is : suc before ≡ place = cc in
          (item, subst (λ place. slice_get (here ∷ items) place ≡ Some item) is at, passes)

      by : (b : Bool) → test here ≡ b → Passes items → cond b (Some 0) (option_map suc (first_place test items)) ≡ Some place
          → (item : X) × (slice_get (here ∷ items) place ≡ Some item) × (test item ≡ true)
      by true passes more same =
          let is : zero ≡ place = cc in
          (here, subst (λ place. slice_get (here ∷ items) place ≡ Some here) is refl, passes)
      by false fails more same = later (first_place test items) more refl same

-- where it passes, but nowhere before, is the first place
pub first_here : {X : Type 0} (test : X → Bool) (earlier : List X) (here : X) (rest : List X) → list_any test earlier ≡ false → test here ≡ true
    → first_place test (earlier ++ here ∷ rest) ≡ Some (length earlier)
first_here test [] here rest none passes = ap (λ b. cond b (Some 0) (option_map suc (first_place test rest))) passes
first_here test (item ∷ earlier) here rest none passes =
    let parts = or_parts (test item) (list_any test earlier) none in
    ap (λ b. cond b (Some 0) (option_map suc (first_place test (earlier ++ here ∷ rest)))) parts.0
    ∙ ap (option_map suc) (first_here test earlier here rest parts.1 passes)

-- it passes somewhere if it does at a first place
pub any_place : {X : Type 0} (test : X → Bool) (items : List X) → list_any test items ≡ is_some (first_place test items)
any_place test [] = refl
any_place test (here ∷ items) = by (test here) (any_place test items)
  where
    later : (found : Option ℕ) → is_some found ≡ is_some (option_map suc found)
    later None = refl
    later (Some place) = refl

    by : (b : Bool) → list_any test items ≡ is_some (first_place test items) → (b || list_any test items) ≡ is_some (cond b (Some 0) (option_map suc (first_place test items)))
    by true more = refl
    by false more = more ∙ later (first_place test items)

-- ---- the path of a block

-- a block that has a path has no other
one_path : (path other : List ℕ) (block : Block) → has_path path block ≡ true → has_path other block ≡ true → path ≡ other
one_path path other block = by (path_of block.text)
  where
    by : (own : Option (List ℕ)) → option_map_or (bytes_eq path) own false ≡ true → option_map_or (bytes_eq other) own false ≡ true → path ≡ other
    by None first second = cc
    by (Some own) first second = (bytes_eq-Decides path own).0 first ∙ sym ((bytes_eq-Decides other own).0 second)

module _ (before : List Block) (path : List ℕ) (place : ℕ) (first : first_place (has_path path) before ≡ Some place) where
  -- if another path is first at the same place, it is the same
  same_path : (other : List ℕ) → first_place (has_path other) before ≡ Some place → path ≡ other
  same_path other is =
      let (block, at, has) = passes_there (has_path path) before place first in
      let (again, there, had) = passes_there (has_path other) before place is in
      let same : again ≡ block = ap (λ found. unwrap_or found block) (sym there ∙ at) in
      one_path path other block has (subst (λ block. has_path other block ≡ true) same had)

  -- so a block has the path if the place of its own path is this one
  met_alike : (block : Block) → is_place place (place_of before block.text) ≡ has_path path block
  met_alike block = by (path_of block.text)
    where
      at : (other : List ℕ) (found : Option ℕ) → first_place (has_path other) before ≡ found → (b : Bool) → bytes_eq path other ≡ b → option_map_or (nat_eq place) found false ≡ b
      at other found is true same =
          let known : Some place ≡ found = sym first ∙ ap (λ path. first_place (has_path path) before) ((bytes_eq-Decides path other).0 same) ∙ is in
          ap (λ o. option_map_or (nat_eq place) o false) (sym known) ∙ eq-eqb place place refl
      at other None is false apart = refl
      at other (Some there) is false apart = differ (nat_eq place there) refl
        where
          differ : (b : Bool) → nat_eq place there ≡ b → b ≡ false
          differ false apart = refl
          differ true same_place =
              let there_is : place ≡ there = (Decides-eqb place there).0 same_place in
              let same : path ≡ other = same_path other (is ∙ ap (λ (n : ℕ). Some n) (sym there_is)) in
              sym ((bytes_eq-Decides path other).1 same) ∙ apart

      by : (own : Option (List ℕ)) → is_place place (option_and_then (λ path. first_place (has_path path) before) own) ≡ option_map_or (bytes_eq path) own false
      by None = refl
      by (Some other) = at other (first_place (has_path other) before) refl (bytes_eq path other) refl

  -- and the place is met where the path is among the blocks after
  pub met_among : (after : List Block) → is_met before after place ≡ is_among path after
  met_among after = list_any-agree (λ block. is_place place (place_of before block.text)) (has_path path) met_alike after

module _ (before : List Block) where
  -- what a mark says of the next block
  pub marks_repeat : (seen : List Block) (met : List Bool) → AreMet before seen met → (text : List ℕ)
      → is_marked met (place_of before text) ≡ (lists before text && lists seen text)
  marks_repeat seen met are text = by (path_of text)
    where
      at : (path : List ℕ) (found : Option ℕ) → first_place (has_path path) before ≡ found
          → is_marked met found ≡ (is_some found && is_among path seen)
      at path None is = refl
      at path (Some place) is =
          let (here, there, has) = passes_there (has_path path) before place is in
          are.each place (slice_get_within before place here there) ∙ met_among before path place is seen

      by : (own : Option (List ℕ)) → is_marked met (option_and_then (λ path. first_place (has_path path) before) own)
          ≡ (option_map_or (λ path. is_among path before) own false && option_map_or (λ path. is_among path seen) own false)
      by None = refl
      by (Some path) =
          at path (first_place (has_path path) before) refl
          ∙ ap (λ some. some && is_among path seen) (sym (any_place (has_path path) before))

  -- a block of the listing repeats a path exactly if the place of the path is an earlier one
  pub earlier_repeats : (place : ℕ) (text : List ℕ) → is_earlier place (place_of before text) ≡ lists (take place before) text
  earlier_repeats place text = by (path_of text)
    where
      by : (own : Option (List ℕ)) → is_earlier place (option_and_then (λ path. first_place (has_path path) before) own)
          ≡ option_map_or (λ path. is_among path (take place before)) own false
      by None = refl
      by (Some path) = sym (any_of_first (has_path path) place before)

  -- what is found by a path is what stands at its place
  pub found_there : (text : List ℕ) → option_and_then (slice_get before) (place_of before text) ≡ block_for before text
  found_there text = by (path_of text)
    where
      by : (own : Option (List ℕ)) → option_and_then (slice_get before) (option_and_then (λ path. first_place (has_path path) before) own)
          ≡ option_and_then (λ path. find (has_path path) before) own
      by None = refl
      by (Some path) = sym (find_place (has_path path) before)

  -- a path is known where it has a place
  pub place_known : (text : List ℕ) → is_some (place_of before text) ≡ lists before text
  place_known text = by (path_of text)
    where
      by : (own : Option (List ℕ)) → is_some (option_and_then (λ path. first_place (has_path path) before) own) ≡ option_map_or (λ path. is_among path before) own false
      by None = refl
      by (Some path) = sym (any_place (has_path path) before)

  -- ---- the mark of a block that repeats no path

  module _ (earlier : List Block) (here : Block) (rest : List Block) (whole : before ≡ earlier ++ here ∷ rest) where
    abbrev own_place : ℕ
    own_place = length earlier

    stands_at : (earlier : List Block) → slice_get (earlier ++ here ∷ rest) (length earlier) ≡ Some here
    stands_at [] = refl
    stands_at (block ∷ earlier) = stands_at earlier

    pub stands_there : slice_get before own_place ≡ Some here
    stands_there = ap (λ blocks. slice_get blocks own_place) whole ∙ stands_at earlier

    -- no block has the place if the one there has no path
    lacks_alike : path_of here.text ≡ None → (block : Block) → is_place own_place (place_of before block.text) ≡ false
    lacks_alike none block = by (path_of block.text)
      where
        at : (path : List ℕ) (found : Option ℕ) → first_place (has_path path) before ≡ found → (b : Bool) → is_place own_place found ≡ b → b ≡ false
        at path found is false same = refl
        at path None is true same = sym same
        at path (Some other) is true same =
            let equal : own_place ≡ other = (Decides-eqb own_place other).0 same in
            let (block, stands, has) = passes_there (has_path path) before other is in
            let one : here ≡ block = ap (λ found. unwrap_or found here) (sym stands_there ∙ ap (slice_get before) equal ∙ stands) in
            let lacks : has_path path here ≡ false = ap (λ own. option_map_or (bytes_eq path) own false) none in
            absurd (true≢false (sym has ∙ ap (has_path path) (sym one) ∙ lacks))

        by : (own : Option (List ℕ)) → is_place own_place (option_and_then (λ path. first_place (has_path path) before) own) ≡ false
        by None = refl
        by (Some path) = at path (first_place (has_path path) before) refl (is_place own_place (first_place (has_path path) before)) refl

    none_of : (after : List Block) → list_any (λ (block : Block). false) after ≡ false
    none_of [] = refl
    none_of (block ∷ after) = none_of after

    pub mark_lists : lists earlier here.text ≡ false → (after : List Block) → is_met before after own_place ≡ lists after here.text
    mark_lists once after = by (path_of here.text) refl
      where
        by : (own : Option (List ℕ)) → path_of here.text ≡ own → is_met before after own_place ≡ option_map_or (λ path. is_among path after) own false
        by None is = list_any-agree (λ block. is_place own_place (place_of before block.text)) (λ block. false) (lacks_alike is) after ∙ none_of after
        by (Some path) is =
            let lacks : is_among path earlier ≡ false = ap (λ own. option_map_or (λ path. is_among path earlier) own false) (sym is) ∙ once in
            let has : has_path path here ≡ true = ap (λ own. option_map_or (bytes_eq path) own false) is ∙ (bytes_eq-Decides path path).1 refl in
            met_among before path own_place (ap (first_place (has_path path)) whole ∙ first_here (has_path path) earlier here rest lacks has) after

-- ---- the marks

module _ (before seen : List Block) (met : List Bool) (are : AreMet before seen met) (block : Block) where
  -- the marks of one block more
  pub met_more : AreMet before (seen ++ block ∷ []) (with_mark met (place_of before block.text))
  met_more = by (place_of before block.text) refl
    where
      more : (place : ℕ) (found : Option ℕ) → place_of before block.text ≡ found → is_met before (seen ++ block ∷ []) place ≡ (is_met before seen place || is_place place found)
      more place found is =
          list_any-append (λ block. is_place place (place_of before block.text)) seen (block ∷ [])
          ∙ ap (λ found. is_met before seen place || (is_place place found || false)) is
          ∙ ap (λ b. is_met before seen place || b) (or-false (is_place place found))

      by : (found : Option ℕ) → place_of before block.text ≡ found → AreMet before (seen ++ block ∷ []) (with_mark met found)
      by None is = record {
        count = are.count;
        each = λ place within. are.each place within ∙ sym (more place None is ∙ or-false (is_met before seen place));
      }
      by (Some here) is = record {
        count = length-set met here true ∙ are.count;
        each = λ place within. at place within (nat_eq place here) refl ∙ sym (more place (Some here) is);
      }
        where
          at : (place : ℕ) → place < length before → (b : Bool) → nat_eq place here ≡ b → get_or (set met here true) place false ≡ (is_met before seen place || nat_eq place here)
          at place within true same =
              let there : place ≡ here = (Decides-eqb place here).0 same in
              let inside : here < length met = omega (arith, within, there, are.count) in
              ap (λ n. get_or (set met here true) n false) there ∙ get_or-set_same met here true false inside
              ∙ sym (ap (λ b. is_met before seen place || b) same ∙ or-true (is_met before seen place))
          at place within false apart =
              get_or-set_other met here place true false (λ same. absurd (true≢false (sym ((Decides-eqb place here).1 same) ∙ apart)))
              ∙ are.each place within
              ∙ sym (ap (λ b. is_met before seen place || b) apart ∙ or-false (is_met before seen place))

-- none is marked before any block was met
pub none_met : (before : List Block) → AreMet before [] (replicate (length before) false)
none_met before = record {
  count = length-replicate (length before) false;
  each = λ place within. get_or-replicate (length before) place false false within;
}

-- ---- the first place from a place on

module _ {X : Type 0} (test : X → Bool) (items : List X) where
  abbrev pub first_from : ℕ → Option ℕ
  first_from at = option_map (λ place. place + at) (first_place test (drop at items))

  -- from the front it is the first of all
  pub from_front : first_from 0 ≡ first_place test items
  from_front = by (first_place test items)
    where
      by : (found : Option ℕ) → option_map (λ place. place + 0) found ≡ found
      by None = refl
      by (Some place) = ap (λ (n : ℕ). Some n) (omega arith)

  -- past the end there is none
  pub from_end : (at : ℕ) → length items ≤ at → first_from at ≡ None
  from_end at past = ap (λ rest. option_map (λ place. place + at) (first_place test rest)) (drop_all at items past)

  -- it is the item there, or after it
  from_here : (at : ℕ) (item : X) → at < length items → get_or items at item ≡ item → first_from at ≡ cond (test item) (Some at) (first_from (suc at))
  from_here at item within here =
      ap (λ rest. option_map (λ place. place + at) (first_place test rest)) (drop-cons items at item within ∙ ap (λ one. one ∷ drop (suc at) items) here)
      ∙ by (test item) (first_place test (drop (suc at) items))
    where
      by : (b : Bool) (found : Option ℕ) → option_map (λ place. place + at) (cond b (Some 0) (option_map suc found)) ≡ cond b (Some at) (option_map (λ place. place + suc at) found)
      by true found = ap (λ (n : ℕ). Some n) (omega arith)
      by false None = refl
      by false (Some place) = ap (λ (n : ℕ). Some n) (omega arith)

-- of one block more, before the others
pub one_before : (blocks : List KeptBlock) (place : ℕ) (kept : KeptBlock) → 0 < place → place ≤ length blocks → get_or blocks (place - 1) kept ≡ kept
    → (path : List ℕ) (own : Option (List ℕ)) → path_of kept.text.items ≡ own
    → first_from (has_path path) (map block_of blocks) (place - 1)
    ≡ cond (option_map_or (bytes_eq path) own false) (Some (place - 1)) (first_from (has_path path) (map block_of blocks) place)
one_before blocks place kept more within here path own is =
    let all : List Block = map block_of blocks in
    let at = place - 1 in
    let block : Block = block_of kept in
    let next : suc at ≡ place = omega (arith, more) in
    let inside : at < length blocks = omega (arith, more, within) in
    from_here (has_path path) all at block (subst (λ n. at < n) (sym (length-map blocks block_of)) inside) (get_or-map block_of blocks at kept block inside ∙ ap block_of here)
    ∙ ap (λ own. cond (option_map_or (bytes_eq path) own false) (Some at) (first_from (has_path path) all (suc at))) is
    ∙ ap (λ n. cond (option_map_or (bytes_eq path) own false) (Some at) (first_from (has_path path) all n)) next
