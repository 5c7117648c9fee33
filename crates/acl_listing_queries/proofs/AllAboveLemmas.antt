-- Where all ways of a listing are known, the way to a block has all that is above the block.
use Rattle.std.proofs.Common.{◌≡◌, ◌∙◌, ◌++◌, ◌&&◌, ◌||◌, ◌⊎◌, ℕ, Bool, true, false, cond, List, [], ◌∷◌, Option, Some, None, IsSome, ap, append_assoc, append-nil, inl, inr, not, refl, subst, sym}
use Rattle.std.specs.Prelude.{is_none, is_some}
use Rattle.std.specs.List.{list_all, list_any}
use Rattle.std.proofs.lemmas.Bool.{and_parts, or_parts}
use Rattle.std.proofs.lemmas.List.Folds.{list_any-append}
use Rattle.acl_listings.specs.Block.{FileValue}
use Rattle.acl_listings.specs.Way.{begin_alike, is_above, is_absolute, is_folder_of, steps_of}
use Rattle.acl_listings.proofs.PlaceLemmas.{LeadsBelow, above-is, above-of, holds-is, same-of}
use Rattle.acl_listings.proofs.WayLemmas.{begin-trans, begin-turned, is_above-self, is_above-trans}
use Rattle.acl_listing_queries.specs.Readings.{Reading}
use Rattle.acl_listing_queries.specs.RootSteps.{IsOneOf, outermost}
use Rattle.acl_listing_queries.specs.WayLaws.{AreAtOnePlace, AreWaysKnown, HasFolderAt, IsAbove, IsPlaced, WaysHaveAllAbove, WaysHaveAllBefore}
use Rattle.acl_listing_queries.specs.Ways.{are_all_apart, are_apart, beginnings_of, begins_apart, chain_to, folder_of, holds, if_first, known_way, may_be_above, those_above, way_behind, way_of, with_folder}
use Rattle.acl_listing_queries.specs.WhoSteps.{IsChain, lacks_path}
use Rattle.acl_listing_queries.proofs.BeginningLemmas.{begins_left, beginnings-more, way_behind-more}
use Rattle.acl_listing_queries.proofs.OneOfLemmas.{all_pass, any_from, one_of_end, one_of_front}
use Rattle.acl_listing_queries.proofs.ReachSteps.{all_of_filter, chain_on, known_if_lost, known_on, none_left}
use Rattle.acl_listing_queries.proofs.RootLemmas.{apart_turned}
use Rattle.acl_listing_queries.proofs.WaysLemmas.{lacks_none}

-- ---- what a known way is

-- all ways up to it begin apart, and each of its folders holds what is next
record IsKnown (earlier : List Reading) (here : Reading) : Type 0 where
  apart : begins_apart earlier here ≡ true
  chain : IsSome (chain_to (way_of earlier here) here)

known-is : (earlier : List Reading) (here : Reading) → IsSome (known_way earlier here) → IsKnown earlier here
known-is earlier here known = by (begins_apart earlier here) refl known
  where
    never : false ≡ true → ⊥
    never is = cc

    by : (b : Bool) → begins_apart earlier here ≡ b → IsSome (cond b (chain_to (way_of earlier here) here) None) → IsKnown earlier here
    by true is known = record { apart = is; chain = known }
    by false is known = absurd (never known)

-- where one is known, the path of each block before it reads
paths_before : (earlier : List Reading) (here : Reading) → IsSome (known_way earlier here) → list_any lacks_path earlier ≡ false
paths_before earlier here known = by (list_any lacks_path earlier) refl
  where
    never : false ≡ true → ⊥
    never is = cc

    by : (b : Bool) → list_any lacks_path earlier ≡ b → b ≡ false
    by true lost = absurd (never (ap is_some (sym (known_if_lost earlier here lost)) ∙ known))
    by false lost = refl

-- its nearest folder holds the block, and the rest of it is a known way to that
record IsNext (folder here : Reading) (above : List Reading) : Type 0 where
  own : List ℕ
  own_is : folder.path ≡ Some own
  path : List ℕ
  path_is : here.path ≡ Some path
  holds_it : is_folder_of own path ≡ true
  chain : IsSome (chain_to above folder)

next-is : (folder here : Reading) (above : List Reading) → IsSome (chain_to (folder ∷ above) here) → IsNext folder here above
next-is folder here above known = by folder.path refl here.path refl
  where
    never : false ≡ true → ⊥
    never is = cc

    kept : (found : Option FileValue) (known : Option (List FileValue)) → IsSome (with_folder found known) → IsSome known
    kept (Some file) (Some above) is = refl
    kept (Some file) None is = absurd (never is)
    kept None known is = absurd (never is)

    within : (b : Bool) → holds folder.path here.path ≡ b → IsSome (cond b (with_folder (folder_of folder) (chain_to above folder)) None) → (b ≡ true) × IsSome (chain_to above folder)
    within true is known = (refl, kept (folder_of folder) (chain_to above folder) known)
    within false is known = absurd (never known)

    both : (holds folder.path here.path ≡ true) × IsSome (chain_to above folder)
    both = within (holds folder.path here.path) refl known

    by : (found : Option (List ℕ)) → folder.path ≡ found → (last : Option (List ℕ)) → here.path ≡ last → IsNext folder here above
    by (Some own) is (Some path) last_is = record { own = own; own_is = is; path = path; path_is = last_is; holds_it = (λ i. holds (sym is i) (sym last_is i)) ∙ both.0; chain = both.1 }
    by (Some own) is None last_is = absurd (never ((λ i. holds (sym is i) (sym last_is i)) ∙ both.0))
    by None is last last_is = absurd (never ((λ i. holds (sym is i) here.path) ∙ both.0))

-- ---- a path above a block is on the way, or above all of it

module _ {X : Type 0} where
  split_last : (one other rest : List X) (last first : X) → one ++ last ∷ [] ≡ other ++ first ∷ rest → (one ≡ other) ⊎ ((more : List X) × (one ≡ other ++ first ∷ more))
  split_last [] [] rest last first is = inl refl
  split_last (item ∷ one) [] rest last first is = inr (one, by is)
    where
      by : item ∷ (one ++ last ∷ []) ≡ first ∷ rest → item ∷ one ≡ first ∷ one
      by is = cc
  split_last [] (next ∷ other) rest last first is = absurd (by other is)
    where
      by : (other : List X) → last ∷ [] ≡ next ∷ (other ++ first ∷ rest) → ⊥
      by [] is = cc
      by (more ∷ other) is = cc
  split_last (item ∷ one) (next ∷ other) rest last first is = by (split_last one other rest last first (rest_is is))
    where
      rest_is : item ∷ (one ++ last ∷ []) ≡ next ∷ (other ++ first ∷ rest) → one ++ last ∷ [] ≡ other ++ first ∷ rest
      rest_is is = cc

      item_is : item ∷ (one ++ last ∷ []) ≡ next ∷ (other ++ first ∷ rest) → item ≡ next
      item_is is = cc

      by : (one ≡ other) ⊎ ((more : List X) × (one ≡ other ++ first ∷ more)) → (item ∷ one ≡ next ∷ other) ⊎ ((more : List X) × (item ∷ one ≡ next ∷ (other ++ first ∷ more)))
      by (inl same) = inl (λ i. item_is is i ∷ same i)
      by (inr (more, longer)) = inr (more, λ i. item_is is i ∷ longer i)

module _ (path : List ℕ) where
  -- a path above what a folder holds is that of the folder, or above it
  nearer_or : (own here : List ℕ) → is_folder_of own here ≡ true → is_above path here ≡ true → LeadsBelow own path [] ⊎ (is_above path own ≡ true)
  nearer_or own here holds above =
      let one = holds-is own here holds in
      let far = above-is path here above in
      let alike = begin-trans (is_absolute path) (is_absolute here) (is_absolute own) far.2.alike (begin-turned (is_absolute own) (is_absolute here) one.1.alike) in
      by alike (split_last (steps_of own) (steps_of path) far.1 one.0 far.0 (sym one.1.steps ∙ far.2.steps))
    where
      by : begin_alike (is_absolute path) (is_absolute own) ≡ true → (steps_of own ≡ steps_of path) ⊎ ((more : List (List ℕ)) × (steps_of own ≡ steps_of path ++ (above-is path here above).0 ∷ more))
          → LeadsBelow own path [] ⊎ (is_above path own ≡ true)
      by alike (inl same) = inl (record { alike = begin-turned (is_absolute path) (is_absolute own) alike; steps = sym same ∙ sym (append-nil (steps_of own)) })
      by alike (inr (more, longer)) = inr (above-of path own (above-is path here above).0 more (record { alike = alike; steps = longer }))

  on_way_or : (way : List Reading) (here : Reading) → IsSome (chain_to way here) → IsAbove (Some path) here.path → HasFolderAt way (Some path) ⊎ IsAbove (Some path) (outermost way here).path
  on_way_or [] here known above = inr above
  on_way_or (folder ∷ rest) here known above =
      let next = next-is folder here rest known in
      by next (nearer_or next.own next.path next.holds_it (subst (IsAbove (Some path)) next.path_is above)) (on_way_or rest folder next.chain)
    where
      by : (next : IsNext folder here rest) → LeadsBelow next.own path [] ⊎ (is_above path next.own ≡ true)
          → (IsAbove (Some path) folder.path → HasFolderAt rest (Some path) ⊎ IsAbove (Some path) (outermost rest folder).path)
          → HasFolderAt (folder ∷ rest) (Some path) ⊎ IsAbove (Some path) (outermost rest folder).path
      by next (inl same) further = inl (inl (subst (λ own. AreAtOnePlace own (Some path)) (sym next.own_is) (same-of next.own path same)))
      by next (inr over) further = later (further (subst (IsAbove (Some path)) (sym next.own_is) over))
        where
          later : HasFolderAt rest (Some path) ⊎ IsAbove (Some path) (outermost rest folder).path → HasFolderAt (folder ∷ rest) (Some path) ⊎ IsAbove (Some path) (outermost rest folder).path
          later (inl there) = inl (inr there)
          later (inr over) = inr over

-- a way begins with the block to which it leads, or with one of its own
outermost_in : (way : List Reading) (other : Reading) → (outermost way other ≡ other) ⊎ IsOneOf (outermost way other) way
outermost_in [] other = inl refl
outermost_in (folder ∷ rest) other = inr (outermost_in rest folder)

-- what is above a path has a way that begins above it, too
begins_above : (path : List ℕ) (earlier : List Reading) (other : Reading) → list_any lacks_path earlier ≡ false → IsAbove other.path (Some path) → IsAbove (outermost (way_of earlier other) other).path (Some path)
begins_above path earlier other known above = by (outermost_in (way_of earlier other) other)
  where
    bottom : Reading
    bottom = outermost (way_of earlier other) other

    reads : IsOneOf bottom (way_of earlier other) → (lacks : Bool) → lacks_path bottom ≡ lacks → lacks ≡ false
    reads among true is = absurd (never (sym (none_left other (way_behind earlier) (known_on [] earlier refl known)) ∙ any_from lacks_path (way_of earlier other) bottom among is))
      where
        never : false ≡ true → ⊥
        never is = cc
    reads among false is = refl

    over : (found own : Option (List ℕ)) → is_none found ≡ false → may_be_above found own ≡ true → IsAbove own (Some path) → IsAbove found (Some path)
    over None own reads first second = cc
    over (Some one) None reads first second = absurd second
    over (Some one) (Some own) reads first second = is_above-trans one own path first second

    by : (bottom ≡ other) ⊎ IsOneOf bottom (way_of earlier other) → IsAbove bottom.path (Some path)
    by (inl same) = subst (λ (block : Reading). IsAbove block.path (Some path)) (sym same) above
    by (inr among) =
        over bottom.path other.path (reads among (lacks_path bottom) refl)
        (all_pass (λ folder. may_be_above folder.path other.path) (way_of earlier other) (all_of_filter (λ folder. may_be_above folder.path other.path) (way_behind earlier)) bottom among) above

-- ---- the blocks with which ways begin

-- those of the first blocks are among those of all
stays_beginning : (block : Reading) (before more : List Reading) → IsOneOf block (beginnings_of before) → IsOneOf block (beginnings_of (before ++ more))
stays_beginning block before [] is = subst (λ all. IsOneOf block (beginnings_of all)) (sym (append-nil before)) is
stays_beginning block before (here ∷ more) is =
    subst (λ all. IsOneOf block (beginnings_of all)) (append_assoc before (here ∷ []) more)
    (stays_beginning block (before ++ here ∷ []) more (subst (IsOneOf block) (sym (beginnings-more before here)) (one_of_front block (beginnings_of before) (if_first here (way_of before here)) is)))

-- of two that are apart none is above the other
clash : (one other : Option (List ℕ)) → IsAbove one other → are_apart one other ≡ true → ⊥
clash None other above apart = absurd above
clash (Some one) None above apart = absurd above
clash (Some one) (Some other) above apart =
    by (begin_alike (is_absolute one) (is_absolute other)) (sym (ap (λ b. begin_alike (is_absolute one) (is_absolute other) && (not b && not (is_above other one))) above) ∙ apart)
  where
    by : (b : Bool) → (b && false) ≡ true → ⊥
    by true is = cc
    by false is = cc

none_above_itself : (path : Option (List ℕ)) → IsAbove path path → ⊥
none_above_itself None above = absurd above
none_above_itself (Some path) above = never (sym (is_above-self path) ∙ above)
  where
    never : false ≡ true → ⊥
    never is = cc

no_clash : (blocks : List Reading) → are_all_apart blocks ≡ true → (one other : Reading) → IsOneOf one blocks → IsOneOf other blocks → IsAbove one.path other.path → ⊥
no_clash [] apart one other there too above = absurd there
no_clash (first ∷ blocks) apart one other there too above = by there too (no_clash blocks parts.1 one other)
  where
    parts : (list_all (λ block. are_apart first.path block.path) blocks ≡ true) × (are_all_apart blocks ≡ true)
    parts = and_parts (list_all (λ block. are_apart first.path block.path) blocks) (are_all_apart blocks) apart

    from_first : (block : Reading) → IsOneOf block blocks → are_apart first.path block.path ≡ true
    from_first = all_pass (λ block. are_apart first.path block.path) blocks parts.0

    by : IsOneOf one (first ∷ blocks) → IsOneOf other (first ∷ blocks) → (IsOneOf one blocks → IsOneOf other blocks → IsAbove one.path other.path → ⊥) → ⊥
    by (inl is) (inl it_is) rest = none_above_itself first.path (subst (λ (block : Reading). IsAbove first.path block.path) it_is (subst (λ (block : Reading). IsAbove block.path other.path) is above))
    by (inl is) (inr later) rest = clash first.path other.path (subst (λ (block : Reading). IsAbove block.path other.path) is above) (from_first other later)
    by (inr later) (inl it_is) rest = clash one.path first.path (subst (λ (block : Reading). IsAbove one.path block.path) it_is above) (apart_turned first.path one.path (from_first one later))
    by (inr later) (inr later_too) rest = rest later later_too above

-- a way begins with one of these blocks
abbrev BeginsAmong : List Reading → List Reading → Type 0
BeginsAmong blocks [] = Unit {0}
BeginsAmong blocks (block ∷ above) = IsOneOf (outermost above block) blocks

module _ (blocks : List Reading) (paths : list_any lacks_path blocks ≡ false) where
  has_path : (before : List Reading) (here : Reading) → IsPlaced blocks before here → (path : List ℕ) × (here.path ≡ Some path)
  has_path before here placed = lacks_none here (by before (ap (list_any lacks_path) (sym placed.are) ∙ paths))
    where
      by : (before : List Reading) → list_any lacks_path (before ++ here ∷ placed.after) ≡ false → lacks_path here ≡ false
      by [] none = (or_parts (lacks_path here) (list_any lacks_path placed.after) none).0
      by (first ∷ before) none = by before (or_parts (lacks_path first) (list_any lacks_path (before ++ here ∷ placed.after)) none).1

  none_before : (before : List Reading) (here : Reading) → IsPlaced blocks before here → list_any lacks_path before ≡ false
  none_before before here placed = by before (ap (list_any lacks_path) (sym placed.are) ∙ paths)
    where
      by : (before : List Reading) → list_any lacks_path (before ++ here ∷ placed.after) ≡ false → list_any lacks_path before ≡ false
      by [] none = refl
      by (first ∷ before) none =
          let parts = or_parts (lacks_path first) (list_any lacks_path (before ++ here ∷ placed.after)) none in
          (λ i. parts.0 i || by before parts.1 i)

  -- the way to a block begins with one of them
  beginning_here : (before : List Reading) (here : Reading) → IsPlaced blocks before here → BeginsAmong (beginnings_of before) (way_behind before)
      → IsOneOf (outermost (way_of before here) here) (beginnings_of (before ++ here ∷ []))
  beginning_here before here placed begins = by (way_of before here) refl
    where
      by : (way : List Reading) → way_of before here ≡ way → IsOneOf (outermost (way_of before here) here) (beginnings_of (before ++ here ∷ []))
      by [] is =
          subst (IsOneOf (outermost (way_of before here) here)) (sym (beginnings-more before here ∙ ap (λ way. beginnings_of before ++ if_first here way) is))
          (subst (λ way. IsOneOf (outermost way here) (beginnings_of before ++ here ∷ [])) (sym is) (one_of_end here (beginnings_of before)))
      by (folder ∷ rest) is = stays_beginning (outermost (way_of before here) here) before (here ∷ []) (below (way_behind before) refl begins)
        where
          below : (way : List Reading) → way_behind before ≡ way → BeginsAmong (beginnings_of before) way → IsOneOf (outermost (way_of before here) here) (beginnings_of before)
          below [] none among = absurd (never (sym (ap (those_above here) none) ∙ is))
            where
              never : [] ≡ folder ∷ rest → ⊥
              never is = cc
          below (block ∷ above) behind among =
              let same = begins_left here (has_path before here placed).0 (has_path before here placed).1 block above folder rest
              (subst IsChain behind (chain_on [] before tt))
              (sym (ap (list_any lacks_path) behind) ∙ known_on [] before refl (none_before before here placed))
              (sym (ap (those_above here) behind) ∙ is) in
              subst (λ bottom. IsOneOf bottom (beginnings_of before)) (sym (ap (λ way. outermost way here) is ∙ same)) among

  begins_on : (before more after : List Reading) → blocks ≡ before ++ (more ++ after) → BeginsAmong (beginnings_of before) (way_behind before) → BeginsAmong (beginnings_of (before ++ more)) (way_behind (before ++ more))
  begins_on before [] after is begins = subst (λ all. BeginsAmong (beginnings_of all) (way_behind all)) (sym (append-nil before)) begins
  begins_on before (here ∷ more) after is begins =
      subst (λ all. BeginsAmong (beginnings_of all) (way_behind all)) (append_assoc before (here ∷ []) more)
      (begins_on (before ++ here ∷ []) more after (is ∙ sym (append_assoc before (here ∷ []) (more ++ after)))
      (subst (BeginsAmong (beginnings_of (before ++ here ∷ []))) (sym (way_behind-more before here)) (beginning_here before here (record { after = more ++ after; are = is }) begins)))

  is_beginning : (before : List Reading) (here : Reading) → IsPlaced blocks before here → IsOneOf (outermost (way_of before here) here) (beginnings_of blocks)
  is_beginning before here placed =
      subst (λ all. IsOneOf (outermost (way_of before here) here) (beginnings_of all)) (append_assoc before (here ∷ []) placed.after ∙ sym placed.are)
      (stays_beginning (outermost (way_of before here) here) (before ++ here ∷ []) placed.after (beginning_here before here placed (begins_on [] before (here ∷ placed.after) placed.are tt)))

  -- ---- what is above a block, if all ways begin apart

  module _ (apart : are_all_apart (beginnings_of blocks) ≡ true) (before : List Reading) (here : Reading) (placed : IsPlaced blocks before here) (chain : IsSome (chain_to (way_of before here) here)) where
    has_all : (earlier : List Reading) (other : Reading) → IsPlaced blocks earlier other → IsAbove other.path here.path → HasFolderAt (way_of before here) other.path
    has_all earlier other there above = by (on_way_or path (way_of before here) here chain (subst (λ own. IsAbove own here.path) path_is above))
      where
        path : List ℕ
        path = (has_path earlier other there).0

        path_is : other.path ≡ Some path
        path_is = (has_path earlier other there).1

        -- the one way would begin above the other
        no : (found : Option (List ℕ)) → (outermost (way_of before here) here).path ≡ found → IsAbove (Some path) found → ⊥
        no None is over = absurd over
        no (Some bottom) is over =
            no_clash (beginnings_of blocks) apart (outermost (way_of earlier other) other) (outermost (way_of before here) here) (is_beginning earlier other there) (is_beginning before here placed)
            (subst (IsAbove (outermost (way_of earlier other) other).path) (sym is)
            (begins_above bottom earlier other (none_before earlier other there) (subst (λ own. IsAbove own (Some bottom)) (sym path_is) over)))

        by : HasFolderAt (way_of before here) (Some path) ⊎ IsAbove (Some path) (outermost (way_of before here) here).path → HasFolderAt (way_of before here) other.path
        by (inl on_it) = subst (HasFolderAt (way_of before here)) (sym path_is) on_it
        by (inr over) = absurd (no (outermost (way_of before here) here).path refl over)

-- ---- of one way that is known

pub ways_have_all_before : WaysHaveAllBefore
ways_have_all_before before here known earlier other there above =
    has_all (before ++ here ∷ []) paths is.apart before here (record { after = []; are = refl }) is.chain earlier other (record { after = there.after ++ here ∷ []; are = ap (λ all. all ++ here ∷ []) there.are ∙ append_assoc earlier (other ∷ there.after) (here ∷ []) }) above
  where
    is : IsKnown before here
    is = known-is before here known

    own_reads : (found own : Option (List ℕ)) → IsAbove found own → is_none own ≡ false
    own_reads None own above = absurd above
    own_reads (Some path) None above = absurd above
    own_reads (Some path) (Some own) above = refl

    paths : list_any lacks_path (before ++ here ∷ []) ≡ false
    paths = list_any-append lacks_path before (here ∷ []) ∙ (λ i. paths_before before here known i || (own_reads other.path here.path above i || false))

-- ---- of all ways

apart_on : (blocks before more : List Reading) → AreWaysKnown blocks → blocks ≡ before ++ more → are_all_apart (beginnings_of before) ≡ true → are_all_apart (beginnings_of (before ++ more)) ≡ true
apart_on blocks before [] are is apart = ap (λ all. are_all_apart (beginnings_of all)) (append-nil before) ∙ apart
apart_on blocks before (here ∷ more) are is apart =
    ap (λ all. are_all_apart (beginnings_of all)) (sym (append_assoc before (here ∷ []) more))
    ∙ apart_on blocks (before ++ here ∷ []) more are (is ∙ sym (append_assoc before (here ∷ []) more)) (known-is before here (are.ways before here (record { after = more; are = is }))).apart

pub ways_have_all_above : WaysHaveAllAbove
ways_have_all_above blocks are before here placed =
    has_all blocks are.paths (apart_on blocks [] blocks are refl refl) before here placed (known-is before here (are.ways before here placed)).chain
