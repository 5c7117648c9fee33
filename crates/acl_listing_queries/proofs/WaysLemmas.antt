-- The way to a file of a listing, and what is kept of it.
use Rattle.std.proofs.Common.{◌≡◌, ◌∙◌, ◌-◌, ◌++◌, ◌&&◌, ℕ, suc, Bool, true, false, cond, List, [], ◌∷◌, Option, Some, None, ap, arith, length, map, option_map, refl, reverse, subst, sym, take}
use Rattle.std.specs.Prelude.{slice_get, is_none}
use Rattle.std.specs.List.{filter, list_all, list_any}
use Rattle.std.proofs.lemmas.Bool.{or_parts}
use Rattle.std.proofs.lemmas.List.{reverse-append}
use Rattle.acl_access.specs.Reach.{reaches}
use Rattle.acl_listings.specs.Block.{FileValue}
use Rattle.acl_listings.specs.Way.{is_above, is_folder_of}
use Rattle.acl_listings.proofs.WayLemmas.{is_above-trans}
use Rattle.acl_listing_queries.specs.Readings.{Reading}
use Rattle.acl_listing_queries.specs.Ways.{holds, chain_to, may_be_above, those_above}
use Rattle.acl_listing_queries.specs.WhoSteps.{AreFolders, IsChain, folders_to, lacks_path, level_of, levels, marks_of, question_by, shown_folder, standings_for, whos_of}
use Rattle.acl_listing_queries.specs.declared.who.answers.Users.{Users}
use Rattle.acl_listing_queries.specs.declared.who.way.Folder.{Folder}

-- ---- the last of a list

pub last_is : {X : Type 0} (items : List X) (item : X) → slice_get items (length items - 1) ≡ Some item → items ≡ take (length items - 1) items ++ item ∷ []
last_is [] item is = cc
last_is (first ∷ []) item is = by is
  where
    by : Some first ≡ Some item → first ∷ [] ≡ item ∷ []
    by is = cc
last_is (first ∷ next ∷ items) item is =
    let less : length (first ∷ next ∷ items) - 1 ≡ suc (length (next ∷ items) - 1) = omega arith in
    let rest : next ∷ items ≡ take (length (next ∷ items) - 1) (next ∷ items) ++ item ∷ [] = last_is (next ∷ items) item (ap (slice_get (first ∷ next ∷ items)) (sym less) ∙ is) in
    ap (λ more. first ∷ more) rest ∙ ap (λ n. take n (first ∷ next ∷ items) ++ item ∷ []) (sym less)

not_none : {X : Type 0} (item : X) (items : List X) → item ∷ items ≡ [] → ⊥
not_none item items is = cc

pub no_last : {X : Type 0} (items : List X) → slice_get items (length items - 1) ≡ None → items ≡ []
no_last [] is = refl
no_last (first ∷ []) is = by is
  where
    by : Some first ≡ None → first ∷ [] ≡ []
    by is = cc
no_last (first ∷ next ∷ items) is =
    let less : length (first ∷ next ∷ items) - 1 ≡ suc (length (next ∷ items) - 1) = omega arith in
    absurd (not_none next items (no_last (next ∷ items) (ap (slice_get (first ∷ next ∷ items)) (sym less) ∙ is)))

-- ---- what is kept of a way

module _ (users : Users) where
  pub no_folders : (way : List Reading) → AreFolders users [] way → way ≡ []
  no_folders [] are = refl
  no_folders (folder ∷ above) are = cc

  -- the nearest folder, which is kept last
  pub record IsOnTop (front : List Folder) (top : Folder) (way : List Reading) : Type 0 where
    pub nearest : Reading
    pub above : List Reading
    pub way_is : way ≡ nearest ∷ above
    pub path : nearest.path ≡ Some top.path.items
    pub reach : marks_of users (folders_to nearest above) ≡ option_map (λ marks. marks.items) top.reach
    pub standings : standings_for users.rules (question_by users) (whos_of users) nearest.file ≡ top.standings.items
    pub others : AreFolders users front above

  top_of : (front : List Folder) (top : Folder) (way : List Reading) → shown_folder top ∷ map shown_folder (reverse front) ≡ levels users way → IsOnTop front top way
  top_of front top [] are = absurd (by are)
    where
      by : shown_folder top ∷ map shown_folder (reverse front) ≡ [] → ⊥
      by are = cc
  top_of front top (folder ∷ above) are = record {
    nearest = folder;
    above = above;
    way_is = refl;
    path = ap (λ level. level.0) (sym (first_is are));
    reach = ap (λ level. level.1) (sym (first_is are));
    standings = ap (λ level. level.2) (sym (first_is are));
    others = rest_is are;
  }
    where
      first_is : shown_folder top ∷ map shown_folder (reverse front) ≡ level_of users folder above ∷ levels users above
          → shown_folder top ≡ level_of users folder above
      first_is are = cc

      rest_is : shown_folder top ∷ map shown_folder (reverse front) ≡ level_of users folder above ∷ levels users above
          → map shown_folder (reverse front) ≡ levels users above
      rest_is are = cc

  pub on_top : (folders front : List Folder) (top : Folder) (way : List Reading) → folders ≡ front ++ top ∷ [] → AreFolders users folders way → IsOnTop front top way
  on_top folders front top way is are =
      top_of front top way (ap (map shown_folder) (sym (ap reverse is ∙ reverse-append front (top ∷ []))) ∙ are)

  -- one more folder
  pub one_folder_more : (folders : List Folder) (top : Folder) (folder : Reading) (way : List Reading) → AreFolders users folders way → folder.path ≡ Some top.path.items
      → option_map (λ marks. marks.items) top.reach ≡ marks_of users (folders_to folder way) → top.standings.items ≡ standings_for users.rules (question_by users) (whos_of users) folder.file
      → AreFolders users (folders ++ top ∷ []) (folder ∷ way)
  one_folder_more folders top folder way are path reach standings =
      ap (map shown_folder) (reverse-append folders (top ∷ []))
      ∙ ap (λ first. first ∷ map shown_folder (reverse folders)) (λ i. (sym path i, reach i, standings i))
      ∙ ap (λ rest. level_of users folder way ∷ rest) are

-- ---- which folders are left

filter-whole : {X : Type 0} (test : X → Bool) (items : List X) → list_all test items ≡ true → filter test items ≡ items
filter-whole test [] all = refl
filter-whole test (item ∷ items) all = by (test item) all (filter-whole test items)
  where
    by : (b : Bool) → (b && list_all test items) ≡ true → (list_all test items ≡ true → filter test items ≡ items) → cond b (item ∷ filter test items) (filter test items) ≡ item ∷ items
    by true all rest = ap (λ more. item ∷ more) (rest all)
    by false all rest = cc

pub lacks_none : (folder : Reading) → lacks_path folder ≡ false → (path : List ℕ) × (folder.path ≡ Some path)
lacks_none folder is = by folder.path is
  where
    by : (found : Option (List ℕ)) → is_none found ≡ false → (path : List ℕ) × (found ≡ Some path)
    by (Some path) is = (path, refl)
    by None is = cc

-- what is above a folder that is above a block is above the block
module _ (here folder : Reading) (path : List ℕ) (is : here.path ≡ Some path) (above_here : may_be_above folder.path here.path ≡ true) (known : lacks_path folder ≡ false) where
  above_too : (other : Reading) → may_be_above other.path folder.path ≡ true → may_be_above other.path here.path ≡ true
  above_too other above = by other.path above
    where
      of_paths : (one two three : List ℕ) (found last : Option (List ℕ)) → found ≡ Some two → last ≡ Some three → may_be_above (Some one) found ≡ true → may_be_above found last ≡ true
          → may_be_above (Some one) last ≡ true
      of_paths one two three found last found_is last_is first second =
          ap (may_be_above (Some one)) last_is
          ∙ is_above-trans one two three (ap (may_be_above (Some one)) (sym found_is) ∙ first) (ap (λ f. may_be_above f (Some three)) (sym found_is) ∙ ap (may_be_above found) (sym last_is) ∙ second)

      by : (found : Option (List ℕ)) → may_be_above found folder.path ≡ true → may_be_above found here.path ≡ true
      by (Some one) above = let (two, folder_is) = lacks_none folder known in of_paths one two path folder.path here.path folder_is is above above_here
      by None above = refl

  pub all_left : (others : List Reading) → list_all (λ other. may_be_above other.path folder.path) others ≡ true → those_above here others ≡ others
  all_left others all = filter-whole (λ other. may_be_above other.path here.path) others (each others all)
    where
      each : (others : List Reading) → list_all (λ other. may_be_above other.path folder.path) others ≡ true → list_all (λ other. may_be_above other.path here.path) others ≡ true
      each [] all = refl
      each (other ∷ others) all = by (may_be_above other.path folder.path) refl all (each others)
        where
          by : (b : Bool) → may_be_above other.path folder.path ≡ b → (b && list_all (λ other. may_be_above other.path folder.path) others) ≡ true
              → (list_all (λ other. may_be_above other.path folder.path) others ≡ true → list_all (λ other. may_be_above other.path here.path) others ≡ true)
              → (may_be_above other.path here.path && list_all (λ other. may_be_above other.path here.path) others) ≡ true
          by true is all rest = ap (λ b. b && list_all (λ other. may_be_above other.path here.path) others) (above_too other is) ∙ rest all
          by false is all rest = cc

-- ---- a folder on top, and a path

module _ (users : Users) (folders : List Folder) (here : Reading) (path : List ℕ) (is : here.path ≡ Some path) where
  module _ (top : Folder) (last : slice_get folders (length folders - 1) ≡ Some top) where
    abbrev front : List Folder
    front = take (length folders - 1) folders

    whole : folders ≡ front ++ top ∷ []
    whole = last_is folders top last

    may_be : (nearest : Reading) → nearest.path ≡ Some top.path.items → may_be_above nearest.path here.path ≡ is_above top.path.items path
    may_be nearest path_is = ap (λ found. may_be_above found here.path) path_is ∙ ap (may_be_above (Some top.path.items)) is

    -- a folder above it stays, and all that are above that
    pub stays : is_above top.path.items path ≡ true → (left : List Reading) → IsChain left → list_any lacks_path left ≡ false → AreFolders users folders left → those_above here left ≡ left
    stays above left chain known are =
        let on : IsOnTop users front top left = on_top users folders front top left whole are in
        let nearest : Reading = on.nearest in
        let way_is : left ≡ nearest ∷ on.above = on.way_is in
        let all : IsChain (nearest ∷ on.above) = subst IsChain way_is chain in
        let none = or_parts (lacks_path nearest) (list_any lacks_path on.above) (ap (list_any lacks_path) (sym way_is) ∙ known) in
        let above_here : may_be_above nearest.path here.path ≡ true = may_be nearest on.path ∙ above in
        let rest : those_above here on.above ≡ on.above = all_left here nearest path is above_here none.0 on.above all.0 in
        ap (those_above here) way_is ∙ ap (λ b. cond b (nearest ∷ those_above here on.above) (those_above here on.above)) above_here ∙ ap (λ more. nearest ∷ more) rest ∙ sym way_is

    -- another goes
    pub goes : is_above top.path.items path ≡ false → (left : List Reading) → IsChain left → list_any lacks_path left ≡ false → AreFolders users folders left
        → (fewer : List Reading) × AreFolders users front fewer × IsChain fewer × (list_any lacks_path fewer ≡ false) × (those_above here fewer ≡ those_above here left)
    goes above left chain known are =
        let on : IsOnTop users front top left = on_top users folders front top left whole are in
        let nearest : Reading = on.nearest in
        let way_is : left ≡ nearest ∷ on.above = on.way_is in
        let all : IsChain (nearest ∷ on.above) = subst IsChain way_is chain in
        let none = or_parts (lacks_path nearest) (list_any lacks_path on.above) (ap (list_any lacks_path) (sym way_is) ∙ known) in
        let not_here : may_be_above nearest.path here.path ≡ false = may_be nearest on.path ∙ above in (
          on.above,
          on.others,
          all.1,
          none.1,
          sym (ap (those_above here) way_is ∙ ap (λ b. cond b (nearest ∷ those_above here on.above) (those_above here on.above)) not_here),
        )

    -- who reaches what it holds
    pub reached_through : (b : Bool) → is_folder_of top.path.items path ≡ b → (way : List Reading) → AreFolders users folders way
        → marks_of users (chain_to way here) ≡ cond b (option_map (λ marks. marks.items) top.reach) None
    reached_through b holds_it way are =
        let on : IsOnTop users front top way = on_top users folders front top way whole are in
        let nearest : Reading = on.nearest in
        let holds_is : holds nearest.path here.path ≡ b = ap (λ found. holds found here.path) on.path ∙ ap (holds (Some top.path.items)) is ∙ holds_it in
        ap (λ way. marks_of users (chain_to way here)) on.way_is ∙ ap (λ b. marks_of users (cond b (folders_to nearest on.above) None)) holds_is ∙ by b (folders_to nearest on.above) on.reach
      where
        by : (b : Bool) (known : Option (List FileValue)) → marks_of users known ≡ option_map (λ marks. marks.items) top.reach
            → marks_of users (cond b known None) ≡ cond b (option_map (λ marks. marks.items) top.reach) None
        by true known reach = reach
        by false known reach = refl

  -- and what is in none
  module _ (none : slice_get folders (length folders - 1) ≡ None) where
    pub none_left : (left : List Reading) → AreFolders users folders left → those_above here left ≡ left
    none_left left are =
        let empty : left ≡ [] = no_folders users left (subst (λ folders. AreFolders users folders left) (no_last folders none) are) in
        ap (those_above here) empty ∙ sym empty

    pub reached_by_all : (way : List Reading) → AreFolders users folders way → marks_of users (chain_to way here) ≡ Some (map (reaches []) (whos_of users))
    reached_by_all way are =
        let empty : way ≡ [] = no_folders users way (subst (λ folders. AreFolders users folders way) (no_last folders none) are) in
        ap (λ way. marks_of users (chain_to way here)) empty
