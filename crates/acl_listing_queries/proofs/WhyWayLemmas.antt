-- The way to a path, as it goes on from block to block, and whether its folders are known.
use Rattle.std.proofs.Common.{◌≡◌, ◌∙◌, ◌+◌, ◌++◌, ◌<◌, ◌||◌, ℕ, Vec, Bool, true, false, cond, List, [], ◌∷◌, Option, Some, None, add-one, ap, append-nil, drop, get_or, length, refl, reverse, sym, take}
use Rattle.std.specs.Prelude.{is_none}
use Rattle.std.specs.List.{filter, flat_map, fold, list_any}
use Rattle.std.proofs.lemmas.Grind.{flat_map-append}
use Rattle.std.specs.declared.alloc.Global.{Global}
use Rattle.std.proofs.Math.Seq.{take-suc}
use Rattle.std.proofs.lemmas.List.{map-append, reverse-append, take-append-drop}
use Rattle.std.proofs.lemmas.List.Elements.{filter-append}
use Rattle.std.proofs.lemmas.List.Folds.{list_any-append}
use Rattle.acl_access.specs.declared.rules.Rules.{Rules}
use Rattle.acl_listings.specs.Block.{FileValue, path_of}
use Rattle.acl_listings.specs.Way.{is_above}
use Rattle.acl_listings.specs.declared.fault.FileFault.{FileFault}
use Rattle.acl_listings.specs.declared.fault.FileFault.TheVariants as file
use Rattle.acl_names.specs.Names.{Names}
use Rattle.acl_names.specs.Requester.{Identity}
use Rattle.acl_accounts.proofs.SortLemmas.{map-filter}
use Rattle.acl_listing_queries.specs.Readings.{Reading, reading_of}
use Rattle.acl_listing_queries.specs.RootSteps.{IsBegun}
use Rattle.acl_listing_queries.specs.Ways.{folder_of, chain_to, may_be_above, those_above, way_of, way_on, with_folder}
use Rattle.acl_listing_queries.specs.WhoSteps.{lacks_path}
use Rattle.acl_listing_queries.specs.WhySteps.{IsUnknown, IsWayTo, is_held, known_folders, readings_of}
use Rattle.acl_listing_queries.specs.WhyText.{folder_text}
use Rattle.acl_listing_queries.specs.declared.why.way.Way.{Way}

-- ---- tests of lists

module _ {X : Type 0} where
  filter-filter : (one other : X → Bool) (items : List X) → filter one (filter other items) ≡ filter other (filter one items)
  filter-filter one other [] = refl
  filter-filter one other (item ∷ items) = by (one item) (other item) refl refl (filter-filter one other items)
    where
      by : (b c : Bool) → one item ≡ b → other item ≡ c → filter one (filter other items) ≡ filter other (filter one items)
          → filter one (cond c (item ∷ filter other items) (filter other items)) ≡ filter other (cond b (item ∷ filter one items) (filter one items))
      by true true one_is other_is rest =
          ap (λ b. cond b (item ∷ filter one (filter other items)) (filter one (filter other items))) one_is ∙ ap (λ more. item ∷ more) rest
          ∙ ap (λ b. cond b (item ∷ filter other (filter one items)) (filter other (filter one items))) (sym other_is)
      by true false one_is other_is rest = rest ∙ ap (λ b. cond b (item ∷ filter other (filter one items)) (filter other (filter one items))) (sym other_is)
      by false true one_is other_is rest = ap (λ b. cond b (item ∷ filter one (filter other items)) (filter one (filter other items))) one_is ∙ rest
      by false false one_is other_is rest = rest

  filter-reverse : (test : X → Bool) (items : List X) → filter test (reverse items) ≡ reverse (filter test items)
  filter-reverse test [] = refl
  filter-reverse test (item ∷ items) =
      ap (filter test) (reverse-append (item ∷ []) items) ∙ filter-append test (reverse items) (item ∷ [])
      ∙ ap (λ front. front ++ filter test (item ∷ [])) (filter-reverse test items) ∙ by (test item)
    where
      by : (b : Bool) → reverse (filter test items) ++ cond b (item ∷ []) [] ≡ reverse (cond b (item ∷ filter test items) (filter test items))
      by true = sym (reverse-append (item ∷ []) (filter test items))
      by false = append-nil (reverse (filter test items))

-- ---- one block more

stack_on : (way seen : List Reading) (next : Reading) → fold way_on way (seen ++ next ∷ []) ≡ way_on (fold way_on way seen) next
stack_on way [] next = refl
stack_on way (first ∷ seen) next = stack_on (way_on way first) seen next

-- the way to a path from the outermost folder on, behind one block more
pub way-more : (here next : Reading) (seen : List Reading)
    → reverse (way_of (seen ++ next ∷ []) here) ≡ those_above next (reverse (way_of seen here)) ++ cond (may_be_above next.path here.path) (next ∷ []) []
way-more here next seen =
    let stack : List Reading = fold way_on [] seen in
    let above_next : Reading → Bool = λ folder. may_be_above folder.path next.path in
    let above_here : Reading → Bool = λ folder. may_be_above folder.path here.path in
    let left : those_above here (those_above next stack) ≡ those_above next (way_of seen here) = filter-filter above_here above_next stack in
    ap (λ way. reverse (those_above here way)) (stack_on [] seen next)
    ∙ ap (λ rest. reverse (cond (may_be_above next.path here.path) (next ∷ rest) rest)) left
    ∙ by (may_be_above next.path here.path) (those_above next (way_of seen here))
    ∙ ap (λ front. front ++ cond (may_be_above next.path here.path) (next ∷ []) []) (sym (filter-reverse above_next (way_of seen here)))
  where
    by : (b : Bool) (rest : List Reading) → reverse (cond b (next ∷ rest) rest) ≡ reverse rest ++ cond b (next ∷ []) []
    by true rest = reverse-append (next ∷ []) rest
    by false rest = sym (append-nil (reverse rest))

-- what is kept of it goes on so
module _ (names : Names) (path : List ℕ) (earlier : List Reading) (way way' : Way) (next : Reading) (own : List ℕ) (was : IsWayTo names path earlier way) (still : way.lost ≡ false)
    (still' : way'.lost ≡ false) (is : next.path ≡ Some own)
    (more : readings_of names way'.folders.items ≡ those_above next (readings_of names way.folders.items) ++ cond (is_above own path) (next ∷ []) [])
    (begun : IsBegun way'.beginning (earlier ++ next ∷ [])) where
  lost_as_before : list_any lacks_path (earlier ++ next ∷ []) ≡ false
  lost_as_before =
      list_any-append lacks_path earlier (next ∷ []) ∙ ap (λ b. b || (is_none next.path || false)) (sym was.lost ∙ still) ∙ ap (λ found. is_none found || false) is

  pub way_grown : IsWayTo names path (earlier ++ next ∷ []) way'
  way_grown = record {
    lost = still' ∙ sym lost_as_before;
    folders = λ known here here_is.
        more ∙ ap (λ way. those_above next way ++ cond (is_above own path) (next ∷ []) []) (was.folders still here here_is)
        ∙ ap (λ b. those_above next (reverse (way_of earlier here)) ++ cond b (next ∷ []) []) (sym (ap (λ found. may_be_above found here.path) is ∙ ap (may_be_above (Some own)) here_is))
        ∙ sym (way-more here next earlier);
    begun = λ known. begun;
  }

-- those that are left of the folders
pub readings-left : (names : Names) (own : List ℕ) (next : Reading) (folders : List (Vec ℕ Global)) → next.path ≡ Some own
    → readings_of names (filter (λ folder. may_be_above (path_of folder.items) (Some own)) folders) ≡ those_above next (readings_of names folders)
readings-left names own next folders is =
    map-filter (λ text. reading_of names text.items) (λ folder. may_be_above folder.path (Some own)) folders
    ∙ ap (λ found. filter (λ folder. may_be_above folder.path found) (readings_of names folders)) (sym is)

-- ---- folders that are known

pub chain_to-held : (way : List Reading) (here : Reading) → chain_to way here ≡ cond (is_held way here.path) (known_folders way) None
chain_to-held [] here = refl
chain_to-held (folder ∷ above) here = refl

pub known-more : (way : List Reading) (folder : Reading) (file : FileValue) (files : List FileValue) → known_folders way ≡ Some files → is_held way folder.path ≡ true → folder_of folder ≡ Some file
    → known_folders (folder ∷ way) ≡ Some (file ∷ files)
known-more way folder file files known held reads =
    ap (with_folder (folder_of folder)) (chain_to-held way folder ∙ ap (λ b. cond b (known_folders way) None) held ∙ known) ∙ ap (λ found. with_folder found (Some files)) reads

-- what no folder is added to
pub none_with : (found : Option FileValue) → with_folder found None ≡ None
none_with None = refl
none_with (Some folder) = refl

pub none_either : (b : Bool) (known : Option (List FileValue)) → known ≡ None → cond b known None ≡ None
none_either true known none = none
none_either false known none = refl

-- behind folders that aren't known none is
unknown_on : (more way : List Reading) → known_folders way ≡ None → known_folders (more ++ way) ≡ None
unknown_on [] way unknown = unknown
unknown_on (folder ∷ more) way unknown =
    ap (with_folder (folder_of folder)) (chain_to-held (more ++ way) folder ∙ none_either (is_held (more ++ way) folder.path) (known_folders (more ++ way)) (unknown_on more way unknown))
    ∙ none_with (folder_of folder)

pub way_unknown : (more way : List Reading) (here : Reading) → known_folders way ≡ None → chain_to (more ++ way) here ≡ None
way_unknown more way here unknown =
    chain_to-held (more ++ way) here ∙ none_either (is_held (more ++ way) here.path) (known_folders (more ++ way)) (unknown_on more way unknown)

-- ---- folders that are reported

-- one folder more
pub folders-more : (rules : Rules) (who : Identity) (way : List Reading) (next : Reading)
    → flat_map (folder_text rules who) (reverse (next ∷ way)) ≡ flat_map (folder_text rules who) (reverse way) ++ folder_text rules who next
folders-more rules who way next =
    ap (flat_map (folder_text rules who)) (reverse-append (next ∷ []) way) ∙ flat_map-append (folder_text rules who) (reverse way) (next ∷ [])
    ∙ ap (λ text. flat_map (folder_text rules who) (reverse way) ++ text) (append-nil (folder_text rules who next))

pub texts-more : (texts : List (Vec ℕ Global)) (place : ℕ) (text : Vec ℕ Global) → place < length texts → text ≡ get_or texts place text
    → take (place + 1) texts ≡ take place texts ++ text ∷ []
texts-more texts place text within is =
    ap (λ n. take n texts) (add-one place) ∙ take-suc texts place text within ∙ ap (λ (text : Vec ℕ Global). take place texts ++ text ∷ []) (sym is)

-- those of blocks up to a place
pub way-next : (names : Names) (texts : List (Vec ℕ Global)) (place : ℕ) (text : Vec ℕ Global) → take (place + 1) texts ≡ take place texts ++ text ∷ []
    → reverse (readings_of names (take (place + 1) texts)) ≡ reading_of names text.items ∷ reverse (readings_of names (take place texts))
way-next names texts place text more =
    ap (λ texts. reverse (readings_of names texts)) more ∙ ap reverse (map-append (λ text. reading_of names text.items) (take place texts) (text ∷ []))
    ∙ reverse-append (readings_of names (take place texts)) (reading_of names text.items ∷ [])

-- where the folders up to a place aren't known, the way isn't
pub way_unknown_behind : (names : Names) (texts : List (Vec ℕ Global)) (place : ℕ) (text : Vec ℕ Global) (here : Reading) → take (place + 1) texts ≡ take place texts ++ text ∷ []
    → (fault : FileFault) → IsUnknown (known_folders (reading_of names text.items ∷ reverse (readings_of names (take place texts)))) fault
    → IsUnknown (chain_to (reverse (readings_of names texts)) here) fault
way_unknown_behind names texts place text here more (file.Block fault) (unknown, is) =
    let front : List Reading = readings_of names (take (place + 1) texts) in
    let rest : List Reading = readings_of names (drop (place + 1) texts) in
    let parts : reverse (readings_of names texts) ≡ reverse rest ++ reverse front =
    ap (λ texts. reverse (readings_of names texts)) (sym (take-append-drop (place + 1) texts))
    ∙ ap reverse (map-append (λ text. reading_of names text.items) (take (place + 1) texts) (drop (place + 1) texts)) ∙ reverse-append front rest in
    (ap (λ way. chain_to way here) parts ∙ way_unknown (reverse rest) (reverse front) here (ap known_folders (way-next names texts place text more) ∙ unknown), is)
way_unknown_behind names texts place text here more file.Memory unknown = tt
