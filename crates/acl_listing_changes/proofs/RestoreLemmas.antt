-- What `restore` prints brings back what was before.
use Rattle.std.proofs.Common.{◌≡◌, ◌∙◌, ◌++◌, ◌&&◌, ◌||◌, not, ℕ, Bool, true, false, cond, List, [], ◌∷◌, Option, Some, None, ap, bytes_eq, is_none, map as each, refl, sym}
use Rattle.std.specs.Prelude.{unwrap_or}
use Rattle.std.specs.List.{find}
use Rattle.std.specs.Option.{option_and_then, option_map_or}
use Rattle.std.proofs.lemmas.List.Folds.{list_any-append}
use Rattle.std.proofs.lemmas.Slice.Eq.{bytes_eq-Decides}
use Rattle.acl_listings.specs.Block.{path_of}
use Rattle.acl_listings.specs.Listing.{Block}
use Rattle.acl_listings.specs.declared.fault.BlockFault.{BlockFault}
use Rattle.acl_reports.specs.Paths.{block_for, has_path, is_among, lists}
use Rattle.acl_reports.specs.Placed.{Placed, in_places_after}
use Rattle.acl_listing_changes.specs.Changes.{ReportsIf, ReportsNextBy, fault_after, unless_repeated}
use Rattle.acl_listing_changes.specs.RestoreLaws.{BringsBack, PrintsBlocks, other_text, other_unless, printed_text, text_has, text_restored}
use Rattle.acl_listing_changes.specs.Restoring.{block_text, restore_fault, restored_text, restoring}
use Rattle.acl_listing_changes.proofs.PlacedLemmas.{put}

-- ---- what is reported is what is printed

restored_is : (old new reported said : List ℕ) (reads : Bool) → ReportsIf reads (λ reported said. (reported ≡ restored_text old new) × (said ≡ [])) reported said
    → reported ≡ printed_text (cond (reads && not (bytes_eq old new)) (Some old) None)
restored_is old new reported said false (none, silent) = none
restored_is old new reported said true (is, silent) = is ∙ by (bytes_eq old new)
  where
    by : (b : Bool) → cond b [] (block_text old) ≡ printed_text (cond (not b) (Some old) None)
    by true = refl
    by false = refl

prints_by : (name : List ℕ) (was : Option Block) (block : Block) (fault : Option BlockFault) (reported said : List ℕ) → ReportsNextBy restoring name was block fault reported said
    → reported ≡ printed_text (other_unless fault block.text was)
prints_by name was block (Some fault) reported said reports = reports.0
prints_by name None block None reported said reports = reports.0
prints_by name (Some old) block None reported said reports = restored_is old.text block.text reported said (is_none (restore_fault old.text)) reports

pub prints_blocks : PrintsBlocks
prints_blocks = λ name before placed reported said reports.
    prints_by name (block_for before placed.here.text) placed.here (fault_after restoring before placed) reported said reports

-- ---- what is printed has the path of the block after

-- what is found has the path
found_has : (path : List ℕ) (blocks : List Block) (old : Block) → find (has_path path) blocks ≡ Some old → has_path path old ≡ true
found_has path [] old is = cc
found_has path (block ∷ blocks) old is = by (found_has path blocks old) (has_path path block) refl is
  where
    by : (find (has_path path) blocks ≡ Some old → has_path path old ≡ true) → (b : Bool) → has_path path block ≡ b → cond b (Some block) (find (has_path path) blocks) ≡ Some old
        → has_path path old ≡ true
    by more true has same =
        let one : block ≡ old = cc in
        ap (has_path path) (sym one) ∙ has
    by more false lacks same = more same

-- a block that has the path of a text has the paths that it has
same_paths : (path other : List ℕ) (old : Block) → has_path other old ≡ true → text_has path old.text ≡ bytes_eq path other
same_paths path other old = by (path_of old.text)
  where
    by : (own : Option (List ℕ)) → option_map_or (bytes_eq other) own false ≡ true → option_map_or (bytes_eq path) own false ≡ bytes_eq path other
    by None has = cc
    by (Some own) has = ap (bytes_eq path) (sym ((bytes_eq-Decides other own).0 has))

module _ (before : List Block) (path : List ℕ) where
  other_has : (text : List ℕ) (own : Option (List ℕ)) → path_of text ≡ own
      → text_has path (unwrap_or (other_text text (option_and_then (λ path. find (has_path path) before) own)) text) ≡ text_has path text
  other_has text None is = refl
  other_has text (Some other) is = by (find (has_path other) before) refl
    where
      by : (found : Option Block) → find (has_path other) before ≡ found → text_has path (unwrap_or (other_text text found) text) ≡ text_has path text
      by None none = refl
      by (Some old) same = at (is_none (restore_fault old.text) && not (bytes_eq old.text text))
        where
          at : (b : Bool) → text_has path (unwrap_or (cond b (Some old.text) None) text) ≡ text_has path text
          at false = refl
          at true = same_paths path other old (found_has other before old same) ∙ ap (λ own. option_map_or (bytes_eq path) own false) (sym is)

  restored_has : (placed : Placed Block) → text_has path (text_restored before placed) ≡ has_path path placed.here
  restored_has placed = by (fault_after restoring before placed)
    where
      by : (fault : Option BlockFault) → text_has path (unwrap_or (other_unless fault placed.here.text (block_for before placed.here.text)) placed.here.text) ≡ has_path path placed.here
      by (Some fault) = refl
      by None = other_has placed.here.text (path_of placed.here.text) refl

  -- ---- the first block of the path

  module _ (old : Block) (there : find (has_path path) before ≡ Some old) (reads : restore_fault old.text ≡ None) where
    has_it : (here : Block) → has_path path here ≡ true → path_of here.text ≡ Some path
    has_it here = by (path_of here.text)
      where
        by : (own : Option (List ℕ)) → option_map_or (bytes_eq path) own false ≡ true → own ≡ Some path
        by None has = cc
        by (Some own) has = ap (λ (own : List ℕ). Some own) (sym ((bytes_eq-Decides path own).0 has))

    is_old : (earlier : List Block) (here : Block) → is_among path earlier ≡ false → has_path path here ≡ true → restore_fault here.text ≡ None
        → text_restored before (put earlier here) ≡ old.text
    is_old earlier here once has whole =
        let own : path_of here.text ≡ Some path = has_it here has in
        let known : block_for before here.text ≡ Some old = ap (option_and_then (λ path. find (has_path path) before)) own ∙ there in
        let first : lists earlier here.text ≡ false = ap (λ own. option_map_or (λ path. is_among path earlier) own false) own ∙ once in
        let fault : fault_after restoring before (put earlier here) ≡ None = ap (λ b. unless_repeated (lists before here.text && b) (restore_fault here.text)) first ∙ no_fault (lists before here.text) in
        ap (λ fault. unwrap_or (other_unless fault here.text (block_for before here.text)) here.text) fault
        ∙ ap (λ was. unwrap_or (other_text here.text was) here.text) known
        ∙ ap (λ fault. unwrap_or (cond (is_none fault && not (bytes_eq old.text here.text)) (Some old.text) None) here.text) reads
        ∙ same (bytes_eq old.text here.text) refl
      where
        no_fault : (b : Bool) → unless_repeated (b && false) (restore_fault here.text) ≡ None
        no_fault true = whole
        no_fault false = whole

        same : (b : Bool) → bytes_eq old.text here.text ≡ b → unwrap_or (cond (not b) (Some old.text) None) here.text ≡ old.text
        same true is = sym ((bytes_eq-Decides old.text here.text).0 is)
        same false is = refl

    back_from : (earlier rest : List Block) (new : Block) → is_among path earlier ≡ false → find (has_path path) rest ≡ Some new → restore_fault new.text ≡ None
        → find (text_has path) (each (text_restored before) (in_places_after earlier rest)) ≡ Some old.text
    back_from earlier [] new once is whole = cc
    back_from earlier (here ∷ rest) new once is whole = by (λ once_more same. back_from (earlier ++ here ∷ []) rest new once_more same whole) (has_path path here) refl is
      where
        by : (is_among path (earlier ++ here ∷ []) ≡ false → find (has_path path) rest ≡ Some new
            → find (text_has path) (each (text_restored before) (in_places_after (earlier ++ here ∷ []) rest)) ≡ Some old.text) → (b : Bool) → has_path path here ≡ b → cond b (Some here) (find (has_path path) rest) ≡ Some new
            → cond (text_has path (text_restored before (put earlier here))) (Some (text_restored before (put earlier here)))
            (find (text_has path) (each (text_restored before) (in_places_after (earlier ++ here ∷ []) rest))) ≡ Some old.text
        by more true has same =
            let one : here ≡ new = cc in
            let here_whole : restore_fault here.text ≡ None = ap (λ (block : Block). restore_fault block.text) one ∙ whole in
            ap (λ b. cond b (Some (text_restored before (put earlier here))) (find (text_has path) (each (text_restored before) (in_places_after (earlier ++ here ∷ []) rest))))
            (restored_has (put earlier here) ∙ has)
            ∙ ap (λ (text : List ℕ). Some text) (is_old earlier here once has here_whole)
        by more false lacks same =
            let once_more : is_among path (earlier ++ here ∷ []) ≡ false =
            list_any-append (has_path path) earlier (here ∷ []) ∙ ap (λ b. b || (has_path path here || false)) once ∙ ap (λ b. b || false) lacks in
            ap (λ b. cond b (Some (text_restored before (put earlier here))) (find (text_has path) (each (text_restored before) (in_places_after (earlier ++ here ∷ []) rest))))
            (restored_has (put earlier here) ∙ lacks)
            ∙ more once_more same

pub brings_back : BringsBack
brings_back = λ before after path old new there reads is whole. back_from before path old there reads [] after new refl is whole
