-- Of the listing of a tree, the way to each node is known, if its folders' blocks read.
use Rattle.std.proofs.Common.{◌≡◌, ◌∙◌, ◌<◌, ◌++◌, ℕ, zero, suc, Bool, true, false, cond, List, [], ◌∷◌, Option, Some, None, IsSome, Result, Ok, Err, ap, ap₂, append_assoc, arith, bytes_eq, flat_map, length, map as each, nat_cmp, refl, reverse, subst, sym}
use Rattle.std.specs.Prelude.{is_ok, is_some, ◌||◌}
use Rattle.std.specs.Cmp.{tied_itself}
use Rattle.std.specs.Cmp.Lexicographic.{nat_list_cmp_total, slice_cmp}
use Rattle.std.specs.FinMap as map
use Rattle.std.specs.FinMap.{entries_sorted, get-entries}
use Rattle.std.specs.FinMap.Entries.{find, is_sorted}
use Rattle.std.specs.List.{AllByRecursion, filter, list_all, list_any}
use Rattle.std.specs.declared.cmp.Ordering.TheVariants.{Less, Equal}
use Rattle.std.proofs.lemmas.Bool.{and_parts}
use Rattle.std.proofs.lemmas.List.{length-reverse, reverse-append}
use Rattle.std.proofs.lemmas.List.Elements.{All-from_recursion, recursion_from_All}
use Rattle.std.proofs.lemmas.List.Sorted.{All-permutation, list_any-IsPermutation}
use Rattle.std.proofs.lemmas.Slice.Eq.{bytes_eq-Decides}
use Rattle.acl_names.specs.Pieces.{parts}
use Rattle.acl_names.proofs.Keys.{same_name}
use Rattle.acl_audit.proofs.PutLemmas.{found_each, found_in, truth, weaker}
use Rattle.acl_listings.specs.Block.{FileValue}
use Rattle.acl_listings.specs.Listing.{blocks_of}
use Rattle.acl_listings.specs.Way.{is_above, is_folder_of, steps_of}
use Rattle.acl_listings.proofs.WayLemmas.{is_above-self}
use Rattle.acl_listings.specs.declared.fault.BlockFault.{BlockFault}
use Rattle.acl_reports.specs.Placed.{Placed, in_places_after}
use Rattle.acl_tree.specs.Entries.{Entry}
use Rattle.acl_tree.specs.Path.{parent}
use Rattle.acl_tree.specs.Shape.{IsDirectory, NodesLieInDirectories}
use Rattle.acl_tree.specs.Tree.{NodesUnderUmask}
use Rattle.acl_tree.specs.Walk.{IsWalk, walk_key}
use Rattle.acl_tree.specs.declared.node.Node.{Node}
use Rattle.acl_tree.proofs.TreeLaws.{parents_are_directories}
use Rattle.acl_listing_queries.specs.Readings.{Reading}
use Rattle.acl_listing_queries.specs.WayLaws.{AreInPreOrder, IsPlaced}
use Rattle.acl_listing_queries.specs.Ways.{are_all_apart, begins_apart, chain_to, folder_of, if_first, known_way, may_be_above, those_above, way_of, with_folder}
use Rattle.acl_listing_queries.specs.WhoSteps.{lacks_path}
use Rattle.acl_listing_queries.proofs.WayLawLemmas.{ways_are_all_above}
use Rattle.acl_tree_queries.specs.ListLaws.{ListsHaveKnownWays, reads}
use Rattle.acl_tree_queries.proofs.ListLemmas.{IsAtPath, walk_at_paths}
use Rattle.acl_tree_queries.proofs.MadeLemmas.{made_by_sessions, tree_at_paths}
use Rattle.acl_tree_queries.proofs.OpenedLemmas.{opens_a_root_alone}
use Rattle.acl_tree_queries.proofs.ParentLemmas.{HasFolder, above_folder, folder_above, folder_holds, folder_of_path}
use Rattle.acl_tree_queries.proofs.PreOrderLemmas.{AreAt, ComesBefore, IsAt, Rises, at_tree_paths, cons_parts, in_pre_order, none_above, reading_at, readings_are, walk_rises}
use Rattle.acl_tree_queries.proofs.StepOrderLemmas.{IsTreePath, above_steps, behind, leads_below, more_steps, not_above_before, order_behind, slash, some_part, step_cmp, steps_in, tree_path}

never : false ≡ true → ⊥
never is = cc

-- ---- what a walk has

-- one of these entries is at the path
abbrev is_at : List ℕ → Entry → Bool
is_at path entry = bytes_eq entry.0 path

turned_bytes : (one other : List ℕ) → bytes_eq one other ≡ true → bytes_eq other one ≡ true
turned_bytes one other is = (bytes_eq-Decides other one).1 (sym ((bytes_eq-Decides one other).0 is))

abbrev HasNodeAt : NodesUnderUmask → List ℕ → Type 0
HasNodeAt tree path = IsSome (map.get tree.nodes path)

found_among : (path : List ℕ) (entries : List Entry) → IsSome (find (slice_cmp nat_cmp) path entries) → list_any (is_at path) entries ≡ true
found_among path [] found = cc
found_among path (entry ∷ entries) found = by (bytes_eq path entry.0) refl (found_among path entries) (subst (λ b. IsSome (cond b (Some entry.1) (find (slice_cmp nat_cmp) path entries))) (sym (same_name path entry.0)) found)
  where
    plain : (b : Bool) → list_any (is_at path) entries ≡ true → (b || list_any (is_at path) entries) ≡ true
    plain true rest = refl
    plain false rest = rest

    by : (b : Bool) → bytes_eq path entry.0 ≡ b → (IsSome (find (slice_cmp nat_cmp) path entries) → list_any (is_at path) entries ≡ true)
        → IsSome (cond b (Some entry.1) (find (slice_cmp nat_cmp) path entries)) → (bytes_eq entry.0 path || list_any (is_at path) entries) ≡ true
    by true is rest found = ap (λ b. b || list_any (is_at path) entries) (turned_bytes path entry.0 is)
    by false is rest found = plain (bytes_eq entry.0 path) (rest found)

-- each node of the tree has a place in the walk
in_walk : (tree : NodesUnderUmask) (entries : List Entry) → IsWalk tree entries → (path : List ℕ) → HasNodeAt tree path → list_any (is_at path) entries ≡ true
in_walk tree entries walk path has =
    sym (list_any-IsPermutation (is_at path) (map.entries tree.nodes) entries walk.all)
    ∙ found_among path (map.entries tree.nodes) (subst (λ found. IsSome found) (get-entries tree.nodes path) has)

-- what is known of a tree and its walk
record IsWalked (tree : NodesUnderUmask) (entries : List Entry) : Type 0 where
  walk : IsWalk tree entries
  are : AreAt entries
  rise : Rises entries
  there : AllByRecursion (λ entry. HasNodeAt tree entry.0) entries
  paths : (path : List ℕ) → HasNodeAt tree path → IsTreePath path
  folders : (path : List ℕ) → HasNodeAt tree path → HasNodeAt tree (parent path)

-- ---- what is above a path is its folder, and what is above that

abbrev above : List ℕ → Reading → Bool
above path folder = may_be_above folder.path (Some path)

differ_behind : (one : Entry) (entries : List Entry) → AllByRecursion (ComesBefore one) entries → AllByRecursion (λ later. bytes_eq later.0 one.0 ≡ false) entries
differ_behind one [] before = tt
differ_behind one (later ∷ entries) before = (by (bytes_eq later.0 one.0) refl, differ_behind one entries before.1)
  where
    equal : Equal ≡ Less → ⊥
    equal is = cc

    by : (b : Bool) → bytes_eq later.0 one.0 ≡ b → b ≡ false
    by false is = refl
    by true is =
        let same : later.0 ≡ one.0 = (bytes_eq-Decides later.0 one.0).0 is in
        absurd (equal (sym (ap (step_cmp one.0) same ∙ tied_itself nat_list_cmp_total (walk_key one.0)) ∙ before.0))

module _ (path folder : List ℕ) (is : IsTreePath path) (are : IsTreePath folder) (has : HasFolder path folder) where
  same_above : (entries : List Entry) → AreAt entries → AllByRecursion (λ entry. bytes_eq entry.0 folder ≡ false) entries
      → filter (above path) (each reading_at entries) ≡ filter (above folder) (each reading_at entries)
  same_above [] lie differ = refl
  same_above (entry ∷ entries) lie differ =
      ap₂ (λ b rest. cond b (reading_at entry ∷ rest) rest) (above_folder path folder is are has entry.0 lie.0 differ.0) (same_above entries lie.1 differ.1)

  -- the folder is the last that is above the path
  record EndsWith (entries : List Entry) : Type 0 where
    own : Entry
    at : own.0 ≡ folder
    lies : IsAt own
    those : filter (above path) (each reading_at entries) ≡ filter (above folder) (each reading_at entries) ++ reading_at own ∷ []

  ends_with : (entries : List Entry) → AreAt entries → Rises entries → list_any (is_at folder) entries ≡ true → EndsWith entries
  ends_with [] lie rise there = absurd (never there)
  ends_with (entry ∷ entries) lie rise there = by (bytes_eq entry.0 folder) refl there (ends_with entries lie.1 rise.1)
    where
      here : entry.0 ≡ folder → EndsWith (entry ∷ entries)
      here at =
          let differ = subst (λ own. AllByRecursion (λ later. bytes_eq later.0 own ≡ false) entries) at (differ_behind entry entries rise.0) in
          let none : filter (above folder) (each reading_at entries) ≡ [] = subst (λ own. filter (above own) (each reading_at entries) ≡ []) at (none_above entry entries lie.0 lie.1 rise.0) in
          record {
            own = entry;
            at = at;
            lies = lie.0;
            those = ap₂ (λ b rest. cond b (reading_at entry ∷ rest) rest) (ap (λ own. is_above own path) at ∙ folder_above path folder is are has) (same_above entries lie.1 differ ∙ none)
                ∙ ap (λ front. front ++ reading_at entry ∷ []) (sym (ap₂ (λ b rest. cond b (reading_at entry ∷ rest) rest) (ap (λ own. is_above own folder) at ∙ is_above-self folder) none));
          }

      later : bytes_eq entry.0 folder ≡ false → EndsWith entries → EndsWith (entry ∷ entries)
      later differs rest = record {
        own = rest.own;
        at = rest.at;
        lies = rest.lies;
        those = ap₂ (λ b rest. cond b (reading_at entry ∷ rest) rest) (above_folder path folder is are has entry.0 lie.0 differs) rest.those ∙ over (is_above entry.0 folder);
      }
        where
          over : (b : Bool) → cond b (reading_at entry ∷ (filter (above folder) (each reading_at entries) ++ reading_at rest.own ∷ [])) (filter (above folder) (each reading_at entries) ++ reading_at rest.own ∷ [])
              ≡ cond b (reading_at entry ∷ filter (above folder) (each reading_at entries)) (filter (above folder) (each reading_at entries)) ++ reading_at rest.own ∷ []
          over true = refl
          over false = refl

      by : (b : Bool) → bytes_eq entry.0 folder ≡ b → (b || list_any (is_at folder) entries) ≡ true → (list_any (is_at folder) entries ≡ true → EndsWith entries) → EndsWith (entry ∷ entries)
      by true is there rest = here ((bytes_eq-Decides entry.0 folder).0 is)
      by false is there rest = later is (rest there)

-- nothing is above the root
nothing_leads : (steps : List (List ℕ)) → leads_below steps [] ≡ false
nothing_leads [] = refl
nothing_leads (step ∷ steps) = refl

above_root : (root : Entry) (entries : List Entry) → IsAt root → behind root.0 ≡ [] → AreAt entries → filter (above root.0) (each reading_at entries) ≡ []
above_root root [] is at are = refl
above_root root (entry ∷ entries) is at are =
    ap₂ (λ b rest. cond b (reading_at entry ∷ rest) rest)
    (above_steps entry.0 root.0 are.0 is ∙ ap (leads_below (steps_of entry.0)) (is.steps ∙ ap steps_in at) ∙ nothing_leads (steps_of entry.0))
    (above_root root entries is at are.1)

-- ---- the folders of a way

with_known : (said : Result FileValue BlockFault) (path : Option (List ℕ)) (found : Option (List FileValue)) → is_ok said ≡ true → IsSome found → IsSome (with_folder (folder_of (record { path = path; file = said })) found)
with_known (Ok file) path (Some files) said found = refl
with_known (Ok file) path None said found = absurd (never found)
with_known (Err fault) path found said known = absurd (never said)

module _ (tree : NodesUnderUmask) (entries : List Entry) (walked : IsWalked tree entries) where
  abbrev all : List Reading
  all = each reading_at entries

  abbrev way_to : Entry → List Reading
  way_to entry = reverse (filter (above entry.0) all)

  abbrev IsChained : Entry → Type 0
  IsChained entry = list_all reads (way_to entry) ≡ true → IsSome (chain_to (way_to entry) (reading_at entry))

  -- if it is so of what has a shorter path
  one_more : (entry : Entry) → IsAt entry → HasNodeAt tree entry.0 → ((own : Entry) → length own.0 < length entry.0 → IsAt own → HasNodeAt tree own.0 → IsChained own) → IsChained entry
  one_more entry is has rest say = by (behind entry.0) refl
    where
      by : (text : List ℕ) → behind entry.0 ≡ text → IsSome (chain_to (way_to entry) (reading_at entry))
      by [] at = subst (λ (way : List Reading). IsSome (chain_to (reverse way) (reading_at entry))) (sym (above_root entry entries is at walked.are)) refl
      by (byte ∷ bytes) at =
          let folder : List ℕ = parent entry.0 in
          let own_has : HasNodeAt tree folder = walked.folders entry.0 has in
          let own_is : IsTreePath folder = walked.paths folder own_has in
          let some : 0 < length (behind entry.0) = omega (arith, ap length at) in
          let holds_it = folder_of_path entry.0 is some own_is in
          let found = ends_with entry.0 folder is own_is holds_it entries walked.are walked.rise (in_walk tree entries walked.walk folder own_has) in
          let inside : is_folder_of found.own.0 entry.0 ≡ true = ap (λ own. is_folder_of own entry.0) found.at ∙ folder_holds entry.0 folder is own_is holds_it in
          let way : way_to entry ≡ reading_at found.own ∷ way_to found.own =
          ap reverse (found.those ∙ ap (λ own. filter (above own) all ++ reading_at found.own ∷ []) (sym found.at))
          ∙ reverse-append (filter (above found.own.0) all) (reading_at found.own ∷ []) in
          let both = and_parts (reads (reading_at found.own)) (list_all reads (way_to found.own)) (subst (λ (way : List Reading). list_all reads way ≡ true) way say) in
          let further = rest found.own (subst (λ own. length own < length entry.0) (sym found.at) holds_it.shorter) found.lies (subst (HasNodeAt tree) (sym found.at) own_has) both.1 in
          subst (λ (way : List Reading). IsSome (chain_to way (reading_at entry))) (sym way)
          (subst (λ b. IsSome (cond b (with_folder (folder_of (reading_at found.own)) (chain_to (way_to found.own) (reading_at found.own))) None)) (sym inside)
          (with_known (reading_at found.own).file (Some found.own.0) (chain_to (way_to found.own) (reading_at found.own)) both.0 further))

  chain : (n : ℕ) (entry : Entry) → length entry.0 < n → IsAt entry → HasNodeAt tree entry.0 → IsChained entry
  chain zero entry few is has = absurd (omega (arith, few))
  chain (suc n) entry few is has = one_more entry is has (λ own less own_is own_has. chain n own (omega (arith, few, less)) own_is own_has)

-- ---- the first block of a walk is the root's

first_is_root : (tree : NodesUnderUmask) (first : Entry) (entries : List Entry) → IsWalked tree (first ∷ entries) → behind first.0 ≡ []
first_is_root tree first entries walked = by (behind first.0) refl
  where
    none_behind : (folder : List ℕ) (later : List Entry) → is_above folder first.0 ≡ true → AreAt later → AllByRecursion (ComesBefore first) later → list_any (is_at folder) later ≡ true → ⊥
    none_behind folder [] over are before there = never there
    none_behind folder (entry ∷ later) over are before there = by (bytes_eq entry.0 folder) refl there (none_behind folder later over are.1 before.1)
      where
        by : (b : Bool) → bytes_eq entry.0 folder ≡ b → (b || list_any (is_at folder) later) ≡ true → (list_any (is_at folder) later ≡ true → ⊥) → ⊥
        by true is there rest =
            never (sym (not_above_before first.0 entry.0 walked.are.0 are.0 before.0) ∙ ap (λ own. is_above own first.0) ((bytes_eq-Decides entry.0 folder).0 is) ∙ over)
        by false is there rest = rest there

    by : (rest : List ℕ) → behind first.0 ≡ rest → rest ≡ []
    by [] at = refl
    by (byte ∷ bytes) at =
        let folder : List ℕ = parent first.0 in
        let own_has : HasNodeAt tree folder = walked.folders first.0 walked.there.0 in
        let own_is : IsTreePath folder = walked.paths folder own_has in
        let some : 0 < length (behind first.0) = omega (arith, ap length at) in
        let holds_it = folder_of_path first.0 walked.are.0 some own_is in
        let over : is_above folder first.0 ≡ true = folder_above first.0 folder walked.are.0 own_is holds_it in
        absurd (where_it_is (bytes_eq first.0 folder) refl (in_walk tree (first ∷ entries) walked.walk folder own_has) holds_it.shorter over)
      where
        where_it_is : (b : Bool) → bytes_eq first.0 (parent first.0) ≡ b → (b || list_any (is_at (parent first.0)) entries) ≡ true → length (parent first.0) < length first.0 → is_above (parent first.0) first.0 ≡ true → ⊥
        where_it_is true is there less over = let same : first.0 ≡ parent first.0 = (bytes_eq-Decides first.0 (parent first.0)).0 is in omega (arith, less, ap length same)
        where_it_is false is there less over = none_behind (parent first.0) entries over walked.are.1 walked.rise.0 there

-- the root is above each block behind it
below_root : (root : Entry) (entries : List Entry) → IsAt root → behind root.0 ≡ [] → AreAt entries → AllByRecursion (ComesBefore root) entries → AllByRecursion (λ entry. is_above root.0 entry.0 ≡ true) entries
below_root root [] is at are before = tt
below_root root (entry ∷ entries) is at are before = (
  above_steps root.0 entry.0 is are.0 ∙ ap₂ leads_below (is.steps ∙ ap steps_in at) are.0.steps
      ∙ by (behind entry.0) (sym (order_behind root.0 entry.0 is are.0 ∙ ap (λ rest. step_cmp rest (behind entry.0)) at) ∙ before.0),
  below_root root entries is at are.1 before.1,
)
  where
    by : (rest : List ℕ) → step_cmp [] rest ≡ Less → leads_below [] (steps_in rest) ≡ true
    by [] less = cc
    by (byte ∷ rest) less = lead (parts slash (byte ∷ rest)) (some_part (byte ∷ rest))
      where
        lead : (steps : List (List ℕ)) → 0 < length steps → leads_below [] steps ≡ true
        lead [] some = absurd (omega (arith, some))
        lead (step ∷ steps) some = more_steps step steps

-- ---- all ways begin with the root

if_first_none : (here : Reading) (way : List Reading) → 0 < length way → if_first here way ≡ []
if_first_none here [] some = absurd (omega (arith, some))
if_first_none here (folder ∷ way) some = refl

-- a block of a walk is that of an entry
placed_entry : (P : Entry → Type 0) (entries : List Entry) (before : List Reading) (here : Reading) (after : List Reading) → each reading_at entries ≡ before ++ here ∷ after → AllByRecursion P entries
    → (entry : Entry) × (here ≡ reading_at entry) × P entry
placed_entry P [] [] here after is have = cc
placed_entry P [] (first ∷ before) here after is have = cc
placed_entry P (entry ∷ entries) [] here after is have = (entry, sym (cons_parts (reading_at entry) here (each reading_at entries) after is).0, have.0)
placed_entry P (entry ∷ entries) (first ∷ before) here after is have =
    placed_entry P entries before here after (cons_parts (reading_at entry) first (each reading_at entries) (before ++ here ∷ after) is).1 have.1

abbrev begun : Placed Reading → List Reading
begun placed = if_first placed.here (way_of placed.earlier placed.here)

module _ (root : Entry) (entries : List Entry) (over : AllByRecursion (λ entry. is_above root.0 entry.0 ≡ true) entries)
    (order : AreInPreOrder (each reading_at (root ∷ entries))) (known : list_any lacks_path (each reading_at (root ∷ entries)) ≡ false) where
  none_begins : (front more after : List Reading) → each reading_at entries ≡ front ++ (more ++ after) → flat_map begun (in_places_after (reading_at root ∷ front) more) ≡ []
  none_begins front [] after is = refl
  none_begins front (here ∷ more) after is =
      let found = placed_entry (λ entry. is_above root.0 entry.0 ≡ true) entries front here (more ++ after) is over in
      let whole : each reading_at (root ∷ entries) ≡ (reading_at root ∷ front) ++ here ∷ (more ++ after) = ap (λ rest. reading_at root ∷ rest) is in
      let way = ways_are_all_above (reading_at root ∷ front) here (more ++ after) (subst (λ blocks. list_any lacks_path blocks ≡ false) whole known) (subst AreInPreOrder whole order) in
      let nearest : those_above here ((reading_at root ∷ front) ++ here ∷ (more ++ after)) ≡ reading_at root ∷ those_above here (front ++ here ∷ (more ++ after)) =
      ap (λ b. cond b (reading_at root ∷ those_above here (front ++ here ∷ (more ++ after))) (those_above here (front ++ here ∷ (more ++ after))))
      (ap (λ (block : Reading). may_be_above (Some root.0) block.path) found.1 ∙ found.2) in
      let long : 0 < length (way_of (reading_at root ∷ front) here) =
      omega (arith, ap length (way ∙ ap reverse nearest), length-reverse (reading_at root ∷ those_above here (front ++ here ∷ (more ++ after)))) in
      ap (λ begins. begins ++ flat_map begun (in_places_after ((reading_at root ∷ front) ++ here ∷ []) more)) (if_first_none here (way_of (reading_at root ∷ front) here) long)
      ∙ none_begins (front ++ here ∷ []) more after (is ∙ sym (append_assoc front (here ∷ []) (more ++ after)))

  begins : (before : List Reading) (here : Reading) (after : List Reading) → each reading_at (root ∷ entries) ≡ before ++ here ∷ after → begins_apart before here ≡ true
  begins [] here after is = refl
  begins (first ∷ before) here after is =
      let both = cons_parts (reading_at root) first (each reading_at entries) (before ++ here ∷ after) is in
      ap (λ (more : List Reading). are_all_apart (first ∷ more))
      (ap (λ (one : Reading). flat_map begun (in_places_after (one ∷ []) (before ++ here ∷ []))) (sym both.0)
      ∙ none_begins [] (before ++ here ∷ []) after (both.1 ∙ sym (append_assoc before (here ∷ []) after)))

-- ---- the law

record IsThere (tree : NodesUnderUmask) (entry : Entry) : Type 0 where
  at : IsAt entry
  has : HasNodeAt tree entry.0

have_paths : (entries : List Entry) → list_any lacks_path (each reading_at entries) ≡ false
have_paths [] = refl
have_paths (entry ∷ entries) = have_paths entries

known_ways : (tree : NodesUnderUmask) (entries : List Entry) → IsWalked tree entries → (before : List Reading) (here : Reading) → IsPlaced (each reading_at entries) before here
    → list_all reads (way_of before here) ≡ true → IsSome (known_way before here)
known_ways tree entries walked before here placed say =
    subst (λ b. IsSome (cond b (chain_to (way_of before here) here) None)) (sym (starts entries refl)) chained
  where
    chained : IsSome (chain_to (way_of before here) here)
    chained =
        let found = placed_entry (IsThere tree) entries before here placed.after placed.are (both entries walked.are walked.there) in
        let way : way_of before here ≡ reverse (those_above here (each reading_at entries)) =
        ways_are_all_above before here placed.after (subst (λ blocks. list_any lacks_path blocks ≡ false) placed.are (have_paths entries))
        (subst AreInPreOrder placed.are (in_pre_order entries walked.are walked.rise))
        ∙ ap (λ (blocks : List Reading). reverse (those_above here blocks)) (sym placed.are) in
        let whole : way_of before here ≡ way_to tree entries walked found.0 = way ∙ ap (λ (block : Reading). reverse (those_above block (each reading_at entries))) found.1 in
        subst (λ (block : Reading). IsSome (chain_to (way_of before here) block)) (sym found.1)
        (subst (λ (way : List Reading). IsSome (chain_to way (reading_at found.0))) (sym whole)
        (chain tree entries walked (suc (length found.0.0)) found.0 (omega arith) found.2.at found.2.has (subst (λ (way : List Reading). list_all reads way ≡ true) whole say)))
      where
        both : (some : List Entry) → AreAt some → AllByRecursion (λ entry. HasNodeAt tree entry.0) some → AllByRecursion (IsThere tree) some
        both [] are there = tt
        both (entry ∷ some) are there = (record { at = are.0; has = there.0 }, both some are.1 there.1)

    starts : (some : List Entry) → some ≡ entries → begins_apart before here ≡ true
    starts [] same = empty before (ap (each reading_at) same ∙ placed.are)
      where
        empty : (before : List Reading) → [] ≡ before ++ here ∷ placed.after → begins_apart before here ≡ true
        empty [] is = cc
        empty (first ∷ before) is = cc
    starts (root ∷ rest) same =
        let own : IsWalked tree (root ∷ rest) = subst (IsWalked tree) (sym same) walked in
        let at = first_is_root tree root rest own in
        begins root rest (below_root root rest own.are.0 at own.are.1 own.rise.0) (in_pre_order (root ∷ rest) own.are own.rise) (have_paths (root ∷ rest)) before here placed.after
        (ap (each reading_at) same ∙ placed.are)

-- the nodes of a walk are in the tree
all_there : (tree : NodesUnderUmask) (entries : List Entry) → IsWalk tree entries → AllByRecursion (λ entry. HasNodeAt tree entry.0) entries
all_there tree entries walk =
    let all : List Entry = map.entries tree.nodes in
    let up : is_sorted (slice_cmp nat_cmp) all ≡ true = truth (is_sorted (slice_cmp nat_cmp) all) (entries_sorted tree.nodes) in
    recursion_from_All (λ (entry : Entry). HasNodeAt tree entry.0) entries
    (All-permutation (λ (entry : Entry). HasNodeAt tree entry.0) all entries walk.all
    (All-from_recursion (λ (entry : Entry). HasNodeAt tree entry.0) all
    (weaker (λ entry. found_in entry.0 all ≡ Some entry.1) (λ entry. HasNodeAt tree entry.0) (λ entry found. ap is_some (get-entries tree.nodes entry.0 ∙ found)) all (found_each all all (λ q node found. found) up))))

pub lists_have_known_ways : ListsHaveKnownWays
lists_have_known_ways bytes_of input rows known tree text files (entries, walk, says, paths) names numbers before here placed =
    let at_paths = tree_at_paths bytes_of input rows known tree files in
    let are = at_tree_paths entries (recursion_from_All IsAtPath entries (walk_at_paths tree entries at_paths walk)) in
    let same = readings_are names (blocks_of text) entries paths (says names numbers) in
    let alone = opens_a_root_alone files.setup known files.new files.opened in
    let lie : NodesLieInDirectories tree = parents_are_directories known tree (made_by_sessions known files.new tree alone files.sessions files.left) in
    known_ways tree entries
    (record {
      walk = walk;
      are = are;
      rise = walk_rises tree entries are walk;
      there = all_there tree entries walk;
      paths = λ path has. let found = some_node (map.get tree.nodes path) has in tree_path path (at_paths path found.0 found.1);
      folders = λ path has. let found = some_node (map.get tree.nodes path) has in some_of (map.get tree.nodes (parent path)) (lie path found.0 found.1);
    })
    before here (subst (λ (blocks : List Reading). IsPlaced blocks before here) same placed)
  where
    some_node : (found : Option Node) → IsSome found → (node : Node) × (found ≡ Some node)
    some_node (Some node) is = (node, refl)
    some_node None is = absurd (never is)

    some_of : (found : Option Node) → IsDirectory found → IsSome found
    some_of (Some node) is = refl
    some_of None is = absurd is
