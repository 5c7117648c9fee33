-- The listing of a tree has each folder before what is in it, and all of that directly behind it.
use Rattle.std.proofs.Common.{◌≡◌, ◌∙◌, ◌+◌, ℕ, suc, Bool, true, false, cond, List, [], ◌∷◌, Option, Some, Result, All, ap, ap₂, arith, bytes_eq, get_or, is_lt, map as each, nat_cmp, refl, subst, sym}
use Rattle.std.specs.Cmp.{tied_itself}
use Rattle.std.specs.Cmp.Lexicographic.{nat_list_cmp_total, slice_cmp}
use Rattle.std.specs.FinMap as map
use Rattle.std.specs.FinMap.{entries_sorted}
use Rattle.std.specs.FinMap.Entries.{below_all, is_sorted}
use Rattle.std.specs.List.{AllByRecursion, IsDistinct, filter}
use Rattle.std.specs.List.Sorted.{IsSortedByKey}
use Rattle.std.specs.Ordering.{ordering_reverse}
use Rattle.std.specs.declared.cmp.Ordering.{Ordering}
use Rattle.std.specs.declared.cmp.Ordering.TheVariants.{Less, Equal, Greater}
use Rattle.std.proofs.lemmas.Bool.{and_parts}
use Rattle.std.proofs.lemmas.List.Elements.{recursion_from_All}
use Rattle.std.proofs.lemmas.List.Sorted.{IsPermutation-map, ranks_by, sorted_far}
use Rattle.std.proofs.lemmas.Map.Keys.{IsDistinct-IsPermutation, IsDistinct-head, IsDistinct-tail}
use Rattle.std.proofs.lemmas.Slice.Eq.{bytes_eq-Decides}
use Rattle.acl_names.specs.Names.{Names}
use Rattle.acl_audit.proofs.PutLemmas.{truth}
use Rattle.acl_listings.specs.Block.{FileValue, file_by, path_of as path_in_text}
use Rattle.acl_listings.specs.Listing.{Block, blocks_of}
use Rattle.acl_listings.specs.Numbered.{said_of}
use Rattle.acl_listings.specs.Way.{is_above}
use Rattle.acl_listings.specs.declared.fault.BlockFault.{BlockFault}
use Rattle.acl_tree.specs.Entries.{Entry, path_of}
use Rattle.acl_tree.specs.Tree.{NodesUnderUmask}
use Rattle.acl_tree.specs.Walk.{IsWalk, walk_key}
use Rattle.acl_listing_queries.specs.Readings.{Reading, reading_of}
use Rattle.acl_listing_queries.specs.WayLaws.{AreInPreOrder, first_in, is_in}
use Rattle.acl_listing_queries.specs.Ways.{those_above}
use Rattle.acl_tree_queries.specs.ListAnswer.{file_at}
use Rattle.acl_tree_queries.specs.ListLaws.{ListsAreInPreOrder}
use Rattle.acl_tree_queries.proofs.ListLemmas.{IsAtPath, walk_at_paths}
use Rattle.acl_tree_queries.proofs.MadeLemmas.{tree_at_paths}
use Rattle.acl_tree_queries.proofs.StepOrderLemmas.{IsTreePath, above_between, not_above_before, same_place, step_cmp, tree_path}

-- ---- a walk rises, step by step

abbrev pub IsAt : Entry → Type 0
IsAt entry = IsTreePath entry.0

abbrev pub AreAt : List Entry → Type 0
AreAt entries = AllByRecursion IsAt entries

abbrev pub ComesBefore : Entry → Entry → Type 0
ComesBefore one later = step_cmp one.0 later.0 ≡ Less

abbrev pub Rises : List Entry → Type 0
Rises [] = Unit {0}
Rises (entry ∷ entries) = AllByRecursion (ComesBefore entry) entries × Rises entries

apart : (one other : List ℕ) → is_lt (slice_cmp nat_cmp one other) ≡ true → bytes_eq one other ≡ false
apart one other below = by (bytes_eq one other) refl
  where
    never : false ≡ true → ⊥
    never is = cc

    by : (b : Bool) → bytes_eq one other ≡ b → b ≡ false
    by false is = refl
    by true is =
        let same : one ≡ other = (bytes_eq-Decides one other).0 is in
        absurd (never (sym (ap is_lt (ap (slice_cmp nat_cmp one) (sym same) ∙ tied_itself nat_list_cmp_total one)) ∙ below))

-- the entries of a tree have different paths
all_apart : (path : List ℕ) (entries : List Entry) → below_all (slice_cmp nat_cmp) path entries ≡ true → AllByRecursion (λ other. bytes_eq path other ≡ false) (each path_of entries)
all_apart path [] below = tt
all_apart path (entry ∷ entries) below =
    let both = and_parts (is_lt (slice_cmp nat_cmp path entry.0)) (below_all (slice_cmp nat_cmp) path entries) below in
    (apart path entry.0 both.0, all_apart path entries both.1)

distinct : (entries : List Entry) → is_sorted (slice_cmp nat_cmp) entries ≡ true → IsDistinct bytes_eq (each path_of entries)
unfolding IsDistinct
distinct [] sorted = tt
distinct (entry ∷ entries) sorted =
    let both = and_parts (below_all (slice_cmp nat_cmp) entry.0 entries) (is_sorted (slice_cmp nat_cmp) entries) sorted in
    (all_apart entry.0 entries both.0, distinct entries both.1)

comes_before : (one later : Entry) → IsAt one → IsAt later → is_lt (step_cmp later.0 one.0) ≡ false → bytes_eq one.0 later.0 ≡ false → ComesBefore one later
comes_before one later is are behind differ = by (step_cmp one.0 later.0) refl (nat_list_cmp_total.antisymm (walk_key later.0) (walk_key one.0))
  where
    never : true ≡ false → ⊥
    never is = cc

    by : (o : Ordering) → step_cmp one.0 later.0 ≡ o → step_cmp later.0 one.0 ≡ ordering_reverse (step_cmp one.0 later.0) → o ≡ Less
    by Less is_o turned = refl
    by Equal is_o turned = absurd (never (sym ((bytes_eq-Decides one.0 later.0).1 (same_place one.0 later.0 is are is_o)) ∙ differ))
    by Greater is_o turned = absurd (never (sym (ap is_lt (turned ∙ ap ordering_reverse is_o)) ∙ behind))

all_before : (one : Entry) (entries : List Entry) → IsAt one → AreAt entries → AllByRecursion (λ later. is_lt (step_cmp later.0 one.0) ≡ false) entries
    → AllByRecursion (λ path. bytes_eq one.0 path ≡ false) (each path_of entries) → AllByRecursion (ComesBefore one) entries
all_before one [] is are behind differ = tt
all_before one (later ∷ entries) is are behind differ = (comes_before one later is are.0 behind.0 differ.0, all_before one entries is are.1 behind.1 differ.1)

abbrev is_less : Entry → Entry → Bool
is_less one other = is_lt (step_cmp one.0 other.0)

rises : (entries : List Entry) → AreAt entries → IsDistinct bytes_eq (each path_of entries) → IsSortedByKey (λ entry. walk_key (path_of entry)) (slice_cmp nat_cmp) entries → Rises entries
rises [] are differ sorted = tt
rises (entry ∷ entries) are differ sorted = (
  all_before entry entries are.0 are.1 (recursion_from_All (λ later. is_less later entry ≡ false) entries behind) (IsDistinct-head bytes_eq entry.0 (each path_of entries) differ),
  rises entries are.1 (IsDistinct-tail bytes_eq entry.0 (each path_of entries) differ) tail_sorted,
)
  where
    tail_sorted : IsSortedByKey (λ entry. walk_key (path_of entry)) (slice_cmp nat_cmp) entries
    tail_sorted k d low high =
        let up : suc k + 1 ≡ suc (k + 1) = omega arith in
        subst (λ n. is_less (get_or (entry ∷ entries) n d) (get_or (entry ∷ entries) (suc k) d) ≡ false) up (sorted (suc k) d (omega arith) (omega (arith, high)))

    behind : All (λ later. is_less later entry ≡ false) entries
    behind k d inside = sorted_far is_less (ranks_by nat_list_cmp_total (λ (e : Entry). walk_key e.0)) (entry ∷ entries) sorted 0 (suc k) d (omega arith) (omega (arith, inside))

flipped : (one other : List ℕ) → bytes_eq one other ≡ bytes_eq other one
flipped one other = by (bytes_eq one other) (bytes_eq other one) refl refl
  where
    by : (b c : Bool) → bytes_eq one other ≡ b → bytes_eq other one ≡ c → b ≡ c
    by true true is are = refl
    by true false is are = sym ((bytes_eq-Decides other one).1 (sym ((bytes_eq-Decides one other).0 is))) ∙ are
    by false true is are = sym is ∙ (bytes_eq-Decides one other).1 (sym ((bytes_eq-Decides other one).0 are))
    by false false is are = refl

pub walk_rises : (tree : NodesUnderUmask) (entries : List Entry) → AllByRecursion IsAt entries → IsWalk tree entries → Rises entries
walk_rises tree entries are walk =
    let all : List Entry = map.entries tree.nodes in
    rises entries are
    (IsDistinct-IsPermutation bytes_eq flipped (each path_of all) (each path_of entries) (IsPermutation-map path_of all entries walk.all)
    (distinct all (truth (is_sorted (slice_cmp nat_cmp) all) (entries_sorted tree.nodes))))
    walk.in_order

-- ---- what rises is in pre-order

-- what is read of a node's block
abbrev pub reading_at : Entry → Reading
reading_at entry = record { path = Some entry.0; file = said_of (file_at entry) }

pub none_above : (one : Entry) (entries : List Entry) → IsAt one → AreAt entries → AllByRecursion (ComesBefore one) entries → those_above (reading_at one) (each reading_at entries) ≡ []
none_above one [] is are before = refl
none_above one (later ∷ entries) is are before =
    ap (λ b. cond b (reading_at later ∷ those_above (reading_at one) (each reading_at entries)) (those_above (reading_at one) (each reading_at entries)))
    (not_above_before one.0 later.0 is are.0 before.0)
    ∙ none_above one entries is are.1 before.1

-- behind one that isn't in a folder before it none is
none_behind : (folder one : Entry) (entries : List Entry) → IsAt folder → IsAt one → AreAt entries → ComesBefore folder one → AllByRecursion (ComesBefore one) entries
    → is_above folder.0 one.0 ≡ false → filter (is_in (reading_at folder)) (each reading_at entries) ≡ []
none_behind folder one [] is lies are behind before outside = refl
none_behind folder one (later ∷ entries) is lies are behind before outside =
    ap (λ b. cond b (reading_at later ∷ filter (is_in (reading_at folder)) (each reading_at entries)) (filter (is_in (reading_at folder)) (each reading_at entries)))
    (by (is_above folder.0 later.0) refl)
    ∙ none_behind folder one entries is lies are.1 behind before.1 outside
  where
    never : false ≡ true → ⊥
    never is = cc

    by : (b : Bool) → is_above folder.0 later.0 ≡ b → b ≡ false
    by true inside = absurd (never (sym outside ∙ above_between folder.0 one.0 later.0 is lies are.0 behind before.0 inside))
    by false inside = refl

all_first : (folder : Entry) (entries : List Entry) → IsAt folder → AreAt entries → AllByRecursion (ComesBefore folder) entries → Rises entries
    → filter (is_in (reading_at folder)) (each reading_at entries) ≡ first_in (reading_at folder) (each reading_at entries)
all_first folder [] is are behind rise = refl
all_first folder (one ∷ entries) is are behind rise =
    by (is_above folder.0 one.0) refl (all_first folder entries is are.1 behind.1 rise.1)
  where
    by : (b : Bool) → is_above folder.0 one.0 ≡ b → filter (is_in (reading_at folder)) (each reading_at entries) ≡ first_in (reading_at folder) (each reading_at entries)
        → cond b (reading_at one ∷ filter (is_in (reading_at folder)) (each reading_at entries)) (filter (is_in (reading_at folder)) (each reading_at entries))
        ≡ cond b (reading_at one ∷ first_in (reading_at folder) (each reading_at entries)) []
    by true inside rest = ap (λ more. reading_at one ∷ more) rest
    by false outside rest = none_behind folder one entries is are.0 are.1 behind.0 rise.0 outside

pub in_pre_order : (entries : List Entry) → AllByRecursion IsAt entries → Rises entries → AreInPreOrder (each reading_at entries)
in_pre_order [] are rise = tt
in_pre_order (entry ∷ entries) are rise = (
  none_above entry entries are.0 are.1 rise.0,
  all_first entry entries are.0 are.1 rise.0 rise.1,
  in_pre_order entries are.1 rise.1,
)

-- ---- what is read of blocks

pub cons_parts : {X : Type 0} (x y : X) (xs ys : List X) → x ∷ xs ≡ y ∷ ys → (x ≡ y) × (xs ≡ ys)
cons_parts x y xs ys is = (cc, cc)

pub readings_are : (names : Names) (blocks : List Block) (entries : List Entry) → each (λ block. path_in_text block.text) blocks ≡ each (λ entry. Some (path_of entry)) entries
    → each (λ block. file_by names block.text) blocks ≡ each said_of (each file_at entries) → each (λ block. reading_of names block.text) blocks ≡ each reading_at entries
readings_are names [] [] paths files = refl
readings_are names [] (entry ∷ entries) paths files = cc
readings_are names (block ∷ blocks) [] paths files = cc
readings_are names (block ∷ blocks) (entry ∷ entries) paths files =
    let path = cons_parts (path_in_text block.text) (Some entry.0) (each (λ block. path_in_text block.text) blocks) (each (λ entry. Some (path_of entry)) entries) paths in
    let file = cons_parts (file_by names block.text) (said_of (file_at entry)) (each (λ block. file_by names block.text) blocks) (each said_of (each file_at entries)) files in
    ap₂ (λ (p : Option (List ℕ)) (f : Result FileValue BlockFault). record { path = p; file = f } ∷ each (λ block. reading_of names block.text) blocks) path.0 file.0
    ∙ ap (λ more. reading_at entry ∷ more) (readings_are names blocks entries path.1 file.1)

pub at_tree_paths : (entries : List Entry) → AllByRecursion IsAtPath entries → AllByRecursion IsAt entries
at_tree_paths [] are = tt
at_tree_paths (entry ∷ entries) are = (tree_path entry.0 are.0, at_tree_paths entries are.1)

pub lists_are_in_pre_order : ListsAreInPreOrder
lists_are_in_pre_order bytes_of input rows known tree text files (entries, walk, says, paths) names numbers =
    let are = at_tree_paths entries (recursion_from_All IsAtPath entries (walk_at_paths tree entries (tree_at_paths bytes_of input rows known tree files) walk)) in
    subst AreInPreOrder (sym (readings_are names (blocks_of text) entries paths (says names numbers))) (in_pre_order entries are (walk_rises tree entries are walk))
