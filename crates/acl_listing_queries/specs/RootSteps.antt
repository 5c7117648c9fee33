-- How the blocks with which ways begin are kept. Private steps, which no public clause cites.
use Rattle.std.specs.Prelude.{◌≡◌, ◌⊎◌, ◌++◌, ℕ, Bool, true, false, List, [], ◌∷◌, Option}
use Rattle.std.specs.Prelude.{Some, None, IfSome, Vec, if◌then◌else◌, option_map}
use Rattle.std.specs.List.{list_all}
use Rattle.std.specs.Cmp.{IsTotalOrder, on_total}
use Rattle.std.specs.Cmp.Lexicographic.{lists_total, nat_list_cmp_total}
use Rattle.std.specs.Ordering.{is_gt, on}
use Rattle.std.specs.declared.alloc.Global.{Global}
use Rattle.std.specs.declared.cmp.Ordering.{Ordering}
use Rattle.acl_listings.specs.Way.{is_above, steps_cmp, steps_of}
use Rattle.acl_listing_queries.specs.Readings.{Reading}
use Rattle.acl_listing_queries.specs.Ways.{are_all_apart, are_apart, beginnings_of, way_behind}
use Rattle.acl_listing_queries.specs.declared.beginning.Beginning.{Beginning}
use Rattle.acl_listing_queries.specs.declared.roots.Root.{Root}
use Rattle.acl_listing_queries.specs.declared.roots.Roots.{Roots}

-- ---- how roots compare

abbrev pub root_steps : Root → List (List ℕ)
root_steps root = steps_of root.path.items

abbrev pub root_cmp : Root → Root → Ordering
root_cmp = on root_steps steps_cmp

pub root_total : IsTotalOrder root_cmp
root_total = on_total root_steps (lists_total nat_list_cmp_total)

abbrev pub ComesNoLater : Root → Root → Type 0
ComesNoLater one other = is_gt (root_cmp one other) ≡ false

-- ---- what is kept

-- it is apart from each of these blocks
abbrev pub is_apart : List Reading → Reading → Bool
is_apart blocks here = list_all (λ block. are_apart block.path here.path) blocks

-- this block is one more of them, if it is
abbrev pub with_root_if : List Reading → Reading → List Reading
with_root_if blocks here = if is_apart blocks here then blocks ++ here ∷ [] else blocks

abbrev pub IsOneOf : {X : Type 0} → X → List X → Type 0
IsOneOf item [] = ⊥
IsOneOf item (first ∷ items) = (item ≡ first) ⊎ IsOneOf item items

-- it has this path, or another that leads to the same place
pub record IsKeptBy (roots : List Root) (block : Reading) : Type 0 where
  pub root : Root
  pub there : IsOneOf root roots
  pub path : List ℕ
  pub path_is : block.path ≡ Some path
  pub same : root_steps root ≡ steps_of path

-- the paths of blocks are kept that are apart from each other
pub record AreRoots (roots : Roots) (blocks : List Reading) : Type 0 where
  pub apart : (one other : Reading) → IsOneOf one blocks → IsOneOf other blocks
      → are_apart one.path other.path ≡ true
  pub each : (root : Root) → IsOneOf root roots.paths.keys → (block : Reading)
      × IsOneOf block blocks × (block.path ≡ Some root.path.items)
  pub all : (block : Reading) → IsOneOf block blocks → IsKeptBy roots.paths.keys block

-- ---- what is next to a path

-- both are apart, if there is the first
abbrev pub apart_if : Option (List ℕ) → List ℕ → Bool
apart_if None other = true
apart_if (Some one) other = are_apart (Some one) (Some other)

-- the last of them that comes no later than the root
pub record IsLast (roots : List Root) (root : Root) (found : Option Root) : Type 0 where
  pub is : IfSome found (λ last. IsOneOf last roots)
  pub last : (other : Root) → IsOneOf other roots → ComesNoLater other root → (last : Root)
      × (found ≡ Some last) × ComesNoLater other last × ComesNoLater last root

-- the first that comes no earlier
pub record IsFirst (roots : List Root) (root : Root) (found : Option Root) : Type 0 where
  pub is : IfSome found (λ first. IsOneOf first roots)
  pub first : (other : Root) → IsOneOf other roots → ComesNoLater root other → (first : Root)
      × (found ≡ Some first) × ComesNoLater root first × ComesNoLater first other

-- ---- where the last way began

-- the block with which this way to a block begins
abbrev pub outermost : List Reading → Reading → Reading
outermost [] here = here
outermost (folder ∷ above) here = outermost above folder

-- the path is that of the block with which the way begins, which this block and those above it are
abbrev pub IsBegunOn : Beginning → List Reading → Type 0
IsBegunOn beginning [] = beginning.path ≡ None
IsBegunOn beginning (block ∷ above) =
    option_map (λ path. path.items) beginning.path ≡ (outermost above block).path

-- what has this path is below that block, if there was one
abbrev pub is_begun_above : Option (Vec ℕ Global) → List ℕ → Bool
is_begun_above None path = false
is_begun_above (Some outermost) path = is_above outermost.items path

-- It stands behind these blocks. What it keeps of them counts only while all ways begin apart.
pub record IsBegun (beginning : Beginning) (earlier : List Reading) : Type 0 where
  pub apart : beginning.apart ≡ are_all_apart (beginnings_of earlier)
  pub roots : beginning.apart ≡ true → AreRoots beginning.roots (beginnings_of earlier)
  pub is : beginning.apart ≡ true → IsBegunOn beginning (way_behind earlier)
