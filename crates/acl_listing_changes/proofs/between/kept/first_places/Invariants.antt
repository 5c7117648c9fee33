use Rattle.std.proofs.Common.{◌≡◌, ◌≤◌, ℕ, List, bytes_eq, length, map}
use Rattle.std.specs.HashMap.{get_by}
use Rattle.acl_reports.specs.Paths.{has_path}
use Rattle.acl_listing_changes.specs.Kept.{block_of}
use Rattle.acl_listing_changes.proofs.PlacesLemmas.{first_from}
use Rattle.acl_listing_changes.proofs.between.kept.first_places.Given as goal

-- the map has the first place of each path among the blocks from the place on
abbrev pub invariant-loop-place : goal.invariant-loop-place
invariant-loop-place l = record {
  within : l.place ≤ length l.blocks;
  first : (path : List ℕ) → get_by (λ key. bytes_eq path key.now) l.places ≡ first_from (has_path path) (map block_of l.blocks) l.place;
}

abbrev pub decreases-loop-place : goal.decreases-loop-place
decreases-loop-place l = l.place
