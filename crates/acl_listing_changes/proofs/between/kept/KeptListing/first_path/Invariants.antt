use Rattle.std.proofs.Common.{◌≡◌, None, take}
use Rattle.acl_reports.specs.Paths.{first_path}
use Rattle.acl_listing_changes.proofs.between.kept.KeptListing.first_path.Given as goal

-- the first blocks have no path
abbrev pub invariant-loop-place : goal.invariant-loop-place
invariant-loop-place l = first_path (take l.place l.self) ≡ None
