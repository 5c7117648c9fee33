use Rattle.std.proofs.Common.{◌≡◌, drop}
use Rattle.std.specs.List.{list_any}
use Rattle.acl_listing_reach.specs.Once.{has_path}
use Rattle.acl_listing_reach.proofs.report.is_any_shared.Given as goal

-- none of the first is shared
abbrev pub invariant-loop-place : goal.invariant-loop-place
invariant-loop-place l = list_any (λ at. has_path at.path l.before) l.after ≡ list_any (λ at. has_path at.path l.before) (drop l.place l.after)
