use Rattle.std.proofs.Common.{◌≡◌, ◌-◌, ◌≤◌, ◌||◌, drop, length}
use Rattle.std.specs.List.{list_any}
use Rattle.acl_access.specs.Paths.{is_control}
use Rattle.acl_access.proofs.path.has_controls.Given as goal

-- one of all is one if one of those before the rest is, or one of the rest
abbrev pub invariant-loop-chunk : goal.invariant-loop-chunk
invariant-loop-chunk l = record {
  any : list_any is_control l.path ≡ (l.found || list_any is_control l.rest);
  rest : l.rest ≡ drop (length l.path - length l.rest) l.path;
  short : length l.rest ≤ length l.path;
}

abbrev pub decreases-loop-chunk : goal.decreases-loop-chunk
decreases-loop-chunk l = length l.rest
