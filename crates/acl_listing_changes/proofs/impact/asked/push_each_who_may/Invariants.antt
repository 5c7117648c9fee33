use Rattle.std.proofs.Common.{◌≡◌, ◌++◌, take}
use Rattle.std.specs.List.{flat_map}
use Rattle.acl_bridge.specs.Files.{view_acl}
use Rattle.acl_people.specs.Asked.{persons_in}
use Rattle.acl_listing_changes.specs.Impacting.{may_line}
use Rattle.acl_listing_changes.proofs.impact.asked.push_each_who_may.Given as goal

-- the lines of those so far
abbrev pub invariant-loop-place : goal.invariant-loop-place
invariant-loop-place l = l.out.items ≡ l.initial.out.items ++ flat_map (may_line l.gone l.path (view_acl l.file)) (take l.place (persons_in l.people))
