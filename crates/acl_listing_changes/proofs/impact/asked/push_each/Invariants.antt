use Rattle.acl_bridge.specs.Files.{view_acl}
use Rattle.acl_people.specs.Asked.{persons_in}
use Rattle.acl_listing_changes.proofs.ImpactLemmas.{IsEachTo}
use Rattle.acl_listing_changes.proofs.impact.asked.push_each.Given as goal

-- the lines of those so far lead on to those of the others
abbrev pub invariant-loop-place : goal.invariant-loop-place
invariant-loop-place l = IsEachTo (view_acl l.before) (view_acl l.after) l.path (persons_in l.people) l.place l.initial.out.items l.out.items
