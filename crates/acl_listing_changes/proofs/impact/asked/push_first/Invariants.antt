use Rattle.acl_bridge.specs.Files.{view_acl}
use Rattle.acl_people.specs.Asked.{persons_in}
use Rattle.acl_listing_changes.proofs.ImpactLemmas.{IsFirstTo}
use Rattle.acl_listing_changes.proofs.impact.asked.push_first.Given as goal

-- none of those so far is concerned
abbrev pub invariant-loop-place : goal.invariant-loop-place
invariant-loop-place l = IsFirstTo (view_acl l.before) (view_acl l.after) l.path (persons_in l.people) l.place l.initial.out.items l.out.items
