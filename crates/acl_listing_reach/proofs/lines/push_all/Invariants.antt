use Rattle.std.proofs.Common.{◌≡◌, ◌++◌}
use Rattle.acl_people.specs.Asked.{persons_in}
use Rattle.acl_listing_reach.specs.ReachText.{all_lines}
use Rattle.acl_listing_reach.proofs.LineLemmas.{rest_lines}
use Rattle.acl_listing_reach.proofs.lines.push_all.Given as goal

-- the lines of those so far, and of the others
abbrev pub invariant-loop-place : goal.invariant-loop-place
invariant-loop-place l = l.initial.out.items ++ all_lines (persons_in l.people) l.old l.new l.path ≡ l.out.items ++ rest_lines l.old l.new l.path (persons_in l.people) l.place
