use Rattle.std.proofs.Common.{◌≡◌, length}
use Rattle.acl_people.specs.Asked.{persons_in}
use Rattle.acl_listing_reach.specs.ReachText.{first_line}
use Rattle.acl_listing_reach.proofs.LineLemmas.{rest_first}
use Rattle.acl_listing_reach.proofs.lines.push_first.Given as goal

-- none of those so far has a line
abbrev pub invariant-loop-place : goal.invariant-loop-place
invariant-loop-place l = record {
  same : l.out.items ≡ l.fn.out.items;
  kept : l.kept ≡ length l.fn.out.items;
  rest : first_line (persons_in l.people) l.old l.new l.path ≡ rest_first l.old l.new l.path (persons_in l.people) l.place;
}
