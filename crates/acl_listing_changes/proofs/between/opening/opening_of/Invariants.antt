use Rattle.std.proofs.Common.{◌≡◌, length}
use Rattle.acl_listing_changes.specs.ChangeSteps.{AreKnown, IsOpenedTo}
use Rattle.acl_listing_changes.proofs.between.opening.opening_of.Given as goal

-- so much was said of the first blocks, and counted
abbrev pub invariant-loop-place : goal.invariant-loop-place
invariant-loop-place g l = record {
  opened : IsOpenedTo (g.C.ChangeReporter.wording l.reporter) l.name l.kept l.place l.said.items l.counts.tally l.counts.strangers;
  count : length l.known.items ≡ l.place;
  known : AreKnown (g.C.ChangeReporter.wording l.reporter) l.kept l.known.items;
}
