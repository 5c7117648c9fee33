use Rattle.std.proofs.Common.{◌≡◌, ◌≤◌, ◌-◌, length, take}
use Rattle.acl_listings.specs.Extent.{newlines_in}
use Rattle.acl_listings.proofs.NewlineLemmas.{NoPair}
use Rattle.acl_listings.proofs.extent.extent_at_once.Given as goal

-- no empty line so far
abbrev pub invariant-loop-at : goal.invariant-loop-at
invariant-loop-at l = record {
  within : l.at ≤ length l.text;
  few : l.newlines ≤ l.at;
  none : NoPair l.text l.at;
  counted : newlines_in (take l.at l.text) ≡ l.newlines;
}

abbrev pub decreases-loop-at : goal.decreases-loop-at
decreases-loop-at l = length l.text - l.at
