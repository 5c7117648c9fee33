use Rattle.std.proofs.Common.{◌≡◌, ◌-◌, ◌≤◌, length, take}
use Rattle.acl_listings.proofs.shared.alike_words.Given as goal

-- the texts share as many bytes as are counted
abbrev pub invariant-loop-alike : goal.invariant-loop-alike
invariant-loop-alike l = record {
  alike : take l.alike l.one ≡ take l.alike l.other;
  first : l.alike ≤ length l.one;
  second : l.alike ≤ length l.other;
}

abbrev pub decreases-loop-alike : goal.decreases-loop-alike
decreases-loop-alike l = length l.one - l.alike
