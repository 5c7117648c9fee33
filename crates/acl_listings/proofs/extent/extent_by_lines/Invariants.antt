use Rattle.std.proofs.Common.{◌-◌, length}
use Rattle.acl_listings.proofs.ExtentLemmas.{AreLines}
use Rattle.acl_listings.proofs.extent.extent_by_lines.Given as goal

-- the lines so far
abbrev pub invariant-loop-len : goal.invariant-loop-len
invariant-loop-len l = record { lines : AreLines l.text l.len l.newlines }

abbrev pub decreases-loop-len : goal.decreases-loop-len
decreases-loop-len l = length l.text - l.len
