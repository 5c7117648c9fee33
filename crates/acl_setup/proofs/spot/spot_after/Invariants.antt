use Rattle.std.proofs.Common.{◌≡◌, ◌+◌, ◌≤◌, drop, fold}
use Rattle.acl_setup.specs.Spots.{next_spot, spot_after}
use Rattle.acl_setup.proofs.spot.spot_after.Given as goal

-- the place so far, and what is left, come to the place of the end
abbrev pub invariant-loop-byte : goal.invariant-loop-byte
invariant-loop-byte l = record {
  left : fold next_spot l.spot (drop l.byte-index l.bytes) ≡ spot_after l.bytes;
  line : l.spot.line ≤ l.byte-index + 1;
  column : l.spot.column ≤ l.byte-index + 1;
}
