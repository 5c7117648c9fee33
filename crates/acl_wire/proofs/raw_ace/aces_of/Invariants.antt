use Rattle.std.proofs.Common.{◌≡◌, drop, length}
use Rattle.acl_wire.specs.RawAces.{aces_of}
use Rattle.acl_wire.proofs.AcesLoop.{with_front}
use Rattle.acl_wire.proofs.raw_ace.aces_of.Given as goal

abbrev pub invariant-loop-raw : goal.invariant-loop-raw
invariant-loop-raw l = record {
  so_far : with_front l.aces (aces_of l.purpose (drop l.raw-index l.raws)) ≡ aces_of l.purpose l.raws;
  count : length l.aces ≡ l.raw-index;
}
