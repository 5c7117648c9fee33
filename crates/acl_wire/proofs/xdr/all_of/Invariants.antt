use Rattle.std.proofs.Common.{◌≡◌, ◌-◌, length}
use Rattle.acl_wire.specs.Xdr.{aces_at}
use Rattle.acl_wire.proofs.XdrLoop.{with_front}
use Rattle.acl_wire.proofs.xdr.all_of.Given as goal

abbrev pub invariant-loop : goal.invariant-loop
invariant-loop l = record {
  so_far : with_front l.aces (aces_at (l.count - l.counter) l.rest) ≡ aces_at l.count l.bytes;
  count : length l.aces ≡ l.counter;
}
