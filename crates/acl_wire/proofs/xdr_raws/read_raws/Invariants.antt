use Rattle.std.proofs.Common.{◌≡◌, ◌-◌, length}
use Rattle.acl_wire.specs.XdrRaws.{raws_at}
use Rattle.acl_wire.proofs.XdrLoop.{with_front}
use Rattle.acl_wire.proofs.xdr_raws.read_raws.Given as goal

abbrev pub invariant-loop : goal.invariant-loop
invariant-loop g l = record {
  so_far : with_front l.draft.items (raws_at (l.count - l.counter) l.rest) ≡ raws_at l.count l.bytes;
  many : length l.draft.items ≡ l.counter;
}
