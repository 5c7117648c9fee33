use Rattle.std.proofs.Common.{◌≡◌, ◌-◌, length}
use Rattle.acl_wire.specs.XattrReading.{entries_at}
use Rattle.acl_wire.proofs.EntriesLoop.{with_front}
use Rattle.acl_wire.proofs.xattr_reading.entries_at.Given as goal

abbrev pub invariant-loop : goal.invariant-loop
invariant-loop l = record {
  so_far : with_front l.entries.items (entries_at (l.count - l.counter) l.rest) ≡ entries_at l.count l.bytes;
  count : length l.entries.items ≡ l.counter;
}
