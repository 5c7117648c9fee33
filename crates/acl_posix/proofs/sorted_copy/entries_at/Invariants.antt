use Rattle.std.proofs.Common.{◌≡◌, length, map, take}
use Rattle.std.specs.Vec.{vec_len, vec_capacity}
use Rattle.acl_posix.specs.Keys.{entry_at}
use Rattle.acl_posix.proofs.sorted_copy.entries_at.Given as goal

-- the entries that the keys so far name, with room for the rest
abbrev pub invariant-loop-key : goal.invariant-loop-key
invariant-loop-key l = record {
  named : l.copy.items ≡ map (entry_at l.entries) (take l.key-index l.keys);
  taken : vec_len l.copy ≡ l.key-index;
  room : vec_capacity l.copy ≡ length l.keys;
}
