use Rattle.std.proofs.Common.{◌≡◌, ◌*◌, ◌≤◌, length}
use Rattle.acl_wire.proofs.XdrPutLemmas.{front_bytes}
use Rattle.acl_wire.proofs.xdr_writing.entries_len.Given as goal

-- the bytes of those so far
abbrev pub invariant-loop-raw : goal.invariant-loop-raw
invariant-loop-raw l = (l.len ≡ length (front_bytes l.raws l.raw-index)) × (l.len ≤ 28 * l.raw-index)
