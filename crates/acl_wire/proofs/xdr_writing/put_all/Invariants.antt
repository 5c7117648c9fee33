use Rattle.std.proofs.Common.{◌≡◌, ◌++◌, length, drop}
use Rattle.std.specs.Int.{w32, to_be_bytes}
use Rattle.acl_wire.proofs.XdrPutLemmas.{front_bytes}
use Rattle.acl_wire.proofs.xdr_writing.put_all.Given as goal

-- those so far stand behind the count
abbrev pub invariant-loop-raw : goal.invariant-loop-raw
invariant-loop-raw l =
    (l.out ≡ (to_be_bytes w32 (length l.raws) ++ front_bytes l.raws l.raw-index) ++ drop l.at l.fn.out)
    × (length (to_be_bytes w32 (length l.raws) ++ front_bytes l.raws l.raw-index) ≡ l.at)
