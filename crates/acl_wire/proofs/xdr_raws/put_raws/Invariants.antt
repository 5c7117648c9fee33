use Rattle.std.proofs.Common.{◌≡◌, ◌-◌, ℕ, List, Ok}
use Rattle.acl_wire.specs.XdrRaws.{raws_at}
use Rattle.acl_wire.specs.declared.raw_ace.RawAce.{RawAce}
use Rattle.acl_wire.proofs.XdrRawsLoop.{IsPut}
use Rattle.acl_wire.proofs.xdr_raws.put_raws.Given as goal

abbrev pub invariant-loop-place : goal.invariant-loop-place
invariant-loop-place l = (raws : List RawAce) (end : List ℕ) → raws_at l.count l.bytes ≡ Ok (raws, end) → IsPut raws end (l.count - l.place) l.place l.rest l.fn.out l.out
