-- What a call reports that reads a list entry by entry.
use Rattle.std.specs.Prelude.{◌≡◌, ◌⊎◌, ℤ, pos, Option, Some, None, Result, Ok, Err}
use Rattle.acl_wire.specs.declared.fault.Nfs4Fault.{Nfs4Fault}
use Rattle.acl_wire.specs.declared.raw_ace.RawAce.{RawAce}
use Rattle.acl_wire.specs.declared.xdr_names.XdrPlace.{XdrPlace}
use Rattle.acl_c.specs.Status.{nfs4_number}

-- 1 with the entry and the place behind it, or 0 with the place where none is left; or why there is
-- no answer, and then both are as they were
abbrev pub ReportsEntry : Result (Option RawAce × XdrPlace) Nfs4Fault → ℤ → XdrPlace → XdrPlace
    → RawAce → RawAce → Type 0
ReportsEntry answer reported old new old_ace new_ace =
    ((answer ≡ Ok (Some new_ace, new)) × (reported ≡ pos 1))
    ⊎ (((answer ≡ Ok (None, new)) × (reported ≡ pos 0) × (new_ace ≡ old_ace))
    ⊎ ((fault : Nfs4Fault) × (answer ≡ Err fault) × (reported ≡ nfs4_number fault) × (new ≡ old)
    × (new_ace ≡ old_ace)))
