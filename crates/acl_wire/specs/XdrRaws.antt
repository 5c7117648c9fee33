-- Lists in XDR read as entries of numbers, which keep all bits that have a meaning.
use Rattle.std.specs.Prelude.{◌≡◌, ◌==◌, ℕ, zero, suc, List, [], ◌∷◌, length, Option, Some, None}
use Rattle.std.specs.Prelude.{Result, Ok, Err, if◌then◌else◌}
use Rattle.acl_names.specs.Steps.{◌>>=◌}
use Rattle.acl_wire.specs.Decision.{value_of}
use Rattle.acl_wire.specs.Writing.{PutsInFront}
use Rattle.acl_wire.specs.Written.{tidied_raw}
use Rattle.acl_wire.specs.Xdr.{number_at, raw_at}
use Rattle.acl_wire.specs.declared.fault.Nfs4Fault.{Nfs4Fault}
use Rattle.acl_wire.specs.declared.fault.Nfs4Fault.TheVariants as faults
use Rattle.acl_wire.specs.declared.raw_ace.RawAce.{RawAce}

-- so many entries, and the bytes behind them: each is one that can be decided by
unfoldable pub raws_at : ℕ → List ℕ → Result (List RawAce × List ℕ) Nfs4Fault
raws_at zero bytes = Ok ([], bytes)
raws_at (suc n) bytes = do
  raw ← raw_at bytes
  ace ← value_of raw.0
  others ← raws_at n raw.1
  Ok (tidied_raw raw.0 ∷ others.0, others.1)

-- so many entries, and no bytes behind them
abbrev pub whole : Result (List RawAce × List ℕ) Nfs4Fault → Result (List RawAce) Nfs4Fault
whole (Ok all) = if length all.1 == 0 then Ok all.0 else Err faults.Size
whole (Err fault) = Err fault

-- the entries of the bytes
unfoldable pub xdr_raws_of : List ℕ → Result (List RawAce) Nfs4Fault
xdr_raws_of bytes = do
  count ← number_at bytes
  whole (raws_at count.0 count.1)

abbrev pub fault_in : {Y F : Type 0} → Result Y F → Option F
fault_in (Ok value) = None
fault_in (Err fault) = Some fault

-- a call puts the items of an answer, and answers how many there are, or why there is none
abbrev pub PutsItems : {A : Type 0} → Result (List A) Nfs4Fault → Result ℕ Nfs4Fault → List A
    → List A → Type 0
PutsItems {A} answer (Ok count) old new = (items : List A) × (answer ≡ Ok items)
    × PutsInFront items count old new
PutsItems answer (Err fault) old new = (answer ≡ Err fault) × (new ≡ old)
