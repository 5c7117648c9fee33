-- What a call does that puts bytes or entries into its caller's buffer.
use Rattle.std.specs.Prelude.{◌≡◌, ◌≤◌, ◌<◌, ◌++◌, ℕ, List, Result, Ok, Err, length, drop}
use Rattle.acl_wire.specs.RawAces.{FailsAs}
use Rattle.acl_wire.specs.declared.fault.Nfs4Error.{Nfs4Error}
use Rattle.acl_wire.specs.declared.fault.Nfs4Fault.{Nfs4Fault}

-- It answers how many there are, and puts them in front of the buffer if there is room for all.
pub record PutsInFront {A : Type 0} (items : List A) (count : ℕ) (old new : List A) : Type 0 where
  pub count_is : count ≡ length items
  pub room : length items ≤ length old → new ≡ items ++ drop (length items) old
  pub no_room : length old < length items → new ≡ old

-- It puts the items of an answer, and answers how many there are, or why there are none, or that
-- memory ran out.
abbrev pub PutsUnless : {A : Type 0} → Result (List A) Nfs4Fault → Result ℕ Nfs4Error → List A
    → List A → Type 0
PutsUnless {A} answer (Ok count) old new = (items : List A) × (answer ≡ Ok items)
    × PutsInFront items count old new
PutsUnless answer (Err error) old new = FailsAs error answer × (new ≡ old)
