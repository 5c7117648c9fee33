-- What a call reports for what is made in a folder.
use Rattle.std.specs.Prelude.{◌≡◌, ◌⊎◌, ℕ, ℤ, pos, List, Option, Some, None, Result, Ok, Err}
use Rattle.acl_wire.specs.Creation.{mode_made}
use Rattle.acl_wire.specs.declared.creation.Making.{Making}
use Rattle.acl_wire.specs.declared.fault.Nfs4Fault.{Nfs4Fault}
use Rattle.acl_wire.specs.declared.raw_ace.RawAce.{RawAce}
use Rattle.acl_c.specs.Answers.{Puts, PutsNothing}
use Rattle.acl_c.specs.Status.{nfs4_number, out_of_memory}

-- it puts the list, and reports the mode; or it reports 1 with no entries, and the mode, if nothing
-- is inherited; or why there is no answer, and then the mode is as it was
abbrev pub PutsMade : Result (Option (List RawAce)) Nfs4Fault → Making → ℤ → List RawAce
    → List RawAce → ℕ → ℕ → ℕ → ℕ → Type 0
PutsMade answer making reported old new old_count new_count old_mode new_mode =
    ((list : List RawAce) × (answer ≡ Ok (Some list)) × Puts list reported old new new_count
    × (new_mode ≡ mode_made making (Some list)))
    ⊎ (((answer ≡ Ok None) × (reported ≡ pos 1) × (new ≡ old) × (new_count ≡ 0)
    × (new_mode ≡ mode_made making None))
    ⊎ (((fault : Nfs4Fault) × (answer ≡ Err fault) × (reported ≡ nfs4_number fault)
    × PutsNothing old new old_count new_count × (new_mode ≡ old_mode))
    ⊎ ((reported ≡ out_of_memory) × PutsNothing old new old_count new_count
    × (new_mode ≡ old_mode))))
