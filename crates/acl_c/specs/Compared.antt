-- What comparisons report.
use Rattle.std.specs.Prelude.{◌≡◌, ◌⊎◌, ℕ, ℤ, pos, true, false, List, None, Some, Ok, Err}
use Rattle.acl_nfs4.specs.Ace.{Nfsace4}
use Rattle.acl_posix.specs.Entry.{EntryValue}
use Rattle.acl_wire.specs.Compare.{AreUnlike, Differ, Pair, aces_compared, lists_compared}
use Rattle.acl_wire.specs.declared.compare.RawAsker.{RawAsker}
use Rattle.acl_wire.specs.declared.compare.RawDifference.{RawDifference}
use Rattle.acl_wire.specs.declared.fault.Nfs4Fault.{Nfs4Fault}
use Rattle.acl_wire.specs.declared.fault.PosixFault.{PosixFault}
use Rattle.acl_wire.specs.declared.raw_ace.RawAce.{RawAce}
use Rattle.acl_c.specs.Status.{nfs4_number, out_of_memory, posix_number}

-- 0 if the lists grant the request to the same requesters, 1 if the first list alone grants it to
-- the one who is reported, 2 if the second alone does; else why there is no answer
abbrev pub ReportsUnlike : List ℕ → ℕ → ℕ → List ℕ → ℕ → ℕ → ℕ → ℤ → RawAsker → RawAsker → Type 0
ReportsUnlike first owner group second other_owner other_group request reported old new =
    ((pair : Pair EntryValue)
    × (lists_compared first owner group second other_owner other_group request ≡ Ok pair)
    × (((reported ≡ pos 0) × (new ≡ old)
    × AreUnlike pair.first pair.owners pair.second pair.others request None)
    ⊎ (((reported ≡ pos 1) × AreUnlike pair.first pair.owners pair.second pair.others request
    (Some (record { asker = new; before = true })))
    ⊎ ((reported ≡ pos 2) × AreUnlike pair.first pair.owners pair.second pair.others request
    (Some (record { asker = new; before = false }))))))
    ⊎ (((fault : PosixFault)
    × (lists_compared first owner group second other_owner other_group request ≡ Err fault)
    × (reported ≡ posix_number fault) × (new ≡ old))
    ⊎ ((reported ≡ out_of_memory) × (new ≡ old)))

-- 0 if the lists decide the bits alike for everybody, and 1 with somebody for whom they don't; else
-- why there is no answer
abbrev pub ReportsDifference : List RawAce → ℕ → ℕ → List RawAce → ℕ → ℕ → ℕ → ℤ → RawDifference
    → RawDifference → Type 0
ReportsDifference first owner group second other_owner other_group bits reported old new =
    ((pair : Pair Nfsace4)
    × (aces_compared first owner group second other_owner other_group bits ≡ Ok pair)
    × (((reported ≡ pos 0) × (new ≡ old)
    × Differ pair.first pair.owners pair.second pair.others bits None)
    ⊎ ((reported ≡ pos 1) × Differ pair.first pair.owners pair.second pair.others bits (Some new))))
    ⊎ ((fault : Nfs4Fault)
    × (aces_compared first owner group second other_owner other_group bits ≡ Err fault)
    × (reported ≡ nfs4_number fault) × (new ≡ old))
