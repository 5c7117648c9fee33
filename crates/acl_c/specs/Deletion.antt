-- What a call reports that is asked who may delete a file.
use Rattle.std.specs.Prelude.{◌≡◌, ◌↔◌, ℕ, ℤ, Bool, true, IsTrue, List, Result, Ok}
use Rattle.acl_access.specs.declared.rules.Rules.{Rules}
use Rattle.acl_bridge.specs.declared.any_acl.AnyAcl.TheVariants.{Posix}
use Rattle.acl_c.specs.Answers.{number_of_answer, zero_number}
use Rattle.acl_c.specs.declared.nfs4.File.{File}
use Rattle.acl_names.specs.Requester.{Identity}
use Rattle.acl_posix.specs.Entry.{EntryValue}
use Rattle.acl_wire.specs.Deletion.{file_of, xattr_deletion}
use Rattle.acl_wire.specs.declared.fault.PosixFault.{PosixFault}

-- whether it is granted; and 0, or the number of why there is no answer
abbrev pub ReportsDeletion : {F : Type 0} → (F → ℤ) → Result Bool F → Bool → ℤ → Type 0
ReportsDeletion fault_number answer granted reported = (IsTrue granted ↔ (answer ≡ Ok true))
    × (reported ≡ number_of_answer fault_number zero_number answer)

-- the answer for a file with this list in a folder with the POSIX list of the bytes, by these rules
abbrev pub posix_deletion : Rules → Bool → List ℕ → File → List EntryValue → File → Identity
    → Result Bool PosixFault
posix_deletion rules sticky folder_xattr folder acl file who =
    xattr_deletion rules sticky folder_xattr folder.owner folder.group
    (file_of (Posix acl) file.owner file.group) who
