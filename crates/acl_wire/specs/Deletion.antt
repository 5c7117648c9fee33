-- Who may delete a file, by the numbers or the bytes of lists.
use Rattle.std.specs.Prelude.{◌&&◌, ◌+◌, ◌^◌, ℕ, Bool, true, false, List, Option, Some, None}
use Rattle.std.specs.Prelude.{Result, Ok, Err, nat_le, if◌then◌else◌}
use Rattle.acl_access.specs.Deletes.{delete, delete_child, deletes}
use Rattle.acl_access.specs.Evaluated.{evaluated_by}
use Rattle.acl_access.specs.declared.rules.Rules.{Rules}
use Rattle.acl_bridge.specs.Files.{File}
use Rattle.acl_bridge.specs.declared.any_acl.AnyAcl.{AnyAcl}
use Rattle.acl_bridge.specs.declared.any_acl.AnyAcl.TheVariants.{Posix, Nfs4}
use Rattle.acl_names.specs.Bits.{has}
use Rattle.acl_names.specs.Requester.{Identity}
use Rattle.acl_names.specs.Steps.{◌>>=◌}
use Rattle.acl_names.specs.declared.limits.TheConstants.{MAX_ID}
use Rattle.acl_nfs4.specs.Mask.{write_data}
use Rattle.acl_wire.specs.Decision.{decided_by}
use Rattle.acl_wire.specs.Nfs4.{are_ids}
use Rattle.acl_wire.specs.Posix.{acl_of}
use Rattle.acl_wire.specs.declared.decision.Decided.{Decided}
use Rattle.acl_wire.specs.declared.fault.Nfs4Fault.{Nfs4Fault}
use Rattle.acl_wire.specs.declared.fault.Nfs4Fault.TheVariants as nfs4
use Rattle.acl_wire.specs.declared.fault.PosixFault.{PosixFault}
use Rattle.acl_wire.specs.declared.fault.PosixFault.TheVariants as posix
use Rattle.acl_wire.specs.declared.raw_ace.RawAce.{RawAce}

-- a file of this owner and this group with a list
abbrev pub file_of : AnyAcl → ℕ → ℕ → File
file_of list owner group = record { owners = record { owner = owner; group = group }; list = list }

-- what a folder is asked, and a file in it
abbrev pub asked_of_folder : ℕ
asked_of_folder = 2 ^ delete_child + 2 ^ write_data

abbrev pub asked_of_file : ℕ
asked_of_file = 2 ^ delete

-- whether the requester may delete a file of these entries in a folder of these, which has the
-- sticky bit or not
unfoldable pub raws_deletion : Bool → List RawAce → ℕ → ℕ → List RawAce → ℕ → ℕ → Identity
    → Result Bool Nfs4Fault
raws_deletion sticky folder_raws folder_owner folder_group raws owner group requester =
    if are_ids folder_owner folder_group requester.uid && are_ids owner group requester.uid
    then decided_by folder_raws folder_owner folder_group requester asked_of_folder >>= (λ folder.
    decided_by raws owner group requester asked_of_file >>= (λ aces.
    Ok (deletes sticky (file_of (Nfs4 folder) folder_owner folder_group)
    (file_of (Nfs4 aces) owner group) requester)))
    else Err nfs4.Argument

-- the same of a file in a folder with the POSIX list of the bytes, by these rules
unfoldable pub xattr_deletion : Rules → Bool → List ℕ → ℕ → ℕ → File → Identity
    → Result Bool PosixFault
xattr_deletion rules sticky bytes folder_owner folder_group file requester =
    if are_ids folder_owner folder_group requester.uid && nat_le file.owners.owner MAX_ID
    then acl_of bytes >>= (λ acl.
    Ok (deletes sticky (file_of (Posix (evaluated_by rules acl)) folder_owner folder_group) file
    requester))
    else Err posix.Argument

-- what was decided of the bit of a request at this place, if an entry speaks of it
abbrev pub said_in : Decided → ℕ → Option Bool
said_in decided place =
    if has decided.allowed place then Some true
    else if has decided.denied place then Some false
    else None
