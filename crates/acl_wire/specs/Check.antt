-- Checks of POSIX lists in bytes.
use Rattle.std.specs.Prelude.{◌&&◌, ℕ, Bool, List, Result, Ok, Err, nat_le, nat_lt}
use Rattle.std.specs.Prelude.{if◌then◌else◌}
use Rattle.acl_access.specs.Evaluated.{evaluated_by}
use Rattle.acl_access.specs.declared.rules.Rules.{Rules}
use Rattle.acl_names.specs.Requester.{Identity}
use Rattle.acl_names.specs.Steps.{◌>>=◌}
use Rattle.acl_names.specs.declared.limits.TheConstants.{MAX_ID}
use Rattle.acl_posix.specs.Access.{grants}
use Rattle.acl_posix.specs.Entry.{EntryValue}
use Rattle.acl_wire.specs.Posix.{acl_of, acl_of_entries}
use Rattle.acl_wire.specs.declared.fault.PosixFault.{PosixFault}
use Rattle.acl_wire.specs.declared.fault.PosixFault.TheVariants as faults

-- whether the list of these entries grants a request
abbrev pub answer_of : Rules → List EntryValue → ℕ → ℕ → Identity → ℕ → Result Bool PosixFault
answer_of rules entries owner group requester request = acl_of_entries entries
    >>= λ acl. Ok (grants (evaluated_by rules acl) owner group requester request)

-- the same of the list of bytes
abbrev pub answer_in : Rules → List ℕ → ℕ → ℕ → Identity → ℕ → Result Bool PosixFault
answer_in rules bytes owner group requester request = acl_of bytes
    >>= λ acl. Ok (grants (evaluated_by rules acl) owner group requester request)

-- whether the numbers of a check are ids, and permissions
abbrev pub are_check : ℕ → ℕ → ℕ → ℕ → Bool
are_check owner group uid request = nat_le owner MAX_ID && nat_le group MAX_ID
    && nat_le uid MAX_ID && nat_lt request 8

-- whether the list of the bytes grants a request
unfoldable pub check_of : Rules → List ℕ → ℕ → ℕ → Identity → ℕ → Result Bool PosixFault
check_of rules bytes owner group requester request =
    if are_check owner group requester.uid request
    then answer_in rules bytes owner group requester request
    else Err faults.Argument
