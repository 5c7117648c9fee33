-- What is answered of POSIX lists in bytes.
use Rattle.std.specs.Prelude.{◌≤◌, ◌+◌, ◌*◌, ℕ, List, length, Option, Some, None}
use Rattle.std.specs.Prelude.{Result, Ok, Err, nat_le, if◌then◌else◌}
use Rattle.acl_bridge.specs.Translation.{default_translation, translation}
use Rattle.acl_names.specs.Steps.{◌>>=◌}
use Rattle.acl_nfs4.specs.Ace.{Nfsace4}
use Rattle.acl_posix.specs.Entry.{EntryValue}
use Rattle.acl_posix.specs.InOrder.{in_order}
use Rattle.acl_posix.specs.Mode.{Classes, at_creation, chmod, classes_of, of_mode}
use Rattle.acl_posix.specs.Validity.{fault_of}
use Rattle.acl_posix.specs.declared.acl.Invalid.{Invalid}
use Rattle.acl_posix.specs.declared.acl.Invalid.TheVariants as invalid
use Rattle.acl_posix.specs.declared.limits.TheConstants.{INLINE_ENTRIES}
use Rattle.acl_wire.specs.XattrReading.{entries_of}
use Rattle.acl_wire.specs.declared.fault.PosixFault.{PosixFault}
use Rattle.acl_wire.specs.declared.fault.PosixFault.TheVariants as faults

-- bytes of no more entries than are stored inline
abbrev pub IsShort : List ℕ → Type 0
IsShort bytes = length bytes ≤ 4 + 8 * INLINE_ENTRIES

-- what is wrong with entries, as the fault of the bytes
abbrev pub refused : Invalid → PosixFault
refused invalid.Missing = faults.Missing
refused invalid.Repeated = faults.Repeated
refused invalid.NoMask = faults.NoMask
refused invalid.Memory = faults.Missing

abbrev pub list_unless : Option Invalid → List EntryValue → Result (List EntryValue) PosixFault
list_unless None entries = Ok (in_order entries)
list_unless (Some fault) entries = Err (refused fault)

-- the list of these entries, in canonical order
abbrev pub acl_of_entries : List EntryValue → Result (List EntryValue) PosixFault
acl_of_entries entries = list_unless (fault_of entries) entries

-- the list of the bytes
unfoldable pub acl_of : List ℕ → Result (List EntryValue) PosixFault
acl_of bytes = entries_of bytes >>= acl_of_entries

-- the mode of a number
abbrev pub classes_in : ℕ → Result Classes PosixFault
classes_in mode = if nat_le mode 511 then Ok (classes_of mode) else Err faults.Argument

-- the list of the bytes with its mode changed
unfoldable pub chmod_of : List ℕ → ℕ → Result (List EntryValue) PosixFault
chmod_of bytes mode = do
  classes ← classes_in mode
  acl ← acl_of bytes
  Ok (chmod acl classes)

-- the list of a new file under the default list of the bytes
unfoldable pub at_creation_of : List ℕ → ℕ → Result (List EntryValue) PosixFault
at_creation_of bytes mode = do
  classes ← classes_in mode
  acl ← acl_of bytes
  Ok (at_creation acl classes)

-- the list of the bytes as an NFSv4 list
unfoldable pub translation_of : List ℕ → Result (List Nfsace4) PosixFault
translation_of bytes = acl_of bytes >>= λ acl. Ok (translation acl)

unfoldable pub default_translation_of : List ℕ → Result (List Nfsace4) PosixFault
default_translation_of bytes = acl_of bytes >>= λ acl. Ok (default_translation acl)

-- the list that says what a mode says
unfoldable pub of_mode_of : ℕ → Result (List EntryValue) PosixFault
of_mode_of mode = classes_in mode >>= λ classes. Ok (of_mode classes)
