-- The fault for which a text of entries is refused.
use Rattle.std.specs.Prelude.{ℕ, List}
use Rattle.acl_names.specs.Directory.{Known}
use Rattle.acl_names.specs.Names.{Names, names_of}
use Rattle.acl_names.specs.ListText.{IsFaultOf}
use Rattle.acl_names.specs.declared.directory.resolve.NameFault.{NameFault}
use Rattle.acl_names.specs.declared.directory.resolve.NameFault.TheVariants as name
use Rattle.acl_names.specs.declared.text.list.ListFault.{ListFault}
use Rattle.acl_names.specs.declared.text.list.ListFault.TheVariants as list
use Rattle.acl_posix.specs.EntryText.{entry_by}
use Rattle.acl_posix.specs.declared.entries.TextFault.{TextFault}
use Rattle.acl_posix.specs.declared.entries.TextFault.TheVariants.{Syntax, UnknownName, TooMany}
use Rattle.acl_posix.specs.declared.entries.TextFault.TheVariants.{Memory}
use Rattle.acl_posix.specs.declared.limits.TheConstants.{MAX_ENTRIES}
use Rattle.acl_posix.specs.declared.reading.PieceFault.{PieceFault}
use Rattle.acl_posix.specs.declared.reading.PieceFault.TheVariants as piece

-- the fault of a name as the fault of the piece
abbrev pub fault_of_name : NameFault → PieceFault
fault_of_name name.Malformed = piece.Syntax
fault_of_name name.Unknown = piece.UnknownName

-- the fault of a list of pieces that a text's fault is
abbrev pub list_fault : TextFault → ListFault PieceFault
list_fault Syntax = list.Piece piece.Syntax
list_fault UnknownName = list.Piece piece.UnknownName
list_fault TooMany = list.TooMany
list_fault Memory = list.Memory

-- the fault of the leftmost piece that isn't an entry or is one too many
abbrev pub IsFaultBy : Names → List ℕ → TextFault → Type 0
IsFaultBy names text fault = IsFaultOf (entry_by names) MAX_ENTRIES text (list_fault fault)

-- by the names of a directory
abbrev pub IsTextFault : Known → List ℕ → TextFault → Type 0
IsTextFault known = IsFaultBy (names_of known)
