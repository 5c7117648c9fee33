-- The fault for which a text of entries is refused.
use Rattle.std.specs.Prelude.{ℕ, List}
use Rattle.acl_names.specs.Directory.{Known}
use Rattle.acl_names.specs.ListText.{IsFaultOf}
use Rattle.acl_names.specs.Names.{Names}
use Rattle.acl_names.specs.declared.text.list.ListFault.{ListFault}
use Rattle.acl_names.specs.declared.text.list.ListFault.TheVariants as list
use Rattle.acl_nfs4.specs.AceText.{names_in_domain}
use Rattle.acl_nfs4.specs.NamedAces.{ace_by}
use Rattle.acl_nfs4.specs.declared.acl.AceFault.{AceFault}
use Rattle.acl_nfs4.specs.declared.acl.AceFault.TheVariants.{Syntax, UnknownName, TooMany}
use Rattle.acl_nfs4.specs.declared.acl.AceFault.TheVariants.{InheritOnly, Memory}
use Rattle.acl_nfs4.specs.declared.limits.TheConstants.{MAX_ACES}
use Rattle.acl_nfs4.specs.declared.reading.PieceFault.{PieceFault}
use Rattle.acl_nfs4.specs.declared.reading.PieceFault.TheVariants as piece

-- the fault of a list of pieces that a text's fault is
abbrev pub list_fault : AceFault → ListFault PieceFault
list_fault Syntax = list.Piece piece.Syntax
list_fault UnknownName = list.Piece piece.UnknownName
list_fault TooMany = list.TooMany
list_fault InheritOnly = list.Piece piece.InheritOnly
list_fault Memory = list.Memory

-- the fault of the leftmost piece that isn't an entry or is one too many
abbrev pub IsFaultBy : Names → List ℕ → AceFault → Type 0
IsFaultBy names text fault = IsFaultOf (ace_by names) MAX_ACES text (list_fault fault)

-- by the names of a directory
abbrev pub IsTextFault : Known → List ℕ → AceFault → Type 0
IsTextFault known = IsFaultBy (names_in_domain known)
