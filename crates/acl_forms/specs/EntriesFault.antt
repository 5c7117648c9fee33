-- The fault for which a text of entries of the freebsd form is refused.
use Rattle.std.specs.Prelude.{ℕ, List}
use Rattle.acl_names.specs.ListText.{IsFaultOf}
use Rattle.acl_names.specs.Names.{Names}
use Rattle.acl_nfs4.specs.ReadFault.{list_fault}
use Rattle.acl_nfs4.specs.declared.acl.AceFault.{AceFault}
use Rattle.acl_nfs4.specs.declared.limits.TheConstants.{MAX_ACES}
use Rattle.acl_forms.specs.FormText.{entry_by}

-- the fault of the leftmost piece that isn't an entry or is one too many
abbrev pub IsEntriesFault : Names → List ℕ → AceFault → Type 0
IsEntriesFault names text fault = IsFaultOf (entry_by names) MAX_ACES text (list_fault fault)
