-- The POSIX lists of a block.
use Rattle.std.specs.Prelude.{ℕ, List, Option, Some, None, Result, Ok, Err, if◌then◌else◌}
use Rattle.std.specs.List.{list_any}
use Rattle.acl_names.specs.Bytes.{newline}
use Rattle.acl_names.specs.Names.{Names}
use Rattle.acl_names.specs.Pieces.{parts}
use Rattle.acl_names.specs.Steps.{◌>>=◌, map_fault}
use Rattle.acl_posix.specs.AclText.{entries_of}
use Rattle.acl_posix.specs.Entry.{EntryValue}
use Rattle.acl_posix.specs.EntryText.{entry_by}
use Rattle.acl_posix.specs.InOrder.{in_order}
use Rattle.acl_posix.specs.Validity.{fault_of}
use Rattle.acl_posix.specs.declared.acl.Invalid.{Invalid}
use Rattle.acl_listings.specs.ListLines.{is_default, pieces_of}
use Rattle.acl_listings.specs.Rules.{rule_of}
use Rattle.acl_listings.specs.declared.fault.BlockFault.{BlockFault}
use Rattle.acl_listings.specs.declared.fault.BlockFault.TheVariants.{Acl, InvalidAcl}
use Rattle.acl_listings.specs.declared.list_lines.ListKind.TheVariants.{Access, Default}
use Rattle.acl_listings.specs.declared.lists.Lists.{Lists}
use Rattle.acl_listings.specs.declared.lists.Lists.TheVariants.{Posix}

-- the list of these entries, if they are one
abbrev pub list_of : Option Invalid → List EntryValue → Result (List EntryValue) BlockFault
list_of None entries = Ok (in_order entries)
list_of (Some fault) entries = Err (InvalidAcl (rule_of entries fault))

-- the access control list that pieces mean
abbrev pub acl_by : Names → List (List ℕ) → Result (List EntryValue) BlockFault
acl_by names texts = do
  entries ← map_fault (λ fault. Acl fault) (entries_of (entry_by names) texts)
  list_of (fault_of entries) entries

abbrev pub if_there : Result (List EntryValue) BlockFault
    → Result (Option (List EntryValue)) BlockFault
if_there read = do
  acl ← read
  Ok (Some acl)

-- the default list of a block, if it has a line of one
abbrev pub default_by : Names → List ℕ → Result (Option (List EntryValue)) BlockFault
default_by names list = if list_any is_default (parts newline list)
    then if_there (acl_by names (pieces_of Default list)) else Ok None

-- the access list, and then the default list
abbrev pub posix_by : Names → List ℕ → Result Lists BlockFault
posix_by names list = do
  access ← acl_by names (pieces_of Access list)
  default ← default_by names list
  Ok (Posix access default)
