-- Which access control list a field of `decide` spells.
use Rattle.std.specs.Prelude.{List, [], Result, codes}
use Rattle.clap.specs.Words.{Text}
use Rattle.acl_names.specs.Directory.{Known}
use Rattle.acl_names.specs.Pieces.{pieces}
use Rattle.acl_names.specs.Steps.{map_fault}
use Rattle.acl_posix.specs.AclText as posix
use Rattle.acl_posix.specs.Entry.{EntryValue}
use Rattle.acl_cli.specs.declared.field_fault.FieldFault.{FieldFault}
use Rattle.acl_cli.specs.declared.field_fault.FieldFault.TheVariants.{Acl}

-- a directory without users and groups
abbrev pub nobody : Known
nobody = record { domain = codes "local"; users = []; groups = [] }

-- the access control list of a text, or its fault
abbrev pub acl_of : Text → Result (List EntryValue) FieldFault
acl_of text = map_fault (λ fault. Acl fault) (posix.acl_of nobody (pieces text))
