-- The words of faults.
use Rattle.std.specs.Prelude.{◌++◌, ℕ, List, None, Some, codes}
use Rattle.acl_posix.specs.AclText as posix
use Rattle.acl_cli.specs.declared.field_fault.FieldFault.{FieldFault}
use Rattle.acl_cli.specs.declared.field_fault.FieldFault.TheVariants.{BadId, TooMany}
use Rattle.acl_cli.specs.declared.field_fault.FieldFault.TheVariants.{BadPerms, Acl}
use Rattle.acl_cli.specs.declared.field_fault.FieldFault.TheVariants.{BadStyle}
use Rattle.acl_cli.specs.declared.field_fault.FieldFault.TheVariants.{InheritOnly}
use Rattle.acl_cli.specs.declared.field_fault.FieldFault.TheVariants.{UnknownUser, RootUser}
use Rattle.acl_cli.specs.declared.malformed.Place.{Place}
use Rattle.acl_cli.specs.declared.malformed.Place.TheVariants as place
use Rattle.acl_cli.specs.declared.misuse.Misuse.{Misuse}
use Rattle.acl_cli.specs.declared.misuse.Misuse.TheVariants.{BadWords, DeleteAndOthers}
use Rattle.acl_cli.specs.declared.misuse.Misuse.TheVariants.{InputTwice, LettersAndPerms}
use Rattle.acl_cli.specs.declared.misuse.Misuse.TheVariants.{NoCommand, TooManySessions}
use Rattle.acl_cli.specs.declared.misuse.Misuse.TheVariants.{TooManyWords}
use Rattle.acl_cli.specs.Refusals.{refused_words}

abbrev pub field_fault_words : FieldFault → List ℕ
field_fault_words BadId = codes "bad-id"
field_fault_words TooMany = codes "too-many"
field_fault_words BadPerms = codes "bad-perms"
field_fault_words (Acl fault) = posix.fault_word fault
field_fault_words BadStyle = codes "bad-style"
field_fault_words InheritOnly = codes "inherit-only"
field_fault_words UnknownUser = codes "unknown-name"
field_fault_words RootUser = codes "root"

abbrev pub misuse_words : Misuse → List ℕ
misuse_words InputTwice = codes "- is given twice"
misuse_words TooManySessions = codes "at most 64 sessions"
misuse_words DeleteAndOthers = codes "--delete excludes --letters, --perms and --via"
misuse_words LettersAndPerms = codes "--letters and --perms exclude each other"
misuse_words NoCommand = codes "no command"
misuse_words BadWords = codes "bad words"
misuse_words TooManyWords = codes "too many words"

-- an option's place has its hyphens
abbrev pub place_words : Place → List ℕ
place_words (place.Option name) = codes "--" ++ name.now
place_words (place.Word name) = name.now

-- a malformed field: its place among the words, its text, and its fault
pub record Malformed : Type 0 where
  pub place : List ℕ
  pub word : List ℕ
  pub fault : FieldFault

-- `PLACE: FAULT: WORD`
abbrev pub malformed_words : Malformed → List ℕ
malformed_words malformed =
    refused_words malformed.place None (field_fault_words malformed.fault) (Some malformed.word)
