-- What the fields of `next` mean, each by itself.
use Rattle.std.specs.Prelude.{◌≡◌, ⊤, ℕ, List, [], ◌∷◌, Option, Some, None, Result, Ok, Err}
use Rattle.std.specs.Prelude.{codes, if◌then◌else◌}
use Rattle.clap.specs.Words.{Row, Text, first_of}
use Rattle.acl_names.specs.Steps.{◌>>=◌, or_fault}
use Rattle.acl_posix.specs.Mode.{Classes}
use Rattle.acl_posix.specs.ModeText.{mode_of_octal}
use Rattle.acl_nfs4.specs.declared.inheritance.Kind.{Kind}
use Rattle.acl_nfs4.specs.declared.inheritance.Kind.TheVariants.{File, Dir}
use Rattle.acl_cli.specs.Faults.{Malformed}
use Rattle.acl_cli.specs.Fields.{flag_in, given, of_option}
use Rattle.acl_cli.specs.Refusals.{Refusal, for_text}
use Rattle.acl_cli.specs.declared.failure.Failure.{Failure}
use Rattle.acl_cli.specs.declared.failure.Failure.TheVariants.{Lacks, Refused}
use Rattle.acl_cli.specs.declared.field_fault.FieldFault.{FieldFault}
use Rattle.acl_cli.specs.declared.field_fault.FieldFault.TheVariants.{UnknownUser}
use Rattle.acl_cli.specs.declared.run_fault.RunFault.TheVariants.{Memory}
use Rattle.acl_people.specs.Host.{Host}
use Rattle.acl_people.specs.People.{person_asked}
use Rattle.acl_people.specs.Person.{Person}
use Rattle.acl_listing_creation.specs.declared.maker.Maker.{Maker}
use Rattle.acl_listing_creation.specs.declared.modes.Modes.{Modes}

-- ---- what is created

abbrev pub kind_in : List Row → Kind
kind_in rows = if flag_in (codes "dir") rows then Dir else File

-- the mode that programs usually request
abbrev pub usual_mode : Kind → Classes
usual_mode File = record { user = 6; group = 6; other = 6 }
usual_mode Dir = record { user = 7; group = 7; other = 7 }

-- and the umask that they usually have
abbrev pub usual_umask : Classes
usual_umask = record { user = 0; group = 2; other = 2 }

-- three octal digits, or the usual mode without them
abbrev pub mode_of : List ℕ → Classes → Option Text → Result Classes Refusal
mode_of place usual None = Ok usual
mode_of place usual (Some text) =
    or_fault (for_text place (codes "bad-mode") text) (mode_of_octal text)

abbrev pub modes_in : List Row → Result Modes Refusal
modes_in rows = do
  mode ← mode_of (codes "--mode") (usual_mode (kind_in rows)) (first_of (codes "mode") rows)
  umask ← mode_of (codes "--umask") usual_umask (first_of (codes "umask") rows)
  Ok (record { mode = mode; umask = umask })

-- they are refused for this, or memory ran out
abbrev pub ExplainsRefusal : {A : Type 0} → Result A Refusal → Failure → Type 0
ExplainsRefusal reading (Refused refusal) = reading ≡ Err refusal
ExplainsRefusal reading (Lacks Memory) = ⊤
ExplainsRefusal reading _ = ⊥

-- ---- who creates it

-- a user in no group would make a file whose group isn't known
abbrev pub maker_by : ℕ → List ℕ → Result Maker FieldFault
maker_by uid [] = Err UnknownUser
maker_by uid (first ∷ more) = Ok (record { owner = uid; group = first })

abbrev pub maker_of : Person → Result Maker FieldFault
maker_of person = maker_by person.who.uid person.who.gids

abbrev pub maker_asked : Host → Text → Result Maker FieldFault
maker_asked host text = person_asked host text >>= maker_of

-- the user whom `--user` names
abbrev pub maker_in : Host → List Row → Result Maker Malformed
maker_in host = of_option (codes "user") (given UnknownUser (maker_asked host))
