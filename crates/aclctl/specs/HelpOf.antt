-- A command of which help alone is asked for.
use Rattle.std.specs.Prelude.{◌≡◌, List}
use Rattle.clap.specs.Words.{Row}
use Rattle.acl_cli.specs.Commands.{Meaning}
use Rattle.acl_cli.specs.declared.failure.Failure.TheVariants.{Misuse}
use Rattle.acl_cli.specs.declared.misuse.Misuse.TheVariants.{NoCommand}

-- no fields have an answer
abbrev pub no_fields : List Row → Meaning
no_fields rows = record {
  Answers = λ answer. ⊥;
  Begins = λ answer. ⊥;
  Fails = λ failure. failure ≡ Misuse NoCommand;
  inputs = 0;
}
