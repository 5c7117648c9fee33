-- What is said of words of `impact` that are wrong together. Private words, which no public clause
-- cites: the parser's texts aren't fixed.
use Rattle.std.specs.Prelude.{ℕ, List, [], codes}
use Rattle.clap.specs.declared.error.kind.ErrorKind.{ErrorKind}
use Rattle.clap.specs.declared.error.kind.ErrorKind.TheVariants.{ArgumentConflict}
use Rattle.clap.specs.declared.error.kind.ErrorKind.TheVariants.{MissingRequiredArgument}

-- what the parser says of other words that are wrong in this way
abbrev pub misfit_message : ErrorKind → List ℕ
misfit_message ArgumentConflict = codes "the argument '--reach' cannot be used with '--text'"
misfit_message MissingRequiredArgument =
    codes "the following required arguments were not provided:\n  --reach"
misfit_message kind = []
