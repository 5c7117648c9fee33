-- What building a command line by its arguments gives.
use Rattle.std.proofs.Common.{◌≡◌, ◌∙◌, ap₂, subst, false, true, List, [], Result, Ok, Err, IfErr, IfOk, OnOk, inl, inr}
use Rattle.clap.specs.Words.{AddsArg, App, FailsBy, HasKind, Kinds, Rule, Text, app_of}
use Rattle.clap.specs.Words.{fault_of, found_of, is_simple, is_simple_and_free, kind_of}
use Rattle.clap.specs.Words.{HasMatchesOf, matches_of, rows_of, rule_of, subcommand_of}
use Rattle.clap.specs.Words.{subcommand_rows_of, with_rule}
use Rattle.clap.specs.declared.error.Error.{Error}
use Rattle.clap.specs.declared.error.kind.ErrorKind.TheVariants.{OutOfMemory}
use Rattle.clap.specs.declared.builder.arg.Arg.{Arg}
use Rattle.clap.specs.declared.builder.command.Command.{Command}
use Rattle.clap.specs.declared.parser.matches.ArgMatches.{ArgMatches}

-- a command with one more argument is the known command with the known rule
pub app_of-arg : {app : App} {rule : Rule} (old new : Command) (arg : Arg) → AddsArg old arg new → arg.global ≡ false → app_of old ≡ app → rule_of arg ≡ rule → app_of new ≡ with_rule app rule
app_of-arg old new arg added local is_app is_rule = added.shape local ∙ ap₂ with_rule is_app is_rule

module _ (line app : App) (words : List Text) (is : app ≡ line) where
  -- what the parser says of the command as it was built, of the known command
  pub FailsBy-line : {T : Type 0} (r : Result T Error) → is_simple_and_free line ≡ true → (is_simple_and_free app ≡ true → FailsBy (fault_of app words) r) → FailsBy (fault_of line words) r
  FailsBy-line r free fails =
      subst (λ (a : App). is_simple_and_free a ≡ true → FailsBy (fault_of a words) r) is fails free

pub FailsBy-err : {T : Type 0} (kinds : Kinds) (r : Result T Error) → FailsBy kinds r → IfErr r (λ e. kinds ≡ [] → kind_of e ≡ OutOfMemory)
FailsBy-err kinds (Ok t) none = tt
FailsBy-err kinds (Err e) has = λ none. from_none (subst (λ (k : Kinds). HasKind k e) none has)
  where
    from_none : HasKind [] e → kind_of e ≡ OutOfMemory
    from_none (inl memory) = memory
    from_none (inr impossible) = absurd impossible

pub FailsBy-kind : {T : Type 0} (kinds : Kinds) (r : Result T Error) → FailsBy kinds r → IfErr r (HasKind kinds)
FailsBy-kind kinds (Ok t) none = tt
FailsBy-kind kinds (Err e) has = has

pub FailsBy-ok : {T : Type 0} (kinds : Kinds) (r : Result T Error) → FailsBy kinds r → OnOk r (kinds ≡ [])
FailsBy-ok kinds (Ok t) none = none
FailsBy-ok kinds (Err e) has = tt

-- what the parser finds by the command as it was built, it finds by the known command
pub HasMatches-line : (line app : App) (words : List Text) → app ≡ line → is_simple line ≡ true → (r : Result ArgMatches Error) → IfOk r (HasMatchesOf app words)
    → IfOk r (λ m. rows_of (found_of m) ≡ matches_of line words)
HasMatches-line line app words is simple (Ok m) found =
    let both : (rows_of (found_of m) ≡ matches_of line words) × (subcommand_rows_of m ≡ subcommand_of line words) =
    subst (λ (a : App). HasMatchesOf a words m) is found simple in
    both.0
HasMatches-line line app words is simple (Err e) found = tt
