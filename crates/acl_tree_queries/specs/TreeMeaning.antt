-- What fields mean that have a tree printed.
use Rattle.std.specs.Prelude.{◌≡◌, ◌<◌, ◌⊎◌, ◌∷◌, ℕ, List, [], Option, Contains, codes}
use Rattle.clap.specs.Words.{Row, Text}
use Rattle.acl_names.specs.Directory.{Known}
use Rattle.acl_cli.specs.Commands.{Answer, Meaning}
use Rattle.acl_cli.specs.Failures.{IsAnswerLack, IsUnexplained}
use Rattle.acl_cli.specs.Refusals.{as_a_whole}
use Rattle.acl_cli.specs.SessionFiles.{setup_in}
use Rattle.acl_cli.specs.declared.command.Ending.TheVariants.{Answered}
use Rattle.acl_cli.specs.declared.failure.Failure.{Failure}
use Rattle.acl_cli.specs.declared.failure.Failure.TheVariants.{Misuse, Refused}
use Rattle.acl_cli.specs.declared.misuse.Misuse.TheVariants.{InputTwice}
use Rattle.acl_service.specs.Setups.{IsSetupFailure}
use Rattle.acl_tree.specs.Tree.{NodesUnderUmask}
use Rattle.acl_tree_queries.specs.SetupTree.{IsSetupTree, inputs_in, sessions_in}

-- The files that the fields name give a tree, and this answers, wholly, with nothing beside it.
pub record AnswersOfTree (IsAnswer : Known → NodesUnderUmask → List ℕ → Type 0)
    (bytes_of : Text → Option (List ℕ)) (input : Option (List ℕ)) (rows : List Row)
    (answer : Answer) : Type 0 where
  pub directory : Known
  pub tree : NodesUnderUmask
  pub given : IsSetupTree bytes_of input rows directory tree
  pub answers : IsAnswer directory tree answer.text
  pub quiet : answer.beside ≡ []
  pub whole : answer.ending ≡ Answered

-- a line of the answer is longer than lines may be
abbrev pub line_too_long : Failure
line_too_long = Refused (as_a_whole (codes "dump") (codes "line too long"))

-- an answer is refused, which is so only of such trees, or lacks something
abbrev pub IsAnswerFailure : Type 0 → Failure → Type 0
IsAnswerFailure IsRefused failure = (failure ≡ line_too_long) × IsRefused ⊎ IsAnswerLack failure

-- the files give a tree, and the answer fails so
pub record FailsOfTree (IsRefused : NodesUnderUmask → Type 0) (bytes_of : Text → Option (List ℕ))
    (input : Option (List ℕ)) (rows : List Row) (failure : Failure) : Type 0 where
  pub directory : Known
  pub tree : NodesUnderUmask
  pub given : IsSetupTree bytes_of input rows directory tree
  pub failed : IsAnswerFailure (IsRefused tree) failure

-- the names of the files are refused for this: standard input is two sessions, or what has one of
-- them can't be read, or memory ran out
abbrev pub IsNamesFailure : List Row → Failure → Type 0
IsNamesFailure rows failure = (failure ≡ Misuse InputTwice) × (1 < inputs_in rows)
    ⊎ IsUnexplained (Contains (setup_in rows ∷ sessions_in rows)) failure

-- the files give no tree for this
abbrev pub IsTreeFailure : (Text → Option (List ℕ)) → List Row → Failure → Type 0
IsTreeFailure bytes_of rows failure =
    IsNamesFailure rows failure ⊎ IsSetupFailure (bytes_of (setup_in rows)) failure

-- by what answers of a tree, and by the trees of which it can't be answered; all of an answer is
-- made before any of it goes out
abbrev pub tree_meaning : (Known → NodesUnderUmask → List ℕ → Type 0) → (NodesUnderUmask → Type 0)
    → (Text → Option (List ℕ)) → Option (List ℕ) → List Row → Meaning
tree_meaning IsAnswer IsRefused bytes_of input rows = record {
  Answers = AnswersOfTree IsAnswer bytes_of input rows;
  Begins = AnswersOfTree IsAnswer bytes_of input rows;
  Fails = λ failure.
      IsTreeFailure bytes_of rows failure ⊎ FailsOfTree IsRefused bytes_of input rows failure;
  inputs = inputs_in rows;
}

-- no tree is refused
abbrev pub IsNeverRefused : NodesUnderUmask → Type 0
IsNeverRefused tree = ⊥
