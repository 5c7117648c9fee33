-- What `lint` answers.
use Rattle.std.specs.Prelude.{◌≡◌, ◌⊎◌, ℕ, ◌==◌, List, [], ◌∷◌, ◌++◌, Option, Vec, map}
use Rattle.std.specs.Prelude.{codes, if◌then◌else◌}
use Rattle.std.specs.declared.alloc.Global.{Global}
use Rattle.clap.specs.Words.{Row, Text}
use Rattle.acl_names.specs.Bytes.{hyphen, newline, space}
use Rattle.acl_names.specs.Directory.{Known}
use Rattle.acl_tree.specs.Tree.{NodesUnderUmask}
use Rattle.acl_cli.specs.Commands.{Answer, Meaning}
use Rattle.acl_cli.specs.Failures.{IsAnswerLack}
use Rattle.acl_setup.specs.Opened.{Opens}
use Rattle.acl_service.specs.Files.{IsFilesFailure}
use Rattle.acl_service.specs.RunWords.{CanRun, sessions_in}
use Rattle.acl_cli.specs.SessionFiles.{HasBytes, HaveBytes, input_count, setup_in}
use Rattle.acl_cli.specs.declared.command.Ending.TheVariants.{Answered}
use Rattle.acl_setup.specs.SetupFaults.{setup_error_words}
use Rattle.acl_setup.specs.Opened.{IsRefusedBy}
use Rattle.acl_setup.specs.declared.fault.SetupError.{SetupError}
use Rattle.acl_lint.specs.LintText.{sessions_text}
use Rattle.acl_lint.specs.SetupPlace.{setup_place}

-- words with `-` between them
abbrev pub with_hyphens : List ℕ → List ℕ
with_hyphens words = map (λ byte. if byte == space then hyphen else byte) words

-- `NAME: WORD PLACE`
abbrev pub setup_text : Text → SetupError → List ℕ
setup_text name error = name ++ codes ": " ++ with_hyphens (setup_error_words error)
    ++ space ∷ setup_place error ++ newline ∷ []

-- the setup opens, and that is reported for sessions of these names, with these texts
pub record IsOfSessions (setup : List ℕ) (names : List Text) (texts : List (Vec ℕ Global))
    (text : List ℕ) : Type 0 where
  pub known : Known
  pub tree : NodesUnderUmask
  pub opened : Opens setup known tree
  pub is : text ≡ sessions_text known names texts

-- the setup of this name is refused, and that is reported for it
pub record IsOfSetup (name : Text) (setup text : List ℕ) : Type 0 where
  pub error : SetupError
  pub refused : IsRefusedBy setup error
  pub is : text ≡ setup_text name error

-- that is reported for the setup of this name, or of the sessions of these names
abbrev pub IsLint : Text → List ℕ → List Text → List (Vec ℕ Global) → List ℕ → Type 0
IsLint name setup names texts text =
    IsOfSessions setup names texts text ⊎ IsOfSetup name setup text

-- that is reported for the files that the fields name, wholly, with nothing beside it
pub record AnswersRows (bytes_of : Text → Option (List ℕ)) (input : Option (List ℕ))
    (rows : List Row) (answer : Answer) : Type 0 where
  pub can_run : CanRun (sessions_in rows)
  pub setup : List ℕ
  pub texts : List (Vec ℕ Global)
  pub setup_is : HasBytes (bytes_of (setup_in rows)) setup
  pub texts_are : HaveBytes bytes_of input (sessions_in rows) texts
  pub answers : IsLint (setup_in rows) setup (sessions_in rows) texts answer.text
  pub quiet : answer.beside ≡ []
  pub whole : answer.ending ≡ Answered

-- what the fields of `lint` mean
abbrev pub lint_meaning : (Text → Option (List ℕ)) → Option (List ℕ) → List Row → Meaning
lint_meaning bytes_of input rows = record {
  Answers = AnswersRows bytes_of input rows;
  Begins = AnswersRows bytes_of input rows;
  Fails = λ failure. IsFilesFailure (setup_in rows) (sessions_in rows) failure
      ⊎ CanRun (sessions_in rows) × IsAnswerLack failure;
  inputs = input_count (sessions_in rows);
}
