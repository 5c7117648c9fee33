-- What texts and fields mean to `run`.
use Rattle.std.specs.Prelude.{◌≡◌, ◌⊎◌, ℕ, Bool, List, [], Option, Vec, codes, length}
use Rattle.std.specs.declared.alloc.Global.{Global}
use Rattle.clap.specs.Words.{Row, Text}
use Rattle.acl_cli.specs.Commands.{Answer, Meaning}
use Rattle.acl_cli.specs.Fields.{flag_in}
use Rattle.acl_cli.specs.SessionFiles.{HasBytes, HaveBytes, input_count, setup_in}
use Rattle.acl_cli.specs.declared.command.Ending.TheVariants.{Answered}
use Rattle.acl_cli.specs.declared.failure.Failure.{Failure}
use Rattle.acl_service.specs.Files.{IsFilesFailure}
use Rattle.acl_service.specs.RunTexts.{Prints}
use Rattle.acl_service.specs.RunWords.{CanRun, HasLimit, sessions_in}
use Rattle.acl_service.specs.TextsFailures.{IsTextsFailure}

-- the answer is what the texts print over what the setup opens, wholly, with nothing beside it
pub record AnswersTexts (setup : List ℕ) (texts : List (Vec ℕ Global)) (with_journal : Bool)
    (limit : Option ℕ) (answer : Answer) : Type 0 where
  pub prints : Prints setup texts with_journal limit answer.text
  pub quiet : answer.beside ≡ []
  pub whole : answer.ending ≡ Answered

-- sessions with these texts over what the setup opens, with the journal and an error limit if they
-- are asked for
abbrev pub texts_meaning : List ℕ → List (Vec ℕ Global) → Bool → Option ℕ → Meaning
texts_meaning setup texts with_journal limit = record {
  Answers = AnswersTexts setup texts with_journal limit;
  Begins = AnswersTexts setup texts with_journal limit;
  Fails = IsTextsFailure setup (length texts);
  inputs = 0;
}

-- the answer is what the files print that the fields name
pub record AnswersFiles (bytes_of : Text → Option (List ℕ)) (input : Option (List ℕ))
    (rows : List Row) (answer : Answer) : Type 0 where
  pub can_run : CanRun (sessions_in rows)
  pub setup : List ℕ
  pub texts : List (Vec ℕ Global)
  pub limit : Option ℕ
  pub limit_is : HasLimit rows limit
  pub setup_is : HasBytes (bytes_of (setup_in rows)) setup
  pub texts_are : HaveBytes bytes_of input (sessions_in rows) texts
  pub answers : AnswersTexts setup texts (flag_in (codes "journal") rows) limit answer

-- the files come to nothing for this, or not to all that they print
pub record FailsOfFiles (bytes_of : Text → Option (List ℕ)) (rows : List Row) (failure : Failure)
    : Type 0 where
  pub can_run : CanRun (sessions_in rows)
  pub setup : List ℕ
  pub setup_is : HasBytes (bytes_of (setup_in rows)) setup
  pub fails : IsTextsFailure setup (length (sessions_in rows)) failure

-- what the fields of `run` mean
abbrev pub run_meaning : (Text → Option (List ℕ)) → Option (List ℕ) → List Row → Meaning
run_meaning bytes_of input rows = record {
  Answers = AnswersFiles bytes_of input rows;
  Begins = AnswersFiles bytes_of input rows;
  Fails = λ failure. IsFilesFailure (setup_in rows) (sessions_in rows) failure
      ⊎ FailsOfFiles bytes_of rows failure;
  inputs = input_count (sessions_in rows);
}
