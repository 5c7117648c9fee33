-- What came of files that are looked at.
use Rattle.std.proofs.Common.{◌≡◌, ◌⊎◌, [], ℕ, List, Option, OnErr, OnOk, Result, Ok, Err, Vec, Global, ap, arith, inl, inr, refl}
use Rattle.std.proofs.Math.Logic.{⊎_map}
use Rattle.std.specs.Io.KnownBytes.{Appends, Keeps}
use Rattle.clap.specs.Words.{Row, Text}
use Rattle.acl_cli.specs.Commands.{Answer, Comes}
use Rattle.acl_cli.specs.ErrorOutput.{ErrorText}
use Rattle.acl_cli.specs.Failures.{IsAnswerLack, status_of}
use Rattle.acl_cli.specs.Output.{AppendsFront}
use Rattle.acl_cli.specs.SessionFiles.{HasBytes, HaveBytes, input_count, setup_in}
use Rattle.acl_cli.specs.declared.command.Ending.TheVariants.{Answered}
use Rattle.acl_cli.specs.declared.failure.Failure.{Failure}
use Rattle.acl_cli.proofs.ReportingLemmas.{Reports-nothing}
use Rattle.acl_service.specs.RunWords.{CanRun, sessions_in}
use Rattle.acl_lint.specs.LintAnswer.{AnswersRows, IsLint, lint_meaning}

-- what an answer lacks has the status 3
late : (failure : Failure) → IsAnswerLack failure → status_of failure ≡ 3
late failure (inl is) = ap status_of is
late failure (inr is) = ap status_of is

module _ {I : Type 0} (bytes_of : Text → Option (List ℕ)) (start : Option (List ℕ)) (rows : List Row) (can_run : CanRun (sessions_in rows)) (setup : List ℕ)
    (texts : List (Vec ℕ Global)) (setup_is : HasBytes (bytes_of (setup_in rows)) setup) (texts_are : HaveBytes bytes_of start (sessions_in rows) texts)
    (out out' : Option (List ℕ)) (err : ErrorText) (input input' : I) (untouched : input_count (sessions_in rows) ≡ 0 → input' ≡ input) where
  abbrev answer : List ℕ → Answer
  answer text = record { text = text; beside = []; ending = Answered }

  abbrev IsReported : List ℕ → Type 0
  IsReported = IsLint (setup_in rows) setup (sessions_in rows) texts

  answers : (text : List ℕ) → IsReported text → AnswersRows bytes_of start rows (answer text)
  answers text is = record { can_run = can_run; setup = setup; texts = texts; setup_is = setup_is; texts_are = texts_are; answers = is; quiet = refl; whole = refl }

  pub lint_answered : (text : List ℕ) × IsReported text × Appends out out' text → Comes (lint_meaning bytes_of start rows) (Ok Answered) out out' err err input input'
  lint_answered (text, is, went) = record {
    answered = record { answer = answer text; is = answers text is; ends = refl; text = went; beside = Reports-nothing err };
    fails = tt;
    silent = tt;
    cut = tt;
    untouched = untouched;
    unread = tt;
  }

  pub lint_failed : (failure : Failure) → IsAnswerLack failure → Keeps out out' ⊎ ((text : List ℕ) × IsReported text × AppendsFront out out' text)
      → Comes (lint_meaning bytes_of start rows) (Err failure) out out' err err input input'
  lint_failed failure lack cut = record {
    answered = tt;
    fails = inr (can_run, lack);
    silent = λ few. absurd (omega (arith, few, late failure lack));
    cut = ⊎_map (λ kept. (kept, refl))
        (λ (went : (text : List ℕ) × IsReported text × AppendsFront out out' text).
        record { answer = answer went.0; is = answers went.0 went.1; text = went.2; said = 0; beside = Reports-nothing err })
        cut;
    untouched = untouched;
    unread = λ two. absurd (omega (arith, two, late failure lack));
  }

-- what is so where it failed, and where it didn't
pub on_err : {T E : Type 0} (result : Result T E) (P : Type 0) → P → OnErr result P
on_err (Ok value) P is = tt
on_err (Err fault) P is = is

pub map_ok : {T E : Type 0} (result : Result T E) (P Q : Type 0) → (P → Q) → OnOk result P → OnOk result Q
map_ok (Ok value) P Q other is = other is
map_ok (Err fault) P Q other is = tt

pub map_err : {T E : Type 0} (result : Result T E) (P Q : Type 0) → (P → Q) → OnErr result P → OnErr result Q
map_err (Ok value) P Q other is = tt
map_err (Err fault) P Q other is = other is
