-- The exit status of `run`, by its words.
use Rattle.std.proofs.Common.{◌≡◌, ◌≢◌, ◌≤◌, ◌<◌, ◌⊎◌, ◌∙◌, ℕ, List, Option, Result, Ok, Err, ap, arith, false, inl, inr, length, sym}
use Rattle.std.specs.Prelude.{Contains, ◌∷◌}
use Rattle.std.proofs.lemmas.Bool.{true≢false}
use Rattle.clap.specs.Words.{Row, Text, fault_of, matches_of}
use Rattle.acl_broker.specs.declared.limits.TheConstants.{SESSIONS}
use Rattle.acl_cli.specs.CommandLine.{Takes}
use Rattle.acl_cli.specs.Commands.{Comes, IsReported, of_words, status_of_ending}
use Rattle.acl_cli.specs.ErrorOutput.{ErrorText}
use Rattle.acl_cli.specs.Failures.{status_of}
use Rattle.acl_cli.specs.SessionFiles.{setup_in}
use Rattle.acl_cli.specs.declared.command.Ending.{Ending}
use Rattle.acl_cli.specs.declared.failure.Failure.{Failure}
use Rattle.acl_cli.proofs.FailureLemmas.{refusal_status, unexplained_not_two}
use Rattle.acl_service.specs.Files.{IsFilesFailure}
use Rattle.acl_service.specs.RunLaws.{CannotRun, StatusesReportTheWords}
use Rattle.acl_service.specs.RunLine.{run_line}
use Rattle.acl_service.specs.RunMeaning.{FailsOfFiles, run_meaning}
use Rattle.acl_service.specs.RunWords.{CanRun, sessions_in}
use Rattle.acl_service.proofs.RunLemmas.{usage_is_too_many}

-- files that are refused without wrong usage are those of sessions that can run, and with it of those that can't
module _ (setup : Text) (names : List Text) (failure : Failure) where
  files_can_run : IsFilesFailure setup names failure → status_of failure ≤ 1 → CanRun names
  files_can_run (inl (inl (is, count))) few = let two = ap status_of is in absurd (omega (arith, two, few))
  files_can_run (inl (inr (is, twice))) few = let two = ap status_of is in absurd (omega (arith, two, few))
  files_can_run (inr (can, is)) few = can

  files_cannot_run : IsFilesFailure setup names failure → status_of failure ≡ 2 → CannotRun names
  files_cannot_run (inl (inl (is, inl none))) two = inl none
  files_cannot_run (inl (inl (is, inr many))) two = inr (inl many)
  files_cannot_run (inl (inr (is, twice))) two = inr (inr twice)
  files_cannot_run (inr (can, is)) two = absurd (unexplained_not_two (Contains (setup ∷ names)) failure is two)

module _ (bytes_of : Text → Option (List ℕ)) (input : Option (List ℕ)) (words : List Text) where
  abbrev rows : List Row
  rows = matches_of run_line words

  abbrev names : List Text
  names = sessions_in rows

  -- sessions that come to nothing are none of wrong usage
  texts_not_two : (failure : Failure) → FailsOfFiles bytes_of rows failure → status_of failure ≢ 2
  texts_not_two failure failed two =
      let few : length names ≤ SESSIONS = failed.can_run.few in
      let many : SESSIONS < length names = (usage_is_too_many failed.setup (length names) failure failed.fails).0 two in
      omega (arith, few, many)

  -- the status reports for the words
  abbrev Reports : ℕ → Type 0
  Reports status = (status ≤ 1 → Takes run_line words × CanRun names) × (status ≡ 2 → (¬ Takes run_line words) ⊎ CannotRun names)

  of_failure : (failure : Failure) → (of_words run_line false (run_meaning bytes_of input) words).Fails failure → Reports (status_of failure)
  of_failure failure (inl refused) = of_refusal (refusal_status false (fault_of run_line words) failure refused)
    where
      of_refusal : (status_of failure ≡ 3) ⊎ ((status_of failure ≡ 2) × (¬ Takes run_line words)) → Reports (status_of failure)
      of_refusal (inl three) = (λ few. absurd (omega (arith, three, few)), λ two. absurd (omega (arith, three, two)))
      of_refusal (inr (is, not_taken)) = (λ few. absurd (omega (arith, is, few)), λ two. inl not_taken)
  of_failure failure (inr (taken, inl files)) =
      (λ few. (taken, files_can_run (setup_in rows) names failure files few), λ two. inr (files_cannot_run (setup_in rows) names failure files two))
  of_failure failure (inr (taken, inr texts)) = (λ few. (taken, texts.can_run), λ two. absurd (texts_not_two failure texts two))

  module _ (out out' : Option (List ℕ)) (err err' reported_err : ErrorText) (stdin stdin' : Unit {0}) where
    by_result : (result : Result Ending Failure) (status : ℕ) → Comes (of_words run_line false (run_meaning bytes_of input) words) result out out' err err' stdin stdin'
        → IsReported result status err' reported_err → Reports status
    by_result (Ok ending) status comes reported = of_answer comes.answered.is (reported.0 ∙ ap status_of_ending (sym comes.answered.ends))
      where
        of_answer : (of_words run_line false (run_meaning bytes_of input) words).Answers comes.answered.answer → status ≡ status_of_ending comes.answered.answer.ending → Reports status
        of_answer (inl (helps, asks, quiet, whole)) is = absurd (true≢false (sym helps))
        of_answer (inr (taken, answered)) is =
            let none : status ≡ 0 = is ∙ ap status_of_ending answered.answers.whole in
            (λ few. (taken, answered.can_run), λ two. absurd (omega (arith, none, two)))
    by_result (Err failure) status comes reported = rw reported.0 (of_failure failure comes.fails)

pub statuses_report : StatusesReportTheWords
statuses_report bytes_of input words status out out' err err' stdin stdin' ends =
    by_result bytes_of input words out out' err ends.between err' stdin stdin' ends.result status ends.comes ends.reported
