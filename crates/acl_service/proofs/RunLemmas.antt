-- What came of sessions, by what they print.
use Rattle.std.proofs.Common.{◌≡◌, ◌≢◌, ◌≤◌, ◌<◌, ◌⊎◌, ◌∙◌, [], ℕ, Bool, List, Option, Ok, Err, Vec, Global, ap, arith, codes, inl, inr, length, refl, subst, sym}
use Rattle.std.specs.Prelude.{⊤, ◌↔◌}
use Rattle.std.specs.Io.KnownBytes.{Appends, Keeps}
use Rattle.clap.specs.Words.{Row, Text}
use Rattle.acl_broker.specs.declared.limits.TheConstants.{SESSIONS}
use Rattle.acl_cli.specs.Commands.{Answer, Comes, Meaning}
use Rattle.acl_cli.specs.ErrorOutput.{ErrorText}
use Rattle.acl_cli.specs.Failures.{failed_write, status_of}
use Rattle.acl_cli.specs.Fields.{flag_in}
use Rattle.acl_cli.specs.Output.{AppendsFront}
use Rattle.acl_cli.specs.SessionFiles.{HasBytes, HaveBytes, input_count, setup_in}
use Rattle.acl_cli.specs.declared.command.Ending.TheVariants.{Answered}
use Rattle.acl_cli.specs.declared.failure.Failure.{Failure}
use Rattle.acl_cli.specs.declared.failure.Failure.TheVariants.{CannotRead, Field, Lacks, Malformed, Misuse, Refused, Unread, Usage}
use Rattle.acl_cli.specs.declared.misuse.Misuse.TheVariants.{BadWords, DeleteAndOthers, InputTwice, LettersAndPerms, NoCommand, TooManySessions, TooManyWords}
use Rattle.acl_cli.specs.declared.run_fault.RunFault.TheVariants.{Memory, NoThread, Output, Stopped}
use Rattle.acl_cli.proofs.ReportingLemmas.{Reports-nothing}
use Rattle.acl_service.specs.RunMeaning.{AnswersTexts, run_meaning}
use Rattle.acl_service.specs.RunTexts.{RunsTexts}
use Rattle.acl_service.specs.RunWords.{CanRun, HasLimit, sessions_in}
use Rattle.acl_service.specs.TextsFailures.{IsTextsFailure}

abbrev IsSetup : Failure → Type 0
IsSetup (Refused refusal) = ⊤
IsSetup _ = ⊥

abbrev IsTooMany : Failure → Type 0
IsTooMany (Misuse TooManySessions) = ⊤
IsTooMany _ = ⊥

abbrev IsNotOutput : Failure → Type 0
IsNotOutput (Lacks Output) = ⊥
IsNotOutput _ = ⊤

-- which failures of texts there are
module _ (setup : List ℕ) (sessions : ℕ) where
  by_failure : {A : Type 0} (failure : Failure) → IsTextsFailure setup sessions failure → (failure ≡ Misuse TooManySessions → SESSIONS < sessions → A)
      → (status_of failure ≡ 1 → failure ≢ failed_write → sessions ≤ SESSIONS → A) → (status_of failure ≡ 3 → failure ≢ failed_write → sessions ≤ SESSIONS → A)
      → (failure ≡ failed_write → sessions ≤ SESSIONS → A) → A
  by_failure (Misuse TooManySessions) is many refused lacks lost = many refl is
  by_failure (Refused refusal) is many refused lacks lost = refused refl (λ same. subst IsSetup same tt) is.0
  by_failure (Lacks Memory) is many refused lacks lost = lacks refl (λ same. subst IsNotOutput same tt) is
  by_failure (Lacks Stopped) is many refused lacks lost = lacks refl (λ same. subst IsNotOutput same tt) is
  by_failure (Lacks NoThread) is many refused lacks lost = lacks refl (λ same. subst IsNotOutput same tt) is
  by_failure (Lacks Output) is many refused lacks lost = lost refl is
  by_failure (Malformed malformed) is many refused lacks lost = absurd is
  by_failure (Misuse BadWords) is many refused lacks lost = absurd is
  by_failure (CannotRead name reason) is many refused lacks lost = absurd is
  by_failure (Field fault) is many refused lacks lost = absurd is
  by_failure (Misuse InputTwice) is many refused lacks lost = absurd is
  by_failure (Misuse LettersAndPerms) is many refused lacks lost = absurd is
  by_failure (Misuse DeleteAndOthers) is many refused lacks lost = absurd is
  by_failure (Misuse NoCommand) is many refused lacks lost = absurd is
  by_failure (Misuse TooManyWords) is many refused lacks lost = absurd is
  by_failure (Unread name) is many refused lacks lost = absurd is
  by_failure (Usage error) is many refused lacks lost = absurd is

  -- wrong usage is that of too many
  pub usage_is_too_many : (failure : Failure) → IsTextsFailure setup sessions failure → (status_of failure ≡ 2) ↔ (SESSIONS < sessions)
  usage_is_too_many failure is = by_failure failure is
      (λ same many. (λ two. many, λ more. ap status_of same))
      (λ one other few. (λ two. absurd (omega (arith, one, two)), λ many. absurd (omega (arith, few, many))))
      (λ three other few. (λ two. absurd (omega (arith, three, two)), λ many. absurd (omega (arith, few, many))))
      (λ same few. (λ two. absurd (let three = ap status_of same in omega (arith, three, two)), λ many. absurd (omega (arith, few, many))))

  -- nothing went out, unless a write failed
  kept_or_cut : {Kept Cut : Type 0} (failure : Failure) → IsTextsFailure setup sessions failure → (failure ≢ failed_write → Kept) → (failure ≡ failed_write → Cut) → Kept ⊎ Cut
  kept_or_cut failure is kept cut = by_failure failure is (λ same many. inl (kept (λ lost. subst IsTooMany (sym same ∙ lost) tt)))
      (λ one other few. inl (kept other)) (λ three other few. inl (kept other)) (λ lost few. inr (cut lost))

  -- it is kept at 1 and 2
  kept_below : {Kept : Type 0} (failure : Failure) → IsTextsFailure setup sessions failure → (failure ≢ failed_write → Kept) → status_of failure ≤ 2 → Kept
  kept_below failure is kept few = kept (λ lost. let three = ap status_of lost in absurd (omega (arith, three, few)))

abbrev answer_of : List ℕ → Answer
answer_of text = record { text = text; beside = []; ending = Answered }

module _ (setup : List ℕ) (texts : List (Vec ℕ Global)) (journal : Bool) (limit : Option ℕ) (out out' : Option (List ℕ)) (err : ErrorText) where
  -- what texts printed answers them
  answers_texts : (WentOut : List ℕ → Type 0) (ran : RunsTexts setup texts journal limit WentOut) → AnswersTexts setup texts journal limit (answer_of ran.printed)
  answers_texts WentOut ran = record { prints = ran.prints; quiet = refl; whole = refl }

  module _ {I : Type 0} (input input' : I) (meaning : Meaning) (answers : (answer : Answer) → AnswersTexts setup texts journal limit answer → meaning.Answers answer)
      (begins : (answer : Answer) → AnswersTexts setup texts journal limit answer → meaning.Begins answer)
      (fails : (failure : Failure) → IsTextsFailure setup (length texts) failure → meaning.Fails failure) (untouched : meaning.inputs ≡ 0 → input' ≡ input)
      (unread : (failure : Failure) → IsTextsFailure setup (length texts) failure → status_of failure ≡ 2 → input' ≡ input) where
    pub Comes-ran : RunsTexts setup texts journal limit (Appends out out') → Comes meaning (Ok Answered) out out' err err input input'
    Comes-ran ran = record {
      answered = record { answer = answer_of ran.printed; is = answers _ (answers_texts _ ran); ends = refl; text = ran.out; beside = Reports-nothing err };
      fails = tt;
      silent = tt;
      cut = tt;
      untouched = untouched;
      unread = tt;
    }

    pub Comes-failed : (failure : Failure) → IsTextsFailure setup (length texts) failure → (failure ≢ failed_write → Keeps out out')
        → (failure ≡ failed_write → RunsTexts setup texts journal limit (AppendsFront out out')) → Comes meaning (Err failure) out out' err err input input'
    Comes-failed failure is silent cut = record {
      answered = tt;
      fails = fails failure is;
      silent = kept_below setup (length texts) failure is (λ other. (silent other, refl));
      cut = kept_or_cut setup (length texts) failure is (λ other. (silent other, refl)) (λ lost.
          let ran = cut lost in record { answer = answer_of ran.printed; is = begins _ (answers_texts _ ran); text = ran.out; said = 0; beside = Reports-nothing err });
      untouched = untouched;
      unread = unread failure is;
    }

-- the files that the fields of `run` name
module _ {I : Type 0} (bytes_of : Text → Option (List ℕ)) (start : Option (List ℕ)) (rows : List Row) (can_run : CanRun (sessions_in rows)) (setup : List ℕ)
    (texts : List (Vec ℕ Global)) (count : length texts ≡ length (sessions_in rows)) (setup_is : HasBytes (bytes_of (setup_in rows)) setup)
    (texts_are : HaveBytes bytes_of start (sessions_in rows) texts) (limit : Option ℕ) (limit_is : HasLimit rows limit) (out out' : Option (List ℕ)) (err : ErrorText)
    (input input' : I) (untouched : input_count (sessions_in rows) ≡ 0 → input' ≡ input) where
  abbrev meaning : Meaning
  meaning = run_meaning bytes_of start rows

  abbrev journal : Bool
  journal = flag_in (codes "journal") rows

  answers : (answer : Answer) → AnswersTexts setup texts journal limit answer → meaning.Answers answer
  answers answer is = record {
    can_run = can_run;
    setup = setup;
    texts = texts;
    limit = limit;
    limit_is = limit_is;
    setup_is = setup_is;
    texts_are = texts_are;
    answers = is;
  }

  fails : (failure : Failure) → IsTextsFailure setup (length texts) failure → meaning.Fails failure
  fails failure is =
      inr (record { can_run = can_run; setup = setup; setup_is = setup_is; fails = subst (λ (n : ℕ). IsTextsFailure setup n failure) count is })

  unread : (failure : Failure) → IsTextsFailure setup (length texts) failure → status_of failure ≡ 2 → input' ≡ input
  unread failure is two =
      let few : length (sessions_in rows) ≤ SESSIONS = can_run.few in
      let many : SESSIONS < length texts = (usage_is_too_many setup (length texts) failure is).0 two in
      absurd (omega (arith, few, many, count))

  pub files_ran : RunsTexts setup texts journal limit (Appends out out') → Comes meaning (Ok Answered) out out' err err input input'
  files_ran ran = Comes-ran setup texts journal limit out out' err input input' meaning answers answers fails untouched unread ran

  pub files_failed : (failure : Failure) → IsTextsFailure setup (length texts) failure → (failure ≢ failed_write → Keeps out out')
      → (failure ≡ failed_write → RunsTexts setup texts journal limit (AppendsFront out out')) → Comes meaning (Err failure) out out' err err input input'
  files_failed failure is silent cut = Comes-failed setup texts journal limit out out' err input input' meaning answers answers fails untouched unread failure is silent cut
