-- What a command came to, in other words.
use Rattle.std.proofs.Common.{◌≡◌, ◌⊎◌, [], Bool, true, ℕ, List, Option, Result, Ok, Err, IfErr, IfOk, arith, inl, inr, refl, subst, sym}
use Rattle.std.proofs.KnownBytes.{Keeps-refl}
use Rattle.std.proofs.Math.Logic.{⊎_map}
use Rattle.std.specs.Io.KnownBytes.{Appends, Keeps}
use Rattle.clap.specs.Words.{App, Row, Text, fault_of, matches_of}
use Rattle.acl_cli.specs.CommandLine.{Takes}
use Rattle.acl_cli.specs.Commands.{Answer, Comes, FrontWentOut, Meaning, of_words}
use Rattle.acl_cli.specs.ErrorOutput.{ErrorText}
use Rattle.acl_cli.specs.Failures.{AsksForHelp, IsRefusal, failed_write, out_of_memory}
use Rattle.acl_cli.specs.Output.{AppendsFront}
use Rattle.acl_cli.specs.declared.command.Ending.{Ending}
use Rattle.acl_cli.specs.declared.command.Ending.TheVariants.{Answered}
use Rattle.acl_cli.specs.declared.failure.Failure.{Failure}
use Rattle.acl_cli.proofs.ReportingLemmas.{Reports-nothing}

-- a command that failed before anything went out
pub Comes-failed : {I : Type 0} (meaning : Meaning) (failure : Failure) (out : Option (List ℕ)) (err : ErrorText) (input : I) → meaning.Fails failure
    → Comes meaning (Err failure) out out err err input input
Comes-failed meaning failure out err input is = record {
  answered = tt;
  fails = is;
  silent = λ few. (Keeps-refl out, refl);
  cut = inl (Keeps-refl out, refl);
  untouched = λ none. refl;
  unread = λ two. refl;
}

-- what came of a part came of the whole
pub Comes-as : {I : Type 0} (part whole : Meaning) (result : Result Ending Failure) (out out' : Option (List ℕ)) (err err' : ErrorText) (input input' : I)
    → ((answer : Answer) → part.Answers answer → whole.Answers answer) → ((answer : Answer) → part.Begins answer → whole.Begins answer)
    → ((failure : Failure) → part.Fails failure → whole.Fails failure) → (whole.inputs ≡ 0 → part.inputs ≡ 0)
    → Comes part result out out' err err' input input' → Comes whole result out out' err err' input input'
Comes-as part whole (Ok ending) out out' err err' input input' answers begins fails inputs comes =
    let went = comes.answered in
    record {
      answered = record { answer = went.answer; is = answers went.answer went.is; ends = went.ends; text = went.text; beside = went.beside };
      fails = tt;
      silent = tt;
      cut = tt;
      untouched = λ none. comes.untouched (inputs none);
      unread = tt;
    }
Comes-as part whole (Err failure) out out' err err' input input' answers begins fails inputs comes = record {
  answered = tt;
  fails = fails failure comes.fails;
  silent = comes.silent;
  cut = ⊎_map (λ none. none) (λ (went : FrontWentOut part.Begins out out' err err').
      record { answer = went.answer; is = begins went.answer went.is; text = went.text; said = went.said; beside = went.beside }) comes.cut;
  untouched = λ none. comes.untouched (inputs none);
  unread = comes.unread;
}

module _ {I : Type 0} (line : App) (helps : Bool) (meaning : List Row → Meaning) (words : List Text) where
  -- words that are taken come to what their fields do
  pub Comes-taken : (rows : List Row) (result : Result Ending Failure) (out out' : Option (List ℕ)) (err err' : ErrorText) (input input' : I) → Takes line words → rows ≡ matches_of line words
      → Comes (meaning rows) result out out' err err' input input' → Comes (of_words line helps meaning words) result out out' err err' input input'
  Comes-taken rows result out out' err err' input input' taken are comes =
      Comes-as (meaning (matches_of line words)) (of_words line helps meaning words) result out out' err err' input input'
      (λ answer is. inr (taken, is)) (λ answer is. inr (taken, is)) (λ failure is. inr (taken, is)) (λ none. none)
      (subst (λ (rows : List Row). Comes (meaning rows) result out out' err err' input input') are comes)

  module _ (out : Option (List ℕ)) (err : ErrorText) (input : I) where
    -- words that are refused
    pub Comes-refused : (failure : Failure) → IsRefusal helps (fault_of line words) failure → Comes (of_words line helps meaning words) (Err failure) out out err err input input
    Comes-refused failure is = record {
      answered = tt;
      fails = inl is;
      silent = λ few. (Keeps-refl out, refl);
      cut = inl (Keeps-refl out, refl);
      untouched = λ none. refl;
      unread = λ two. refl;
    }

    module _ (out' : Option (List ℕ)) (is_helps : helps ≡ true) (asks : AsksForHelp (fault_of line words)) where
      abbrev help_of : List ℕ → Answer
      help_of text = record { text = text; beside = []; ending = Answered }

      -- help went out
      help_written : (text : List ℕ) → Appends out out' text → Comes (of_words line helps meaning words) (Ok Answered) out out' err err input input
      help_written text went = record {
        answered = record { answer = help_of text; is = inl (is_helps, asks, refl, refl); ends = refl; text = went; beside = Reports-nothing err };
        fails = tt;
        silent = tt;
        cut = tt;
        untouched = λ none. refl;
        unread = tt;
      }

      help_unmade : Keeps out out' → Comes (of_words line helps meaning words) (Err out_of_memory) out out' err err input input
      help_unmade kept = record {
        answered = tt;
        fails = inl tt;
        silent = λ few. (kept, refl);
        cut = inl (kept, refl);
        untouched = λ none. refl;
        unread = λ two. refl;
      }

      help_unwritten : (text : List ℕ) → AppendsFront out out' text → Comes (of_words line helps meaning words) (Err failed_write) out out' err err input input
      help_unwritten text front = record {
        answered = tt;
        fails = inl (is_helps, asks);
        silent = λ few. absurd (omega (arith, few));
        cut = inr (record { answer = help_of text; is = inl (is_helps, asks, refl, refl); text = front; said = 0; beside = Reports-nothing err });
        untouched = λ none. refl;
        unread = λ two. refl;
      }

      -- words that ask for help
      pub Comes-help : (result : Result Ending Failure)
          → IfOk result (λ ending. (ending ≡ Answered) × ((text : List ℕ) × Appends out out' text))
          → IfErr result (λ failure. (failure ≡ out_of_memory) × Keeps out out' ⊎ (failure ≡ failed_write) × ((text : List ℕ) × AppendsFront out out' text))
          → Comes (of_words line helps meaning words) result out out' err err input input
      Comes-help (Ok ending) (is, (text, went)) lacks =
          subst (λ (e : Ending). Comes (of_words line helps meaning words) (Ok e) out out' err err input input) (sym is) (help_written text went)
      Comes-help (Err failure) written (inl (is, kept)) =
          subst (λ (f : Failure). Comes (of_words line helps meaning words) (Err f) out out' err err input input) (sym is) (help_unmade kept)
      Comes-help (Err failure) written (inr (is, (text, front))) =
          subst (λ (f : Failure). Comes (of_words line helps meaning words) (Err f) out out' err err input input) (sym is) (help_unwritten text front)
