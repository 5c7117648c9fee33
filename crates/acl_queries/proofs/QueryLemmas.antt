-- What a query came to that was answered.
use Rattle.std.proofs.Common.{◌≡◌, [], Bool, ℕ, List, Option, Result, Ok, Err, arith, inr, refl}
use Rattle.std.specs.Io.KnownBytes.{Appends}
use Rattle.clap.specs.Words.{Row}
use Rattle.acl_cli.specs.Commands.{Answer, Comes}
use Rattle.acl_cli.specs.ErrorOutput.{ErrorText}
use Rattle.acl_cli.specs.Failures.{failed_write}
use Rattle.acl_cli.specs.Output.{AppendsFront}
use Rattle.acl_cli.specs.declared.command.Ending.TheVariants.{Answered}
use Rattle.acl_cli.specs.Faults.{Malformed}
use Rattle.acl_cli.proofs.ReportingLemmas.{Reports-nothing}
use Rattle.acl_queries.specs.Queries.{FailsFor, IsAnswered, query_meaning}

module _ {A I : Type 0} (located : Bool) (asked_in : List Row → Result A Malformed) (IsAnswer : A → List ℕ → Type 0) (rows : List Row) (asked : A) (read : asked_in rows ≡ Ok asked)
    (text : List ℕ) (answers : IsAnswer asked text) (out out' : Option (List ℕ)) (err : ErrorText) (input : I) where
  abbrev answer : Answer
  answer = record { text = text; beside = []; ending = Answered }

  is_answered : IsAnswered (asked_in rows) IsAnswer answer
  is_answered = record { asked = asked; read = read; answers = answers; quiet = refl; whole = refl }

  -- the answer went out
  pub Comes-written : Appends out out' text → Comes (query_meaning located asked_in IsAnswer rows) (Ok Answered) out out' err err input input
  Comes-written went = record {
    answered = record { answer = answer; is = is_answered; ends = refl; text = went; beside = Reports-nothing err };
    fails = tt;
    silent = tt;
    cut = tt;
    untouched = λ none. refl;
    unread = tt;
  }

  -- a front of it did
  pub Comes-unwritten : AppendsFront out out' text → Comes (query_meaning located asked_in IsAnswer rows) (Err failed_write) out out' err err input input
  Comes-unwritten front = record {
    answered = tt;
    fails = is_read;
    silent = λ few. absurd (omega (arith, few));
    cut = inr (record { answer = answer; is = is_answered; text = front; said = 0; beside = Reports-nothing err });
    untouched = λ none. refl;
    unread = λ two. refl;
  }
    where
      is_read : FailsFor located (asked_in rows) failed_write
      is_read = rw read refl
