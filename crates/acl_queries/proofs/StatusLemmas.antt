-- The exit status of a query, by its words.
use Rattle.std.proofs.Common.{◌≡◌, ◌≢◌, ◌∙◌, [], ℕ, Bool, false, true, List, Option, Result, Ok, Err, ap, inl, inr, refl, sym}
use Rattle.clap.specs.Words.{App, Kinds, Row, fault_of, kind_of, matches_of}
use Rattle.clap.specs.declared.error.kind.ErrorKind.{ErrorKind}
use Rattle.acl_cli.specs.Commands.{Comes, IsReported, of_words, status_of_ending}
use Rattle.acl_cli.specs.ErrorOutput.{ErrorText}
use Rattle.acl_cli.specs.Failures.{IsRefusal, is_help, status_of}
use Rattle.acl_cli.specs.declared.command.Ending.{Ending}
use Rattle.acl_cli.specs.declared.failure.Failure.{Failure}
use Rattle.acl_cli.specs.declared.failure.Failure.TheVariants.{CannotRead, Field, Lacks, Malformed, Misuse, Refused, Unread, Usage}
use Rattle.acl_cli.specs.Faults.{Malformed as MalformedField}
use Rattle.acl_queries.specs.Queries.{FailsFor, query_meaning}
use Rattle.acl_queries.specs.QueryLaws.{HasTheStatusOfItsWords, IsStatusOf, status_of_kind, status_of_reading}

-- help that is an answer has the status 0
helped : (helps : Bool) (kind : ErrorKind) → helps ≡ true → is_help kind ≡ true → 0 ≡ status_of_kind helps kind
helped helps kind is asks = rw (is, asks) refl

module _ {A : Type 0} (helps : Bool) (kinds : Kinds) (reading : Result A MalformedField) where
  -- what the parser refuses has the status 2, unless memory ran out
  of_refusal : (failure : Failure) → IsRefusal helps kinds failure → status_of failure ≢ 3 → IsStatusOf helps kinds reading (status_of failure)
  of_refusal (Usage error) (among, other) ended = inr (kind_of error, among, rw other refl)
  of_refusal (Lacks lack) is ended = absurd (ended refl)
  of_refusal (Misuse misuse) is ended = absurd is
  of_refusal (Field fault) is ended = absurd is
  of_refusal (Malformed malformed) is ended = absurd is
  of_refusal (CannotRead name reason) is ended = absurd is
  of_refusal (Refused refusal) is ended = absurd is
  of_refusal (Unread name) is ended = absurd is

  -- and fields that don't read have that of their reading, unless something lacks
  of_fields : (located : Bool) (failure : Failure) → kinds ≡ [] → FailsFor located reading failure → status_of failure ≢ 3 → IsStatusOf helps kinds reading (status_of failure)
  of_fields true (Malformed malformed) none is ended = inl (none, ap status_of_reading (sym is))
  of_fields false (Field fault) none (malformed, is, same) ended = inl (none, ap status_of_reading (sym is))
  of_fields located (Lacks lack) none is ended = absurd (ended refl)
  of_fields true (Usage error) none is ended = absurd is
  of_fields true (Misuse misuse) none is ended = absurd is
  of_fields true (Field fault) none is ended = absurd is
  of_fields true (CannotRead name reason) none is ended = absurd is
  of_fields true (Refused refusal) none is ended = absurd is
  of_fields true (Unread name) none is ended = absurd is
  of_fields false (Usage error) none is ended = absurd is
  of_fields false (Misuse misuse) none is ended = absurd is
  of_fields false (Malformed malformed) none is ended = absurd is
  of_fields false (CannotRead name reason) none is ended = absurd is
  of_fields false (Refused refusal) none is ended = absurd is
  of_fields false (Unread name) none is ended = absurd is

module _ {A : Type 0} (line : App) (helps located : Bool) (asked_in : List Row → Result A MalformedField) (IsAnswer : A → List ℕ → Type 0) (words : List (List ℕ)) where
  abbrev kinds : Kinds
  kinds = fault_of line words

  abbrev reading : Result A MalformedField
  reading = asked_in (matches_of line words)

  by_result : (result : Result Ending Failure) (status : ℕ) (out out' : Option (List ℕ)) (err err' reported_err : ErrorText) (input input' : Unit {0})
      → Comes (of_words line helps (query_meaning located asked_in IsAnswer) words) result out out' err err' input input' → IsReported result status err' reported_err
      → status ≢ 3 → IsStatusOf helps kinds reading status
  by_result (Ok ending) status out out' err err' reported_err input input' comes reported ended =
      let went = comes.answered in
      of_answer went.is (reported.0 ∙ ap status_of_ending (sym went.ends))
    where
      of_answer : (of_words line helps (query_meaning located asked_in IsAnswer) words).Answers comes.answered.answer → status ≡ status_of_ending comes.answered.answer.ending → IsStatusOf helps kinds reading status
      of_answer (inl (is, (kind, among, asks), quiet, whole)) is_status = inr (kind, among, is_status ∙ ap status_of_ending whole ∙ helped helps kind is asks)
      of_answer (inr (taken, answered)) is_status = inl (taken, is_status ∙ ap status_of_ending answered.whole ∙ ap status_of_reading (sym answered.read))
  by_result (Err failure) status out out' err err' reported_err input input' comes reported ended = rw reported.0 (of_failure comes.fails)
    where
      ends : status_of failure ≢ 3
      ends three = ended (reported.0 ∙ three)

      of_failure : (of_words line helps (query_meaning located asked_in IsAnswer) words).Fails failure → IsStatusOf helps kinds reading (status_of failure)
      of_failure (inl refused) = of_refusal helps kinds reading failure refused ends
      of_failure (inr (taken, is)) = of_fields helps kinds reading located failure taken is ends

pub the_status_of_its_words : {A : Type 0} (line : App) (helps located : Bool) (asked_in : List Row → Result A MalformedField) (IsAnswer : A → List ℕ → Type 0) → HasTheStatusOfItsWords line helps located asked_in IsAnswer
the_status_of_its_words line helps located asked_in IsAnswer words status out out' err err' input input' ends =
    by_result line helps located asked_in IsAnswer words ends.result status out out' err ends.between err' input input' ends.comes ends.reported
