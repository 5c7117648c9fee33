-- The meaning of fields whose answer depends on them alone.
use Rattle.std.specs.Prelude.{◌≡◌, ⊤, ℕ, Bool, false, true, List, [], Result, Ok, Err, IsOk}
use Rattle.clap.specs.Words.{Row}
use Rattle.acl_cli.specs.Commands.{Answer, Meaning}
use Rattle.acl_cli.specs.Failures.{Explains}
use Rattle.acl_cli.specs.Faults.{Malformed as MalformedField}
use Rattle.acl_cli.specs.declared.command.Ending.TheVariants.{Answered}
use Rattle.acl_cli.specs.declared.failure.Failure.{Failure}
use Rattle.acl_cli.specs.declared.failure.Failure.TheVariants.{Field, Lacks}
use Rattle.acl_cli.specs.declared.run_fault.RunFault.TheVariants.{Memory, Output}

-- by what the fields ask, and by which texts answer that: they ask something, and this answers it,
-- wholly, with nothing beside it
pub record IsAnswered {A : Type 0} (reading : Result A MalformedField)
    (IsAnswer : A → List ℕ → Type 0) (answer : Answer) : Type 0 where
  pub asked : A
  pub read : reading ≡ Ok asked
  pub answers : IsAnswer asked answer.text
  pub quiet : answer.beside ≡ []
  pub whole : answer.ending ≡ Answered

-- the failure is that of reading the fields, with or without the place of a malformed one; or out
-- of memory
abbrev pub IsFailureOf : {A : Type 0} → Bool → Result A MalformedField → Failure → Type 0
IsFailureOf true reading failure = Explains reading failure
IsFailureOf false reading (Field fault) =
    (malformed : MalformedField) × (reading ≡ Err malformed) × (malformed.fault ≡ fault)
IsFailureOf false reading (Lacks Memory) = ⊤
IsFailureOf false reading _ = ⊥

-- the fields have no answer, since one of them is malformed or memory ran out; or they have one,
-- and it can't be written
abbrev pub FailsFor : {A : Type 0} → Bool → Result A MalformedField → Failure → Type 0
FailsFor located reading (Lacks Output) = IsOk reading
FailsFor located reading failure = IsFailureOf located reading failure

-- a failure reports the place of a malformed field, or not
abbrev pub query_meaning : {A : Type 0} → Bool → (List Row → Result A MalformedField)
    → (A → List ℕ → Type 0) → List Row → Meaning
query_meaning located asked_in IsAnswer rows = record {
  Answers = IsAnswered (asked_in rows) IsAnswer;
  Begins = IsAnswered (asked_in rows) IsAnswer;
  Fails = FailsFor located (asked_in rows);
  inputs = 0;
}
