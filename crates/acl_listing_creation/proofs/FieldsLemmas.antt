-- What is wrong with the name of who creates.
use Rattle.std.proofs.Common.{◌≡◌, List, ℕ, Option, Result, Ok, Err}
use Rattle.clap.specs.Words.{Text}
use Rattle.acl_names.specs.Steps.{◌>>=◌}
use Rattle.acl_cli.specs.Failures.{Explains}
use Rattle.acl_cli.specs.Faults.{Malformed}
use Rattle.acl_cli.specs.Fields.{located}
use Rattle.acl_cli.specs.declared.failure.Failure.{Failure}
use Rattle.acl_cli.specs.declared.field_fault.FieldFault.{FieldFault}
use Rattle.acl_cli.proofs.FailureLemmas.{Explains-as}

-- a field that isn't read isn't read further
refused_on : {A B : Type 0} (place : List ℕ) (word : Option Text) (reading : Result A FieldFault) (next : A → Result B FieldFault) (fault : Malformed)
    → located place word reading ≡ Err fault → located place word (reading >>= next) ≡ Err fault
refused_on place word (Ok value) next fault is = cc
refused_on place word (Err other) next fault is = cc

pub explains_on : {A B : Type 0} (place : List ℕ) (word : Option Text) (reading : Result A FieldFault) (next : A → Result B FieldFault) (failure : Failure)
    → Explains (located place word reading) failure → Explains (located place word (reading >>= next)) failure
explains_on place word reading next failure is =
    Explains-as (located place word reading) (located place word (reading >>= next)) (refused_on place word reading next) failure is
