-- Fields that stand somewhere.
use Rattle.std.proofs.Common.{◌≡◌, List, ℕ, Option, Result, Ok, Err}
use Rattle.clap.specs.Words.{Text}
use Rattle.acl_cli.specs.Fields.{located}
use Rattle.acl_cli.specs.declared.field_fault.FieldFault.{FieldFault}

-- what is read somewhere is read
pub located-ok : {A : Type 0} (place : List ℕ) (word : Option Text) (reading : Result A FieldFault) (value : A) → located place word reading ≡ Ok value → reading ≡ Ok value
located-ok place word (Ok other) value is = cc
located-ok place word (Err fault) value is = cc

-- and what is read is read there
pub located-of : {A : Type 0} (place : List ℕ) (word : Option Text) (reading : Result A FieldFault) (value : A) → reading ≡ Ok value → located place word reading ≡ Ok value
located-of place word (Ok other) value is = cc
located-of place word (Err fault) value is = cc
