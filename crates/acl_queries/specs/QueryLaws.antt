-- How the exit status of a query follows from its words.
use Rattle.std.specs.Prelude.{◌≡◌, ◌≢◌, ◌⊎◌, ◌&&◌, ℕ, Bool, List, [], Option, Result, Ok, Err}
use Rattle.std.specs.Prelude.{if◌then◌else◌}
use Rattle.clap.specs.Words.{App, IsAmong, Kinds, Row, Text, fault_of, matches_of}
use Rattle.clap.specs.declared.error.kind.ErrorKind.{ErrorKind}
use Rattle.acl_cli.specs.Commands.{Ends, of_words}
use Rattle.acl_cli.specs.ErrorOutput.{ErrorText}
use Rattle.acl_cli.specs.Failures.{is_help}
use Rattle.acl_cli.specs.Faults.{Malformed}
use Rattle.acl_queries.specs.Queries.{query_meaning}

-- the status of words that are taken, by the reading of their fields
abbrev pub status_of_reading : {A : Type 0} → Result A Malformed → ℕ
status_of_reading (Ok asked) = 0
status_of_reading (Err fault) = 1

-- and of words in which the parser finds a fault of this kind: wrong usage, or help that is an
-- answer
abbrev pub status_of_kind : Bool → ErrorKind → ℕ
status_of_kind helps kind = if helps && is_help kind then 0 else 2

-- the status is that of words, by the faults that the parser finds in them, and by the reading of
-- their fields
abbrev pub IsStatusOf : {A : Type 0} → Bool → Kinds → Result A Malformed → ℕ → Type 0
IsStatusOf helps kinds reading status =
    ((kinds ≡ []) × (status ≡ status_of_reading reading))
    ⊎ ((kind : ErrorKind) × IsAmong kind kinds × (status ≡ status_of_kind helps kind))

-- a query that ended has the status of its words, unless something is lacking
abbrev pub HasTheStatusOfItsWords : {A : Type 0} → App → Bool → Bool
    → (List Row → Result A Malformed) → (A → List ℕ → Type 0) → Type 0
HasTheStatusOfItsWords line helps located asked_in IsAnswer = (words : List Text) (status : ℕ)
    (out out' : Option (List ℕ)) (err err' : ErrorText) (input input' : Unit {0})
    → Ends (of_words line helps (query_meaning located asked_in IsAnswer) words) status out out'
    err err' input input' → status ≢ 3
    → IsStatusOf helps (fault_of line words) (asked_in (matches_of line words)) status
