-- All faults that the program reports: the exit status and the line of each.
use Rattle.std.specs.Prelude.{◌≡◌, ◌⊎◌, ⊤, ℕ, Bool, false, true, ◌&&◌, List, [], Option, Some}
use Rattle.std.specs.Prelude.{None, Result, Err, ◌++◌, codes, option_map, unwrap_or}
use Rattle.std.specs.declared.io.ErrorKind.{ErrorKind as SystemKind}
use Rattle.std.specs.declared.io.ErrorKind.TheVariants as system
use Rattle.clap.specs.Words.{IsAmong, Kinds, Text, kind_of}
use Rattle.clap.specs.declared.error.Error.{Error}
use Rattle.clap.specs.declared.error.kind.ErrorKind.{ErrorKind}
use Rattle.clap.specs.declared.error.kind.ErrorKind.TheVariants.{OutOfMemory, DisplayHelp}
use Rattle.clap.specs.declared.error.kind.ErrorKind.TheVariants.{DisplayVersion}
use Rattle.acl_cli.specs.ErrorOutput.{line_of_words}
use Rattle.acl_cli.specs.Faults.{field_fault_words, malformed_words, misuse_words}
use Rattle.acl_cli.specs.Faults.{Malformed as MalformedField}
use Rattle.acl_cli.specs.Refusals.{refusal_words}
use Rattle.acl_cli.specs.RunFaults.{run_fault_words}
use Rattle.acl_cli.specs.declared.failure.Failure.{Failure}
use Rattle.acl_cli.specs.declared.failure.Failure.TheVariants.{CannotRead, Field, Lacks, Malformed}
use Rattle.acl_cli.specs.declared.failure.Failure.TheVariants.{Misuse, Refused, Unread, Usage}
use Rattle.acl_cli.specs.declared.field_fault.FieldFault.{FieldFault}
use Rattle.acl_cli.specs.declared.reason.Reason.{Reason}
use Rattle.acl_cli.specs.declared.reason.Reason.TheVariants.{Unknown, NotFound, PermissionDenied}
use Rattle.acl_cli.specs.declared.reason.Reason.TheVariants.{NotADirectory, IsADirectory}
use Rattle.acl_cli.specs.declared.run_fault.RunFault.TheVariants.{Memory, Output}

-- 1: something is malformed; 2: wrong usage; 3: something failed or is lacking
abbrev pub status_of : Failure → ℕ
status_of (Usage error) = 2
status_of (Misuse misuse) = 2
status_of (Field fault) = 1
status_of (Malformed malformed) = 1
status_of (CannotRead name reason) = 1
status_of (Refused refusal) = 1
status_of (Unread name) = 3
status_of (Lacks lack) = 3

-- the reason that an error of this kind gives, which the system reports
abbrev pub reason_of : SystemKind → Reason
reason_of system.NotFound = NotFound
reason_of system.PermissionDenied = PermissionDenied
reason_of system.NotADirectory = NotADirectory
reason_of system.IsADirectory = IsADirectory
reason_of kind = Unknown

abbrev pub reason_words : Reason → List ℕ
reason_words Unknown = []
reason_words NotFound = codes ": No such file or directory"
reason_words PermissionDenied = codes ": Permission denied"
reason_words NotADirectory = codes ": Not a directory"
reason_words IsADirectory = codes ": Is a directory"

-- what follows `aclctl: ` on the line; the parser's text isn't fixed
abbrev pub words_of : Failure → Option (List ℕ)
words_of (Usage error) = None
words_of (Misuse misuse) = Some (misuse_words misuse)
words_of (Field fault) = Some (field_fault_words fault)
words_of (Malformed malformed) = Some (malformed_words malformed)
words_of (CannotRead name reason) = Some (codes "cannot read " ++ name.now ++ reason_words reason)
words_of (Refused refusal) = Some (refusal_words refusal)
words_of (Unread name) = Some (codes "cannot read " ++ name.now)
words_of (Lacks lack) = Some (codes "run: " ++ run_fault_words lack)

abbrev pub line_of : Failure → Option (List ℕ)
line_of failure = option_map line_of_words (words_of failure)

abbrev pub out_of_memory : Failure
out_of_memory = Lacks Memory

abbrev pub failed_write : Failure
failed_write = Lacks Output

-- memory for an answer is lacking, or it can't be written
abbrev pub IsAnswerLack : Failure → Type 0
IsAnswerLack failure = (failure ≡ out_of_memory) ⊎ (failure ≡ failed_write)

-- a refusal by the parser is wrong usage, unless memory ran out
abbrev pub BecomesFailure : Error → Failure → Type 0
BecomesFailure error (Usage same) = (same ≡ error) × (kind_of error ≡ OutOfMemory → ⊥)
BecomesFailure error (Lacks Memory) = kind_of error ≡ OutOfMemory
BecomesFailure error _ = ⊥

-- the failure is that of the reading of a text, or out of memory
abbrev pub ExplainsText : {A : Type 0} → Result A FieldFault → Failure → Type 0
ExplainsText reading (Field fault) = reading ≡ Err fault
ExplainsText reading (Lacks Memory) = ⊤
ExplainsText reading _ = ⊥

-- and that of the reading of a field
abbrev pub Explains : {A : Type 0} → Result A MalformedField → Failure → Type 0
Explains reading (Malformed malformed) = reading ≡ Err malformed
Explains reading (Lacks Memory) = ⊤
Explains reading _ = ⊥

-- the failure of the word at a place
abbrev pub failure_at : List ℕ → Option Text → Failure → Failure
failure_at place word (Field fault) =
    Malformed (record { place = place; word = unwrap_or word []; fault = fault })
failure_at place word failure = failure

-- the failure without its place
abbrev pub without_place : Failure → Failure
without_place (Malformed malformed) = Field malformed.fault
without_place failure = failure

-- the input of this name fails to be read: it can't be opened or read, is too long, or memory ran
-- out
abbrev pub IsReadFailure : List ℕ → Failure → Type 0
IsReadFailure name (CannotRead refused reason) = refused.now ≡ name
IsReadFailure name (Lacks Memory) = ⊤
IsReadFailure name _ = ⊥

-- an input of one of these names fails to be read, and the reason isn't reported; or memory ran out
abbrev pub IsUnexplained : (List ℕ → Type 0) → Failure → Type 0
IsUnexplained IsName (CannotRead refused reason) = IsName refused.now × (reason ≡ Unknown)
IsUnexplained IsName (Lacks Memory) = ⊤
IsUnexplained IsName _ = ⊥

-- the words ask the parser for help, or for the version
abbrev pub is_help : ErrorKind → Bool
is_help DisplayHelp = true
is_help DisplayVersion = true
is_help kind = false

-- the words, in which the parser finds these faults, ask for help
abbrev pub AsksForHelp : Kinds → Type 0
AsksForHelp kinds = (kind : ErrorKind) × IsAmong kind kinds × (is_help kind ≡ true)

-- the parser, which finds these faults in the words, refuses them, or memory ran out; or help, if
-- it is an answer, can't be written
abbrev pub IsRefusal : Bool → Kinds → Failure → Type 0
IsRefusal helps kinds (Usage error) =
    IsAmong (kind_of error) kinds × ((helps && is_help (kind_of error)) ≡ false)
IsRefusal helps kinds (Lacks Memory) = ⊤
IsRefusal helps kinds (Lacks Output) = (helps ≡ true) × AsksForHelp kinds
IsRefusal helps kinds _ = ⊥
