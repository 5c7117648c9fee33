-- Failures, by their kinds.
use Rattle.std.proofs.Common.{◌≡◌, ◌≢◌, ◌⊎◌, ◌∙◌, [], ℕ, Bool, true, ap, List, Result, Err, arith, inl, inr, refl, subst, sym}
use Rattle.std.proofs.lemmas.Bool.{true≢false}
use Rattle.clap.specs.Words.{HasKind, IsAmong, Kinds, kind_of}
use Rattle.clap.specs.declared.error.Error.{Error}
use Rattle.clap.specs.declared.error.kind.ErrorKind.{ErrorKind}
use Rattle.clap.specs.declared.error.kind.ErrorKind.TheVariants.{OutOfMemory}
use Rattle.acl_cli.specs.Failures.{AsksForHelp, Explains, IsRefusal, IsUnexplained, is_help, status_of}
use Rattle.acl_cli.specs.declared.failure.Failure.{Failure}
use Rattle.acl_cli.specs.declared.failure.Failure.TheVariants.{CannotRead, Field, Lacks, Malformed, Misuse, Refused, Unread, Usage}
use Rattle.acl_cli.specs.Faults.{Malformed as MalformedField}
use Rattle.acl_cli.specs.declared.run_fault.RunFault.TheVariants.{Memory, NoThread, Output, Stopped}

-- what explains one reading explains another that fails with it
pub Explains-as : {A B : Type 0} (reading : Result A MalformedField) (other : Result B MalformedField) → ((fault : MalformedField) → reading ≡ Err fault → other ≡ Err fault)
    → (failure : Failure) → Explains reading failure → Explains other failure
Explains-as reading other turned (Malformed malformed) is = turned malformed is
Explains-as reading other turned (Field fault) is = absurd is
Explains-as reading other turned (Lacks Memory) is = tt
Explains-as reading other turned (Lacks Output) is = absurd is
Explains-as reading other turned (Lacks Stopped) is = absurd is
Explains-as reading other turned (Lacks NoThread) is = absurd is
Explains-as reading other turned (Usage error) is = absurd is
Explains-as reading other turned (Misuse misuse) is = absurd is
Explains-as reading other turned (Refused refusal) is = absurd is
Explains-as reading other turned (CannotRead name reason) is = absurd is
Explains-as reading other turned (Unread name) is = absurd is

-- the parser's error has one of the kinds, unless memory ran out
among : (kinds : Kinds) (error : Error) → HasKind kinds error → (kind_of error ≡ OutOfMemory → ⊥) → IsAmong (kind_of error) kinds
among kinds error (inl memory) not_memory = absurd (not_memory memory)
among kinds error (inr is) not_memory = is

-- an error that is help is asked for
pub asks_for_help : (kinds : Kinds) (error : Error) → HasKind kinds error → is_help (kind_of error) ≡ true → AsksForHelp kinds
asks_for_help kinds error has help =
    (kind_of error, among kinds error has (λ memory. true≢false (sym help ∙ ap is_help memory)), help)

-- what can't be read for one name can't be for another that it is
pub IsUnexplained-as : (IsName IsOther : List ℕ → Type 0) → ((name : List ℕ) → IsName name → IsOther name) → (failure : Failure) → IsUnexplained IsName failure → IsUnexplained IsOther failure
IsUnexplained-as IsName IsOther as_other (CannotRead refused reason) (is, unknown) = (as_other refused.now is, unknown)
IsUnexplained-as IsName IsOther as_other (Lacks Memory) is = tt
IsUnexplained-as IsName IsOther as_other (Lacks Output) is = absurd is
IsUnexplained-as IsName IsOther as_other (Lacks Stopped) is = absurd is
IsUnexplained-as IsName IsOther as_other (Lacks NoThread) is = absurd is
IsUnexplained-as IsName IsOther as_other (Usage error) is = absurd is
IsUnexplained-as IsName IsOther as_other (Field fault) is = absurd is
IsUnexplained-as IsName IsOther as_other (Misuse misuse) is = absurd is
IsUnexplained-as IsName IsOther as_other (Refused refusal) is = absurd is
IsUnexplained-as IsName IsOther as_other (Malformed malformed) is = absurd is
IsUnexplained-as IsName IsOther as_other (Unread name) is = absurd is

-- what can't be read isn't wrong usage
pub unexplained_not_two : (IsName : List ℕ → Type 0) (failure : Failure) → IsUnexplained IsName failure → status_of failure ≢ 2
unexplained_not_two IsName (Usage error) is two = absurd is
unexplained_not_two IsName (Field fault) is two = absurd is
unexplained_not_two IsName (Misuse misuse) is two = absurd is
unexplained_not_two IsName (CannotRead name reason) is two = absurd (omega (arith, two))
unexplained_not_two IsName (Refused refusal) is two = absurd is
unexplained_not_two IsName (Malformed malformed) is two = absurd is
unexplained_not_two IsName (Unread name) is two = absurd is
unexplained_not_two IsName (Lacks Memory) is two = absurd (omega (arith, two))
unexplained_not_two IsName (Lacks Output) is two = absurd is
unexplained_not_two IsName (Lacks Stopped) is two = absurd is
unexplained_not_two IsName (Lacks NoThread) is two = absurd is

not_among : (kinds : Kinds) (kind : ErrorKind) → IsAmong kind kinds → ¬ (kinds ≡ [])
not_among kinds kind among none = subst (IsAmong kind) none among

-- a refusal of the words is wrong usage, of words that aren't taken, or a lack
pub refusal_status : (helps : Bool) (kinds : Kinds) (failure : Failure) → IsRefusal helps kinds failure → (status_of failure ≡ 3) ⊎ ((status_of failure ≡ 2) × (¬ (kinds ≡ [])))
refusal_status helps kinds (Usage error) (among, other) = inr (refl, not_among kinds (kind_of error) among)
refusal_status helps kinds (Field fault) is = absurd is
refusal_status helps kinds (Misuse misuse) is = absurd is
refusal_status helps kinds (CannotRead name reason) is = absurd is
refusal_status helps kinds (Refused refusal) is = absurd is
refusal_status helps kinds (Malformed malformed) is = absurd is
refusal_status helps kinds (Unread name) is = absurd is
refusal_status helps kinds (Lacks Memory) is = inl refl
refusal_status helps kinds (Lacks Output) is = inl refl
refusal_status helps kinds (Lacks Stopped) is = absurd is
refusal_status helps kinds (Lacks NoThread) is = absurd is
