-- What the words of a command mean, and how a command may end.
use Rattle.std.specs.Prelude.{◌≡◌, ◌≤◌, ◌⊎◌, ℕ, Bool, true, List, [], take, Option, Result, Ok, Err}
use Rattle.std.specs.Prelude.{IfErr, IfOk, IfSome, OnErr}
use Rattle.std.specs.Io.KnownBytes.{Appends, Keeps}
use Rattle.clap.specs.Words.{App, Kinds, Row, Text, fault_of, matches_of}
use Rattle.acl_cli.specs.CommandLine.{Takes}
use Rattle.acl_cli.specs.ErrorOutput.{ErrorText, Reports}
use Rattle.acl_cli.specs.Failures.{AsksForHelp, IsRefusal, line_of, status_of}
use Rattle.acl_cli.specs.Output.{AppendsFront}
use Rattle.acl_cli.specs.declared.command.Ending.{Ending}
use Rattle.acl_cli.specs.declared.command.Ending.TheVariants.{Answered, InPart, Differs}
use Rattle.acl_cli.specs.declared.failure.Failure.{Failure}

-- the answer of a command: standard output, standard error, and how it ends
pub record Answer : Type 0 where
  pub text : List ℕ
  pub beside : List ℕ
  pub ending : Ending

-- 0: answered; 4: answered in part; 5: there is a difference, and the words ask for this status
abbrev pub status_of_ending : Ending → ℕ
status_of_ending Answered = 0
status_of_ending InPart = 4
status_of_ending Differs = 5

-- the meaning of words, with these files and this standard input
pub record Meaning : Type 1 where
  -- their answers; and those of which a prefix may be written before a failure
  pub Answers : Answer → Type 0
  pub Begins : Answer → Type 0
  -- their failures, without an answer or after part of it
  pub Fails : Failure → Type 0
  -- how many times they name standard input
  pub inputs : ℕ

-- such an answer was written, and ended in this way
pub record WentOut (Is : Answer → Type 0) (ending : Ending) (out out' : Option (List ℕ))
    (err err' : ErrorText) : Type 0 where
  pub answer : Answer
  pub is : Is answer
  pub ends : answer.ending ≡ ending
  pub text : Appends out out' answer.text
  pub beside : Reports answer.beside err err'

-- a prefix of both texts of such an answer was written
pub record FrontWentOut (Is : Answer → Type 0) (out out' : Option (List ℕ))
    (err err' : ErrorText) : Type 0 where
  pub answer : Answer
  pub is : Is answer
  pub text : AppendsFront out out' answer.text
  pub said : ℕ
  pub beside : Reports (take said answer.beside) err err'

-- nothing was written
abbrev pub NothingWentOut : Option (List ℕ) → Option (List ℕ) → ErrorText → ErrorText → Type 0
NothingWentOut out out' err err' = Keeps out out' × (err' ≡ err)

-- a command with this meaning has this result, before a failure is reported
pub record Comes {I : Type 0} (meaning : Meaning) (result : Result Ending Failure)
    (out out' : Option (List ℕ)) (err err' : ErrorText) (input input' : I) : Type 0 where
  pub answered : IfOk result (λ ending. WentOut meaning.Answers ending out out' err err')
  pub fails : IfErr result meaning.Fails
  pub silent : IfErr result (λ failure. status_of failure ≤ 2 → NothingWentOut out out' err err')
  pub cut : OnErr result (NothingWentOut out out' err err'
      ⊎ FrontWentOut meaning.Begins out out' err err')
  pub untouched : meaning.inputs ≡ 0 → input' ≡ input
  pub unread : IfErr result (λ failure. status_of failure ≡ 2 → input' ≡ input)

-- a command's result was reported, with this exit status: for a failure its line, unless the parser
-- wrote it
abbrev pub IsReported : Result Ending Failure → ℕ → ErrorText → ErrorText → Type 0
IsReported (Ok ending) status err err' = (status ≡ status_of_ending ending) × (err' ≡ err)
IsReported (Err failure) status err err' =
    (status ≡ status_of failure) × IfSome (line_of failure) (λ line. Reports line err err')

-- a command with this meaning ended with this exit status: it had a result, and that was reported
pub record Ends {I : Type 0} (meaning : Meaning) (status : ℕ) (out out' : Option (List ℕ))
    (err err' : ErrorText) (input input' : I) : Type 0 where
  pub result : Result Ending Failure
  pub between : ErrorText
  pub comes : Comes meaning result out out' err between input input'
  pub reported : IsReported result status between err'

-- help is an answer to words in which the parser finds these faults; its text isn't fixed
abbrev pub IsHelp : Bool → Kinds → Answer → Type 0
IsHelp helps kinds answer = (helps ≡ true) × AsksForHelp kinds × (answer.beside ≡ [])
    × (answer.ending ≡ Answered)

-- the meaning of words for a command with this line, for which help may be an answer: the parser of
-- the line refuses them, or takes them, and then the fields that it finds have this meaning
abbrev pub of_words : App → Bool → (List Row → Meaning) → List Text → Meaning
of_words line helps meaning words =
    let kinds = fault_of line words in
    let fields = meaning (matches_of line words) in
    record {
      Answers = λ answer. IsHelp helps kinds answer ⊎ (Takes line words × fields.Answers answer);
      Begins = λ answer. IsHelp helps kinds answer ⊎ (Takes line words × fields.Begins answer);
      Fails = λ failure. IsRefusal helps kinds failure ⊎ (Takes line words × fields.Fails failure);
      inputs = fields.inputs;
    }
