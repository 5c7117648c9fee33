-- Standard output alone says what is reported for a listing: no fault changes it.
use Rattle.std.specs.Prelude.{ℕ, List, Option}
use Rattle.acl_names.specs.Names.{Names}
use Rattle.acl_cli.specs.Commands.{Answer}
use Rattle.acl_reports.specs.Listed.{AnswersNaming, BeginsNaming, Part}
use Rattle.acl_reports.specs.Output.{Prints, PrintsFront}
use Rattle.acl_reports.specs.declared.stranger.Stranger.{Stranger}

abbrev pub AnswersPrint : Type 0
AnswersPrint = (name : List ℕ) (names : Names) (part : List (List ℕ) → List ℕ → Part)
    (stranger : List ℕ → Option Stranger) (bytes : Option (List ℕ)) (answer : Answer)
    → AnswersNaming name names part stranger bytes answer → Prints part bytes answer.text

abbrev pub BegunAnswersPrintFronts : Type 0
BegunAnswersPrintFronts = (name : List ℕ) (names : Names) (part : List (List ℕ) → List ℕ → Part)
    (stranger : List ℕ → Option Stranger) (bytes : Option (List ℕ)) (answer : Answer)
    → BeginsNaming name names part stranger bytes answer → PrintsFront part bytes answer.text
