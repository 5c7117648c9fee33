-- What `who` means says what it prints.
use Rattle.std.specs.Prelude.{ℕ, List, Option}
use Rattle.clap.specs.Words.{Row, Text}
use Rattle.acl_cli.specs.Commands.{Answer}
use Rattle.acl_reports.specs.Output.{PrintsFront}
use Rattle.acl_listing_queries.specs.WhoMeaning.{who_meaning}
use Rattle.acl_listing_queries.specs.WhoOutput.{WhoPrints, WhoPrintsBy}

abbrev pub WhoAnswersPrint : Type 0
WhoAnswersPrint = (bytes_of : Text → Option (List ℕ)) (input : Option (List ℕ)) (rows : List Row)
    (answer : Answer) → (who_meaning bytes_of input rows).Answers answer
    → WhoPrints bytes_of input rows answer.text

-- if it fails midway
abbrev pub WhoBeginsPrint : Type 0
WhoBeginsPrint = (bytes_of : Text → Option (List ℕ)) (input : Option (List ℕ)) (rows : List Row)
    (answer : Answer) → (who_meaning bytes_of input rows).Begins answer
    → WhoPrintsBy PrintsFront bytes_of input rows answer.text
