-- What is reported for two listings by what was answered of each. Private steps, which no public
-- clause cites.
use Rattle.std.specs.Prelude.{◌≡◌, ℕ, List, ◌++◌, ◌&&◌, not}
use Rattle.acl_cli.specs.Commands.{Answer}
use Rattle.acl_cli.specs.Reporting.{is_empty}
use Rattle.acl_reports.specs.Endings.{ending_of_both, with_difference}
use Rattle.acl_reports.specs.Listed.{ending_of, last_lines}
use Rattle.acl_reports.specs.declared.counts.Counts.{Counts}
use Rattle.acl_listing_reach.specs.ReachAnswer.{apart_text}
use Rattle.acl_listing_reach.specs.ReachText.{ReachAsking, report_text}
use Rattle.acl_listing_reach.specs.declared.answered.Answered.{Answered}

-- all that is said at the end of a listing of this name of which so much was counted
abbrev pub closing_by : List ℕ → Counts → List ℕ
closing_by name counts = last_lines name counts.tally counts.strangers

-- what is said of the listings of these names
abbrev pub said_by : List ℕ → Answered → List ℕ → Answered → List ℕ
said_by name before other after = before.said.items ++ closing_by name before.counts
    ++ after.said.items ++ apart_text before.known after.known ++ closing_by other after.counts

-- this is reported and said of them
pub record AreTextsBy (asking : ReachAsking) (name : List ℕ) (before : Answered) (other : List ℕ)
    (after : Answered) (text beside : List ℕ) : Type 0 where
  pub text_is : text ≡ report_text asking before.known after.known
  pub beside_is : beside ≡ said_by name before other after

-- and so it ends
pub record IsAnswerBy (asking : ReachAsking) (name : List ℕ) (before : Answered) (other : List ℕ)
    (after : Answered) (answer : Answer) : Type 0 where
  pub texts : AreTextsBy asking name before other after answer.text answer.beside
  pub ending : answer.ending ≡ with_difference (asking.asks && not (is_empty answer.text))
      (ending_of_both (ending_of before.counts.tally) (ending_of after.counts.tally))

abbrev pub IsBegunBy : ReachAsking → List ℕ → Answered → List ℕ → Answered → Answer → Type 0
IsBegunBy asking name before other after answer =
    AreTextsBy asking name before other after answer.text answer.beside
