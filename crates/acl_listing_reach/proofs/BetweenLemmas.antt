-- What was answered of two listings, as an answer about both.
use Rattle.std.proofs.Common.{◌≡◌, ◌∙◌, ◌++◌, ◌&&◌, not, ℕ, List, [], Option, None, Some, ap, ap₂, refl, subst, sym}
use Rattle.std.specs.Prelude.{IfSome}
use Rattle.acl_cli.specs.Commands.{Answer, FrontWentOut, WentOut}
use Rattle.acl_cli.specs.ErrorOutput.{ErrorText}
use Rattle.acl_cli.specs.Reporting.{is_empty}
use Rattle.acl_cli.specs.declared.command.Ending.{Ending}
use Rattle.acl_listings.specs.Cursor.{blocks_to_come}
use Rattle.acl_listings.specs.Listing.{Block}
use Rattle.acl_reports.specs.Endings.{ending_of_both, with_difference}
use Rattle.acl_reports.specs.Listed.{ending_of, items_after, last_lines}
use Rattle.acl_reports.specs.declared.strangers.Strangers.{Strangers}
use Rattle.acl_reports.specs.declared.tally.Tally.{Tally}
use Rattle.acl_listing_reach.specs.AnsweredSteps.{AreAnswered}
use Rattle.acl_listing_reach.specs.BetweenSteps.{AreTextsBy, IsAnswerBy, IsBegunBy, closing_by}
use Rattle.acl_listing_reach.specs.Once.{At, part_once}
use Rattle.acl_listing_reach.specs.ReachAnswer.{IsReachAnswer, IsReachBegun, IsReport, Side, apart_text, closing_in, paths_in, tally_in}
use Rattle.acl_listing_reach.specs.ReachText.{ReachAsking, report_text}
use Rattle.acl_listing_reach.specs.Sources.{OfSources, Source, side_of}
use Rattle.acl_listing_reach.specs.declared.answered.Answered.{Answered}

-- this is answered of a listing
abbrev pub IsAnsweredSide : Side → Answered → Type 0
IsAnsweredSide side answered = AreAnswered side.name side.names side.stranger side.items answered.known answered.said.items answered.counts

-- what is said at its end
closing_as : (side : Side) (answered : Answered) → IsAnsweredSide side answered → closing_by side.name answered.counts ≡ closing_in side
closing_as side answered is = ap₂ (λ (tally : Tally) (strangers : Strangers). last_lines side.name tally strangers) is.tally_is is.strangers_are

module _ (asking : ReachAsking) (before after : Side) (first second : Answered) (one : IsAnsweredSide before first) (two : IsAnsweredSide after second) where
  abbrev said : List At → List At → List ℕ → List ℕ → List ℕ
  said known others last other = first.said.items ++ last ++ second.said.items ++ apart_text known others ++ other

  pub report_of : (text beside : List ℕ) → AreTextsBy asking before.name first after.name second text beside → IsReport asking before after text beside
  report_of text beside texts = record {
    text_is = texts.text_is ∙ ap (λ known. report_text asking known second.known) one.known_is ∙ ap (report_text asking (paths_in before)) two.known_is;
    first = first.said.items;
    first_are = one.said_are;
    second = second.said.items;
    second_are = two.said_are;
    beside_is = texts.beside_is
        ∙ ap (λ last. said first.known second.known last (closing_by after.name second.counts)) (closing_as before first one)
        ∙ ap (said first.known second.known (closing_in before)) (closing_as after second two)
        ∙ ap (λ known. said known second.known (closing_in before) (closing_in after)) one.known_is
        ∙ ap (λ known. said (paths_in before) known (closing_in before) (closing_in after)) two.known_is;
  }

  pub answer_of : (answer : Answer) → IsAnswerBy asking before.name first after.name second answer → IsReachAnswer asking before after answer
  answer_of answer is = record {
    report = report_of answer.text answer.beside is.texts;
    ending = is.ending
        ∙ ap (λ tally. with_difference (asking.asks && not (is_empty answer.text)) (ending_of_both (ending_of tally) (ending_of second.counts.tally))) one.tally_is
        ∙ ap (λ tally. with_difference (asking.asks && not (is_empty answer.text)) (ending_of_both (ending_of (tally_in before)) (ending_of tally))) two.tally_is;
  }

-- of a listing, if its bytes are known
abbrev pub IsAnsweredSource : Source → Answered → Type 0
IsAnsweredSource source answered = IfSome (blocks_to_come 1 source.bytes) (λ blocks.
    AreAnswered source.name source.names source.stranger (items_after (part_once source.part) [] blocks) answered.known answered.said.items answered.counts)

module _ (asking : ReachAsking) (before after : Source) (first second : Answered) (one : IsAnsweredSource before first) (two : IsAnsweredSource after second) where
  of_both : (Is : Side → Side → Answer → Type 0) (answer : Answer)
      → ((side other : Side) → side.name ≡ before.name → other.name ≡ after.name → IsAnsweredSide side first → IsAnsweredSide other second → Is side other answer)
      → OfSources Is before after answer
  of_both Is answer each = by (blocks_to_come 1 before.bytes) (blocks_to_come 1 after.bytes) one two
    where
      by : (coming others : Option (List Block)) → IfSome coming (λ blocks. IsAnsweredSide (side_of before blocks) first) → IfSome others (λ blocks. IsAnsweredSide (side_of after blocks) second)
          → IfSome coming (λ blocks. IfSome others (λ others. Is (side_of before blocks) (side_of after others) answer))
      by None others one two = tt
      by (Some blocks) None one two = tt
      by (Some blocks) (Some others) one two = each (side_of before blocks) (side_of after others) refl refl one two

  answer_both : (answer : Answer) → IsAnswerBy asking before.name first after.name second answer → OfSources (IsReachAnswer asking) before after answer
  answer_both answer is = of_both (IsReachAnswer asking) answer (λ side other same same_other one two. answer_of asking side other first second one two answer
      (subst (λ name. IsAnswerBy asking name first other.name second answer) (sym same) (subst (λ name. IsAnswerBy asking before.name first name second answer) (sym same_other) is)))

  begun_both : (answer : Answer) → IsBegunBy asking before.name first after.name second answer → OfSources (IsReachBegun asking) before after answer
  begun_both answer is = of_both (IsReachBegun asking) answer (λ side other same same_other one two. report_of asking side other first second one two answer.text answer.beside
      (subst (λ name. IsBegunBy asking name first other.name second answer) (sym same) (subst (λ name. IsBegunBy asking before.name first name second answer) (sym same_other) is)))

  pub went_both : (ending : Ending) (out out' : Option (List ℕ)) (err err' : ErrorText) → WentOut (IsAnswerBy asking before.name first after.name second) ending out out' err err'
      → WentOut (OfSources (IsReachAnswer asking) before after) ending out out' err err'
  went_both ending out out' err err' went = record { answer = went.answer; is = answer_both went.answer went.is; ends = went.ends; text = went.text; beside = went.beside }

  pub front_both : (out out' : Option (List ℕ)) (err err' : ErrorText) → FrontWentOut (IsBegunBy asking before.name first after.name second) out out' err err'
      → FrontWentOut (OfSources (IsReachBegun asking) before after) out out' err err'
  front_both out out' err err' went = record { answer = went.answer; is = begun_both went.answer went.is; text = went.text; said = went.said; beside = went.beside }
