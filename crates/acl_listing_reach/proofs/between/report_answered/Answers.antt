use Rattle.std.proofs.Common.{rules, ◌∙◌, ◌&&◌, not, Bool, ap, ap₂, refl, subst, sym, List, ℕ}
use Rattle.acl_cli.specs.Commands.{FrontWentOut}
use Rattle.acl_cli.specs.ErrorOutput.{ErrorText, Reports}
use Rattle.acl_cli.specs.Reporting.{is_empty}
use Rattle.acl_reports.proofs.BlocksLemmas.{front_out}
use Rattle.acl_reports.specs.Endings.{ending_of_both, with_difference}
use Rattle.acl_listing_reach.specs.BetweenSteps.{IsBegunBy}
use Rattle.acl_listing_reach.specs.ReachText.{report_text}
use Rattle.acl_listing_reach.specs.Asking.{asking_by}
use Rattle.acl_listing_reach.proofs.between.report_answered.Goals as goal

pub returns-in_err-some-clause-cut : goal.returns-in_err-some-clause-cut
returns-in_err-some-clause-cut g c =
    let asking = asking_by c.args.asking in
    let report = report_text asking c.args.before.now.known c.args.after.now.known in
    let Is = IsBegunBy asking c.args.name.now c.args.before.now c.args.other.now c.args.after.now in
    let said : List ℕ = c.in_ok-said.said.items in
    let first : Reports said c.args.err.now c.write_text.new.self = subst (λ (said : List ℕ). Reports said c.args.err.now c.write_text.new.self) c.as_slice.ensures.value c.write_text.ensures in
    let reports : Reports said c.args.err.now c.report_report.new.err = subst (λ (err : ErrorText). Reports said c.args.err.now err) (sym c.report_report.ensures.beside) first in
    let went : FrontWentOut Is (g.W.Write.contents c.args.out.now) (g.W.Write.contents c.report_report.new.out) c.args.err.now c.report_report.new.err =
    front_out Is _ _ _ _ report said (record { text_is = refl; beside_is = c.in_ok-said.ensures }) c.in_err-some.ensures.cut reports in
    search (rules, went)

pub returns-clause-answered : goal.returns-clause-answered
returns-clause-answered g c =
    let asks = c.args.asking.asks in
    let (text, text_is, appends, some_is) = c.in_ok-some.ensures.written in
    let said : List ℕ = c.in_ok-said.said.items in
    let first : Reports said c.args.err.now c.write_text.new.self = subst (λ (said : List ℕ). Reports said c.args.err.now c.write_text.new.self) c.as_slice.ensures.value c.write_text.ensures in
    let reports : Reports said c.args.err.now c.report_report.new.err = subst (λ (err : ErrorText). Reports said c.args.err.now err) (sym c.report_report.ensures.beside) first in
    record {
      answer = record { text = text; beside = said; ending = c.with_difference.result };
      is = record {
        texts = record { text_is = text_is; beside_is = c.in_ok-said.ensures };
        ending = c.with_difference.ensures
            ∙ ap (λ (some : Bool). with_difference (asks && some) c.ending_of_both-ending.result) some_is
            ∙ ap (with_difference (asks && not (is_empty text))) (c.ending_of_both-ending.ensures ∙ ap₂ ending_of_both c.ending.ensures c.ending-2.ensures);
      };
      ends = refl;
      text = appends;
      beside = reports;
    }
