use Rattle.std.proofs.Common.{inl, inr, subst, sym}
use Rattle.std.proofs.Math.Logic.{⊎_map}
use Rattle.std.proofs.lemmas.Result.{IfErr-weaker, IfOk-weaker, on_err_weaker}
use Rattle.acl_people.specs.Host.{names_of_host}
use Rattle.acl_reports.specs.Reporting.{IsListingFailure}
use Rattle.acl_listing_reach.specs.Asking.{asking_by}
use Rattle.acl_listing_reach.specs.Sources.{Source}
use Rattle.acl_listing_reach.proofs.BetweenLemmas.{front_both, went_both}
use Rattle.acl_listing_reach.proofs.between.report_both.Goals as goal

pub returns-clause-answered : goal.returns-clause-answered
returns-clause-answered g c =
    let before : Source = record {
      name = c.args.before.name.now;
      bytes = g.B.Read.remaining c.args.reader;
      names = names_of_host c.args.before.host.now;
      part = g.T.BlockReporter.part c.args.before.reporter;
      stranger = g.T.BlockReporter.stranger c.args.before.reporter;
    } in
    let after : Source = record {
      name = c.args.after.name.now;
      bytes = g.A.Read.remaining c.args.other;
      names = names_of_host c.args.after.host.now;
      part = g.T.BlockReporter.part c.args.after.reporter;
      stranger = g.T.BlockReporter.stranger c.args.after.reporter;
    } in
    IfOk-weaker c.report_answered.result _ _
    (λ ending went. went_both (asking_by c.args.asking) before after c.in_ok-first.first c.in_ok-second.second c.in_ok-first.ensures.answered c.in_ok-second.ensures.answered ending _ _ _ _ went)
    c.report_answered.ensures.answered

pub returns-clause-cut : goal.returns-clause-cut
returns-clause-cut g c =
    let before : Source = record {
      name = c.args.before.name.now;
      bytes = g.B.Read.remaining c.args.reader;
      names = names_of_host c.args.before.host.now;
      part = g.T.BlockReporter.part c.args.before.reporter;
      stranger = g.T.BlockReporter.stranger c.args.before.reporter;
    } in
    let after : Source = record {
      name = c.args.after.name.now;
      bytes = g.A.Read.remaining c.args.other;
      names = names_of_host c.args.after.host.now;
      part = g.T.BlockReporter.part c.args.after.reporter;
      stranger = g.T.BlockReporter.stranger c.args.after.reporter;
    } in
    on_err_weaker c.report_answered.result
    (⊎_map (λ none. none)
    (front_both (asking_by c.args.asking) before after c.in_ok-first.first c.in_ok-second.second c.in_ok-first.ensures.answered c.in_ok-second.ensures.answered _ _ _ _))
    c.report_answered.ensures.cut

pub returns-clause-failed : goal.returns-clause-failed
returns-clause-failed g c =
    IfErr-weaker c.report_answered.result _ _
    (λ failure lacks. elim lacks [
      | inl memory ↦ inl (subst (IsListingFailure c.args.before.name.now) (sym memory) tt)
      | inr write ↦ inr (inr write)
    ]) c.report_answered.ensures.failed
