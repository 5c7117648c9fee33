use Rattle.std.proofs.lemmas.Result.{on_err_weaker}
use Rattle.acl_listing_reach.specs.ReachText.{report_text}
use Rattle.acl_listing_reach.specs.Asking.{asking_by}
use Rattle.acl_listing_reach.proofs.ReportLemmas.{front_whole}
use Rattle.acl_listing_reach.proofs.report.report_report.Goals as goal

pub returns-clause-cut : goal.returns-clause-cut
returns-clause-cut g c =
    on_err_weaker c.report_each.result
    (λ cut. front_whole _ _ (report_text (asking_by c.args.asking) c.args.before.now c.args.after.now) cut.0 cut.2.0.0 cut.2.0.1 cut.3) c.report_each.ensures.cut
