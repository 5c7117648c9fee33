use Rattle.std.proofs.Common.{map, None}
use Rattle.acl_runs.specs.Handling.{keeping_all}
use Rattle.acl_runs.specs.RunReport.{IsReport}
use Rattle.acl_runs.specs.Rounds.{AreRounds}
use Rattle.acl_runs.specs.RoundsState.{IsReported}
use Rattle.acl_runs.proofs.RoundsReportLemmas.{are_rounds, is_report, all_rest, if_ok}
use Rattle.acl_runs.proofs.rounds.serve_at_most.Goals as goal

pub returns-clause-report : goal.returns-clause-report
returns-clause-report g c =
    let rest = g.C.RequestSource.rest in
    let handling = g.P.Replies.handling c.args.replies.now in
    let few = all_rest rest c.args.most c.args.sessions.items c.requires.few in
    if_ok c.report_all.result (IsReported c.take_rounds.new.run) (IsReport g.S.Service.next g.S.Service.reply (keeping_all handling) c.args.service None (map rest c.args.sessions.items))
    (λ report reported. is_report rest g.S.Service.next g.S.Service.reply handling c.args.service
    c.args.sessions.items c.args.most c.in_ok-begun.begun c.take_rounds.new.run report
    c.in_ok-begun.ensures c.in_ok-take_rounds.ensures reported few)
    c.report_all.ensures

pub returns-clause-journal : goal.returns-clause-journal
returns-clause-journal g c =
    let rest = g.C.RequestSource.rest in
    let handling = g.P.Replies.handling c.args.replies.now in
    let few = all_rest rest c.args.most c.args.sessions.items c.requires.few in
    if_ok c.report_all.result (IsReported c.take_rounds.new.run) (λ report. AreRounds (map rest c.args.sessions.items) report.journal.items)
    (λ report reported. are_rounds rest g.S.Service.next g.S.Service.reply handling c.args.service
    c.args.sessions.items c.args.most c.in_ok-begun.begun c.take_rounds.new.run report
    c.in_ok-begun.ensures c.in_ok-take_rounds.ensures reported few)
    c.report_all.ensures
