use Rattle.acl_runs.proofs.WorkerLemmas.{is_finished}
use Rattle.acl_runs.proofs.worker.work_through.Goals as goal

pub returns : goal.returns
returns g c =
    let first = c.new-printed in
    let polled = c.in_ok-poll_rest.ensures in
    is_finished _ c.args.end c.submit_all.new.end c.in_ok-end.end c.poll_rest.new.end first.result
    c.submit_all.new.printed c.close_waiting.new.printed c.poll_rest.new.printed
    c.args.setting.now.max_errors (g.C.RequestSource.rest c.args.requests) c.in-Ok.submitted
    c.requires.fresh first.ensures.answers first.ensures.output first.ensures.left c.in-Ok.ensures c.in_ok-end.ensures polled.goes_on polled.done
