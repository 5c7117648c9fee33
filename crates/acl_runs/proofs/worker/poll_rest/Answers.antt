use Rattle.std.proofs.Common.{[]}
use Rattle.acl_broker.specs.declared.end.End.TheVariants.{Closed}
use Rattle.acl_runs.proofs.WorkerLemmas.{goes_on_then, goes_on_polled, goes_on_idle}
use Rattle.acl_runs.proofs.worker.poll_rest.Goals as goal

pub loop-preserved-in-Some-poll : goal.loop-preserved-in-Some-poll
loop-preserved-in-Some-poll g c =
    let polled = c.in-Some-poll.ensures in
    goes_on_then _ (Closed c.args.end.now) (Closed c.loop.end) (Closed c.poll.new.self) c.args.printed.now c.loop.printed c.print.new.printed [] c.loop.invariant
    (goes_on_polled _ (Closed c.loop.end) (Closed c.poll.new.self) c.loop.printed c.print.new.printed c.in-Some-poll.answer polled.pairs polled.sent polled.polled c.in_ok-print-in-Some-poll.ensures)

pub loop-preserved : goal.loop-preserved
loop-preserved g c =
    let polled = c.in-None-poll.ensures in
    goes_on_then _ (Closed c.args.end.now) (Closed c.loop.end) (Closed c.poll.new.self) c.args.printed.now c.loop.printed c.loop.printed [] c.loop.invariant
    (goes_on_idle _ (Closed c.loop.end) (Closed c.poll.new.self) c.loop.printed polled.pairs polled.sent polled.polled)
