use Rattle.std.proofs.Common.{[]}
use Rattle.acl_broker.specs.declared.end.End.TheVariants.{Open}
use Rattle.acl_runs.proofs.WorkerLemmas.{goes_on_then, goes_on_polled, goes_on_idle}
use Rattle.acl_runs.proofs.worker.print_ready.Goals as goal

pub returns-in_default : goal.returns-in_default
returns-in_default g c =
    let polled = c.in_default.ensures in
    goes_on_then _ (Open c.args.end.now) (Open c.loop.end) (Open c.poll.new.self) c.args.printed.now c.loop.printed c.loop.printed [] c.loop.invariant
    (goes_on_idle _ (Open c.loop.end) (Open c.poll.new.self) c.loop.printed polled.pairs polled.sent.0 polled.polled)

pub loop-preserved : goal.loop-preserved
loop-preserved g c =
    let polled = c.in-Some.ensures in
    goes_on_then _ (Open c.args.end.now) (Open c.loop.end) (Open c.poll.new.self) c.args.printed.now c.loop.printed c.print.new.printed [] c.loop.invariant
    (goes_on_polled _ (Open c.loop.end) (Open c.poll.new.self) c.loop.printed c.print.new.printed c.in-Some.answer polled.pairs polled.sent.0 polled.polled c.in_ok-print.ensures)
