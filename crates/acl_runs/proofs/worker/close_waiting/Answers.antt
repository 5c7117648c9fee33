use Rattle.std.proofs.Common.{[]}
use Rattle.acl_broker.specs.declared.end.End.TheVariants.{Open, Closed}
use Rattle.acl_runs.proofs.WorkerLemmas.{goes_on_then, goes_on_unmoved}
use Rattle.acl_runs.proofs.worker.close_waiting.Goals as goal

pub returns-in-Ok : goal.returns-in-Ok
returns-in-Ok g c =
    let end = c.in-Ok.ensures.end in
    goes_on_then _ (Open c.args.end) (Open c.loop.end) (Closed c.in-Ok.closed) c.args.printed.now c.loop.printed c.loop.printed [] c.loop.invariant
    (goes_on_unmoved _ (Open c.loop.end) (Closed c.in-Ok.closed) c.loop.printed c.in-Ok.ensures.pairs end.1 end.2)

pub loop-preserved-then-branch : goal.loop-preserved-then-branch
loop-preserved-then-branch g c =
    let end = c.in-Err.ensures.end in
    goes_on_then _ (Open c.args.end) (Open c.loop.end) (Open c.print_ready.new.end) c.args.printed.now c.loop.printed c.print_ready.new.printed [] c.loop.invariant
    (goes_on_then _ (Open c.loop.end) (Open c.in-Err.back) (Open c.print_ready.new.end) c.loop.printed c.loop.printed c.print_ready.new.printed []
    (goes_on_unmoved _ (Open c.loop.end) (Open c.in-Err.back) c.loop.printed c.in-Err.ensures.pairs end.1 end.2) c.in_ok-print_ready.ensures)

pub loop-preserved : goal.loop-preserved
loop-preserved g c =
    let end = c.in-Err.ensures.end in
    goes_on_then _ (Open c.args.end) (Open c.loop.end) (Open c.print_ready.new.end) c.args.printed.now c.loop.printed c.print_ready.new.printed [] c.loop.invariant
    (goes_on_then _ (Open c.loop.end) (Open c.in-Err.back) (Open c.print_ready.new.end) c.loop.printed c.loop.printed c.print_ready.new.printed []
    (goes_on_unmoved _ (Open c.loop.end) (Open c.in-Err.back) c.loop.printed c.in-Err.ensures.pairs end.1 end.2) c.in_ok-print_ready.ensures)
