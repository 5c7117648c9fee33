use Rattle.std.proofs.Common.{[]}
use Rattle.acl_broker.specs.declared.end.End.TheVariants.{Open}
use Rattle.acl_runs.specs.Workers.{GoesOn}
use Rattle.acl_runs.proofs.worker.print_ready.Given as goal

abbrev pub invariant-loop : goal.invariant-loop
invariant-loop g l = GoesOn (g.P.Replies.handling l.setting.replies.now) (Open l.initial.end) l.initial.printed [] (Open l.end) l.printed
