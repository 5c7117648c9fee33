use Rattle.std.proofs.Common.{[], ◌∷◌, ◌++◌, ◌∙◌, ap}
use Rattle.acl_broker.specs.declared.end.End.TheVariants.{Open}
use Rattle.acl_broker.specs.Ends.{sent_by}
use Rattle.acl_runs.proofs.WorkerLemmas.{goes_on_then, goes_on_unpolled, goes_on_unmoved}
use Rattle.acl_runs.proofs.worker.submit_waiting.Goals as goal

pub returns-in-Ok-clause-done : goal.returns-in-Ok-clause-done
returns-in-Ok-clause-done g c =
    let submitted = c.in-Ok.ensures in
    goes_on_then _ (Open c.args.end.now) (Open c.loop.end) (Open c.submit.new.self) c.args.printed.now c.loop.printed c.loop.printed (c.args.request ∷ []) c.loop.invariant.0
    (goes_on_unpolled _ (Open c.loop.end) (Open c.submit.new.self) c.loop.printed (c.args.request ∷ []) submitted.pairs
    (submitted.sent ∙ ap (λ request. sent_by (Open c.loop.end) ++ request ∷ []) c.loop.invariant.1) submitted.polled.0)

pub loop-preserved-then-branch : goal.loop-preserved-then-branch
loop-preserved-then-branch g c =
    let refused = c.in-Err.ensures in (
      goes_on_then _ (Open c.args.end.now) (Open c.loop.end) (Open c.print_ready.new.end) c.args.printed.now c.loop.printed c.print_ready.new.printed [] c.loop.invariant.0
          (goes_on_then _ (Open c.loop.end) (Open c.submit.new.self) (Open c.print_ready.new.end) c.loop.printed c.loop.printed c.print_ready.new.printed []
          (goes_on_unmoved _ (Open c.loop.end) (Open c.submit.new.self) c.loop.printed refused.pairs refused.full.1 refused.polled.0) c.in_ok-print_ready.ensures),
      refused.full.0 ∙ c.loop.invariant.1,
    )

pub loop-preserved : goal.loop-preserved
loop-preserved g c =
    let refused = c.in-Err.ensures in (
      goes_on_then _ (Open c.args.end.now) (Open c.loop.end) (Open c.print_ready.new.end) c.args.printed.now c.loop.printed c.print_ready.new.printed [] c.loop.invariant.0
          (goes_on_then _ (Open c.loop.end) (Open c.submit.new.self) (Open c.print_ready.new.end) c.loop.printed c.loop.printed c.print_ready.new.printed []
          (goes_on_unmoved _ (Open c.loop.end) (Open c.submit.new.self) c.loop.printed refused.pairs refused.full.1 refused.polled.0) c.in_ok-print_ready.ensures),
      refused.full.0 ∙ c.loop.invariant.1,
    )
