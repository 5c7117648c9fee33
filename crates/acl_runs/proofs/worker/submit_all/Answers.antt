use Rattle.std.proofs.Common.{◌≡◌, ◌+◌, [], ◌∷◌, ap, length, arith, refl, ◌∙◌, option_to_list, ◌++◌}
use Rattle.acl_broker.specs.declared.end.End.TheVariants.{Open}
use Rattle.acl_runs.proofs.WorkerLemmas.{submits_less, advances_by_one, advances_then}
use Rattle.acl_runs.proofs.worker.submit_all.Goals as goal

pub returns-then-not-branch : goal.returns-then-not-branch
returns-then-not-branch g c =
    submits_less _ (Open c.args.end.now) (Open c.loop.end)
    (Open c.submit_waiting.new.end) c.args.printed.now c.loop.printed c.submit_waiting.new.printed
    (g.C.RequestSource.rest c.args.requests) (g.C.RequestSource.rest c.loop.requests)
    c.in-Some-next.request c.in_ok-submit_waiting.field-0 (c.loop.nth + 1)
    c.loop.invariant.1 c.in_ok-submit_waiting.ensures.done c.in_ok-submit_waiting.ensures.over c.if-not-branch.true

pub loop-preserved : goal.loop-preserved
loop-preserved g c =
    let next : g.C.RequestSource.rest c.loop.requests ≡ c.in-Some-next.request ∷ g.C.RequestSource.rest c.next-in-loop.new.self =
    c.in-Ok.ensures.next ∙ ap (λ next. option_to_list next ++ g.C.RequestSource.rest c.next-in-loop.new.self) c.in-Some-next.is in (
      omega (arith, c.loop.invariant.0, ap length next),
      advances_by_one _ (Open c.args.end.now) (Open c.loop.end)
          (Open c.submit_waiting.new.end) c.args.printed.now c.loop.printed c.submit_waiting.new.printed
          (g.C.RequestSource.rest c.args.requests) (g.C.RequestSource.rest c.loop.requests)
          (g.C.RequestSource.rest c.next-in-loop.new.self) c.in-Some-next.request c.in_ok-submit_waiting.field-0
          c.loop.invariant.1 next c.in_ok-submit_waiting.ensures.done c.if-not-branch.false,
    )

pub loop-preserved-in_ok-print_ready : goal.loop-preserved-in_ok-print_ready
loop-preserved-in_ok-print_ready g c =
    let next : g.C.RequestSource.rest c.loop.requests ≡ c.in-Some-next.request ∷ g.C.RequestSource.rest c.next-in-loop.new.self =
    c.in-Ok.ensures.next ∙ ap (λ next. option_to_list next ++ g.C.RequestSource.rest c.next-in-loop.new.self) c.in-Some-next.is in (
      omega (arith, c.loop.invariant.0, ap length next),
      advances_then _ (Open c.args.end.now) (Open c.submit_waiting.new.end)
          (Open c.print_ready.new.end) c.args.printed.now c.submit_waiting.new.printed
          c.print_ready.new.printed (g.C.RequestSource.rest c.args.requests)
          (g.C.RequestSource.rest c.next-in-loop.new.self) (g.C.RequestSource.rest c.next-in-loop.new.self) []
          (advances_by_one _ (Open c.args.end.now) (Open c.loop.end)
          (Open c.submit_waiting.new.end) c.args.printed.now c.loop.printed c.submit_waiting.new.printed
          (g.C.RequestSource.rest c.args.requests) (g.C.RequestSource.rest c.loop.requests)
          (g.C.RequestSource.rest c.next-in-loop.new.self) c.in-Some-next.request c.in_ok-submit_waiting.field-0
          c.loop.invariant.1 next c.in_ok-submit_waiting.ensures.done c.if-not-branch.false)
          refl c.in_ok-print_ready.ensures,
    )
