use Rattle.std.proofs.Common.{◌≡◌, ◌+◌, ◌<◌, get_or, length, vec_items, vec_len, sym, ap, ◌∙◌, subst, add-zero, rules, arith}
use Rattle.std.specs.Vec.Iter.{into_iter_items}
use Rattle.acl_broker.specs.declared.end.End.TheVariants.{Closed}
use Rattle.acl_runs.specs.Threads.{IsKept}
use Rattle.acl_runs.proofs.PlaceLemmas.{each_after_three}
use Rattle.acl_runs.proofs.workers.join_workers.Goals as goal

-- The worker that is joined stood first among the rest, so it is the one at the next place.
pub loop-worker-preserved : goal.loop-worker-preserved
loop-worker-preserved g c =
    let was = c.loop-worker.invariant in
    let step = c.in-Some.ensures.steps in
    let old = c.loop-worker.gathered in
    let done = vec_len old.ends in
    let finished = c.in_ok-end.field-0 in
    let first = into_iter_items c.into_iter-worker-iterator.result in
    let grown : vec_len c.push_reserved.new.self ≡ done + 1 = search rules in
    let next_worker : (d : _) → c.in-Some.worker ≡ get_or first done d = λ d.
    sym (ap (λ xs. get_or xs 0 d) step.0) ∙ was.left 0 d (omega (arith, step.1)) ∙ ap (λ n. get_or first n d) (add-zero done) in
    let here : (d : _) → IsKept g.C.RequestSource.rest g.P.Replies.handling (get_or first done d) (Closed finished.end) finished.printed.answers.items finished.printed.output.items = λ d.
    subst (λ w. IsKept g.C.RequestSource.rest g.P.Replies.handling w (Closed finished.end) finished.printed.answers.items finished.printed.output.items) (next_worker d) c.in_ok-end.ensures in
    record {
      count = search rules;
      answers = search rules;
      outputs = search rules;
      room_ends = search rules;
      room_answers = search rules;
      room_outputs = search rules;
      left = λ k d below. let h = was.left (k + 1) d in grind rules;
      joined = λ k worker end answers output below.
          each_after_three (λ i e a o. IsKept g.C.RequestSource.rest g.P.Replies.handling
          (get_or first i worker) e a.items o.items) (vec_items old.ends) (vec_items old.answers)
          (vec_items old.outputs) (Closed finished.end) finished.printed.answers finished.printed.output
          (vec_items c.push_reserved.new.self) (vec_items c.push_reserved-in-loop-worker.new.self) (vec_items c.push_reserved-in-loop-worker-2.new.self) done
          (omega (arith, old.ends.ok.0), omega (arith, old.answers.ok.0, was.answers), omega (arith, old.outputs.ok.0, was.outputs))
          c.push_reserved.ensures.items c.push_reserved-in-loop-worker.ensures.items c.push_reserved-in-loop-worker-2.ensures.items
          (λ i e a o low. was.joined i worker e a o low) (here worker) k end answers output (subst (λ n. k < n) grown below);
    }

pub returns : goal.returns
returns g c =
    let was = c.loop-worker.invariant in
    let began = c.into_iter-worker-iterator.ensures.into_iter_gives in
    let over = c.in-None.ensures.steps in
    let gathered = c.loop-worker.gathered in
    let all : vec_len gathered.ends ≡ length c.args.workers.items = omega (arith, was.count, over.0, began.1, c.args.workers.ok.0) in
    record {
      ends = omega (arith, gathered.ends.ok.0, all);
      answers = omega (arith, gathered.answers.ok.0, was.answers, all);
      outputs = omega (arith, gathered.outputs.ok.0, was.outputs, all);
      each = λ k worker end answers output below.
          subst (λ ws. IsKept g.C.RequestSource.rest g.P.Replies.handling (get_or ws k worker)
          (get_or (vec_items gathered.ends) k end) (vec_items
          (get_or (vec_items gathered.answers) k answers))
          (vec_items (get_or (vec_items gathered.outputs) k output))) began.0
          (was.joined k worker end answers output (omega (arith, all, below)));
    }
