use Rattle.std.proofs.Common.{◌≡◌, ◌+◌, ◌^◌, ◌<◌, get_or, length, vec_items, vec_len, sym, ap, ◌∙◌, subst, add-zero, rules, arith}
use Rattle.std.specs.Vec.Iter.{into_iter_items}
use Rattle.acl_broker.specs.declared.end.End.TheVariants.{Open}
use Rattle.acl_runs.specs.Threads.{IsStarted}
use Rattle.acl_runs.proofs.PlaceLemmas.{each_after_push}
use Rattle.acl_runs.proofs.workers.start_workers.Goals as goal

pub start_worker-requires-clause-few : goal.start_worker-requires-clause-few
start_worker-requires-clause-few g c κs bounds =
    let was = c.loop-end.invariant in
    let step = c.in-Some.ensures.steps in
    let done = vec_len c.loop-end.workers in
    let taken = c.in-Some-next.ensures in
    let first = into_iter_items c.into_iter-sessions.result in
    let next : c.in-Some-next.requests ≡ get_or first done c.in-Some-next.requests =
    sym (ap (λ xs. get_or xs 0 c.in-Some-next.requests) taken.items)
    ∙ was.left_too 0 c.in-Some-next.requests (omega (arith, step.1))
    ∙ ap (λ n. get_or first n c.in-Some-next.requests) (add-zero done) in
    let inside : done < length c.args.sessions.items = omega (arith, was.count, step.1, c.into_iter-end-iterator.ensures.into_iter_gives.1, c.args.ends.ok.0, c.requires.count) in
    let items : get_or first done c.in-Some-next.requests
    ≡ get_or c.args.sessions.items done c.in-Some-next.requests =
    ap (λ xs. get_or xs done c.in-Some-next.requests) c.into_iter-sessions.ensures.rest in
    subst (λ r. length (g.C.RequestSource.rest r) < 2 ^ 32) (sym (next ∙ items)) (c.requires.few done c.in-Some-next.requests inside)

-- The end that is taken stood first among the rest, so it is the one at the next place; and so with the requests.
pub loop-end-preserved : goal.loop-end-preserved
loop-end-preserved g c =
    let was = c.loop-end.invariant in
    let step = c.in-Some.ensures.steps in
    let taken = c.in-Some-next.ensures in
    let done = vec_len c.loop-end.workers in
    let first = into_iter_items c.into_iter-end-iterator.result in
    let first_too = into_iter_items c.into_iter-sessions.result in
    let replies = c.args.setting.now.replies.now in
    let limit = c.args.setting.now.max_errors in
    let worker = c.in-Ok-start_worker.worker in
    let grown : vec_len c.push_reserved.new.self ≡ done + 1 = search rules in
    let next_end : (d : _) → Open c.in-Open.end ≡ get_or first done d = λ d.
    sym c.in-Open.is ∙ sym (ap (λ xs. get_or xs 0 d) step.0) ∙ was.left 0 d (omega (arith, step.1)) ∙ ap (λ n. get_or first n d) (add-zero done) in
    let next_requests : (d : _) → c.in-Some-next.requests ≡ get_or first_too done d = λ d.
    sym (ap (λ xs. get_or xs 0 d) taken.items) ∙ was.left_too 0 d (omega (arith, step.1)) ∙ ap (λ n. get_or first_too n d) (add-zero done) in
    let here : (end : _) (requests : _) → IsStarted replies limit (get_or first done end) (get_or first_too done requests) worker = λ end requests.
    subst (λ r. IsStarted replies limit (get_or first done end) r worker) (next_requests requests)
    (subst (λ e. IsStarted replies limit e c.in-Some-next.requests worker) (next_end end) c.in-Ok-start_worker.ensures) in
    record {
      count = search rules;
      same = search rules;
      all = was.all;
      room = search rules;
      left = λ k d below. let h = was.left (k + 1) d in grind rules;
      left_too = λ k d below. let h = was.left_too (k + 1) d in grind rules;
      started = λ k end requests last below.
          each_after_push (λ i x. IsStarted replies limit (get_or first i end)
          (get_or first_too i requests) x) (vec_items c.loop-end.workers) worker
          (vec_items c.push_reserved.new.self) done c.push_reserved.ensures.items
          (omega (arith, c.loop-end.workers.ok.0))
          (λ i x low. was.started i end requests x low) (here end requests) k last (subst (λ n. k < n) grown below);
    }

pub returns : goal.returns
returns g c =
    let was = c.loop-end.invariant in
    let began = c.into_iter-end-iterator.ensures.into_iter_gives in
    let over = c.in-None.ensures.steps in
    record {
      count = omega (arith, was.count, over.0, began.1, c.loop-end.workers.ok.0, c.args.ends.ok.0, c.requires.count);
      each = λ k end requests worker below.
          subst (λ ends. IsStarted c.args.setting.now.replies.now c.args.setting.now.max_errors
          (get_or ends k end) (get_or c.args.sessions.items k requests)
          (get_or (vec_items c.loop-end.workers) k worker)) began.0
          (subst (λ sessions. IsStarted c.args.setting.now.replies.now c.args.setting.now.max_errors
          (get_or (into_iter_items c.into_iter-end-iterator.result) k end) (get_or sessions k requests)
          (get_or (vec_items c.loop-end.workers) k worker)) c.into_iter-sessions.ensures.rest
          (was.started k end requests worker (omega (arith, was.count, over.0, began.1, c.args.ends.ok.0, c.requires.count, below))));
    }
