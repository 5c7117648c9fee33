use Rattle.std.proofs.Common.{◌≡◌, ℕ, ◌+◌, ◌<◌, ◌≤◌, get_or, vec_items, vec_len, vec_capacity}
use Rattle.std.specs.Vec.Iter.{into_iter_items, into_iter_len}
use Rattle.acl_runs.specs.Threads.{IsKept}
use Rattle.acl_runs.proofs.workers.join_workers.Given as goal

abbrev pub invariant-loop-worker : goal.invariant-loop-worker
invariant-loop-worker g l =
    let rest = l.worker-iterator in let first = l.initial.worker-iterator in let done = vec_len l.gathered.ends in
    record {
      count : done + into_iter_len rest ≡ into_iter_len first;
      answers : vec_len l.gathered.answers ≡ done;
      outputs : vec_len l.gathered.outputs ≡ done;
      room_ends : into_iter_len first ≤ vec_capacity l.gathered.ends;
      room_answers : into_iter_len first ≤ vec_capacity l.gathered.answers;
      room_outputs : into_iter_len first ≤ vec_capacity l.gathered.outputs;
      left : (k : ℕ) (worker : _) → k < into_iter_len rest → get_or (into_iter_items rest) k worker ≡ get_or (into_iter_items first) (done + k) worker;
      joined : (k : ℕ) (worker : _) (end : _) (answers : _) (output : _) → k < done
          → IsKept g.C.RequestSource.rest g.P.Replies.handling (get_or (into_iter_items first) k worker)
          (get_or (vec_items l.gathered.ends) k end) (vec_items
          (get_or (vec_items l.gathered.answers) k answers))
          (vec_items (get_or (vec_items l.gathered.outputs) k output));
    }
