use Rattle.std.proofs.Common.{◌≡◌, ℕ, ◌+◌, ◌<◌, ◌≤◌, get_or, vec_items, vec_len, vec_capacity}
use Rattle.std.specs.Vec.Iter.{into_iter_items, into_iter_len}
use Rattle.acl_runs.specs.Threads.{IsStarted}
use Rattle.acl_runs.proofs.workers.start_workers.Given as goal

abbrev pub invariant-loop-end : goal.invariant-loop-end
invariant-loop-end g l =
    let done = vec_len l.workers in let rest = l.end-iterator in let first = l.initial.end-iterator in
    record {
      count : done + into_iter_len rest ≡ into_iter_len first;
      same : into_iter_len l.sessions ≡ into_iter_len rest;
      all : into_iter_len l.initial.sessions ≡ into_iter_len first;
      room : into_iter_len first ≤ vec_capacity l.workers;
      left : (k : ℕ) (end : _) → k < into_iter_len rest → get_or (into_iter_items rest) k end ≡ get_or (into_iter_items first) (done + k) end;
      left_too : (k : ℕ) (requests : _) → k < into_iter_len rest → get_or (into_iter_items l.sessions) k requests ≡ get_or (into_iter_items l.initial.sessions) (done + k) requests;
      started : (k : ℕ) (end : _) (requests : _) (worker : _) → k < done
          → IsStarted l.setting.replies.now l.setting.max_errors (get_or (into_iter_items first) k end)
          (get_or (into_iter_items l.initial.sessions) k requests) (get_or (vec_items l.workers) k worker);
    }
