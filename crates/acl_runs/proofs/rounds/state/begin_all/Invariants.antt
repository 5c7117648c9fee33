use Rattle.std.proofs.Common.{◌≡◌, ℕ, ◌+◌, ◌<◌, ◌≤◌, ◌++◌, [], get_or, map, vec_items, vec_len, vec_capacity}
use Rattle.std.specs.Vec.Iter.{into_iter_items, into_iter_len}
use Rattle.acl_runs.specs.declared.rounds.state.Progress.{Progress}
use Rattle.acl_runs.proofs.rounds.state.begin_all.Given as goal

abbrev pub invariant-loop-requests : goal.invariant-loop-requests
invariant-loop-requests g l =
    let rest = l.requests-iterator in let first = l.initial.requests-iterator in
    record {
      count : vec_len l.begun + into_iter_len rest ≡ into_iter_len first;
      room : into_iter_len first ≤ vec_capacity l.begun;
      rests_are : map (λ (progress : Progress g.row.C.Denot g.row.S-Reply.Denot). g.C.RequestSource.rest
          progress.requests) (vec_items l.begun) ++ map g.C.RequestSource.rest
          (into_iter_items rest) ≡ map g.C.RequestSource.rest (into_iter_items first);
      fresh : (k : ℕ) (progress : Progress g.row.C.Denot g.row.S-Reply.Denot) → k < vec_len l.begun
          → (vec_items (get_or (vec_items l.begun) k progress).answers ≡ [])
          × (vec_items (get_or (vec_items l.begun) k progress).output ≡ []);
    }
