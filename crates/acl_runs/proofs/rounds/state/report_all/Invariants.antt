use Rattle.std.proofs.Common.{◌≡◌, ◌+◌, ◌≤◌, ◌++◌, map, vec_items, vec_len, vec_capacity}
use Rattle.std.specs.Vec.Iter.{into_iter_items, into_iter_len}
use Rattle.acl_runs.proofs.rounds.state.report_all.Given as goal

abbrev pub invariant-loop-progress : goal.invariant-loop-progress
invariant-loop-progress g l =
    let rest = l.progress-iterator in let first = l.initial.progress-iterator in let done = vec_len l.answers in
    record {
      count : done + into_iter_len rest ≡ into_iter_len first;
      outputs : vec_len l.outputs ≡ done;
      room_answers : into_iter_len first ≤ vec_capacity l.answers;
      room_outputs : into_iter_len first ≤ vec_capacity l.outputs;
      answers_are : vec_items l.answers ++ map (λ progress. progress.answers) (into_iter_items rest)
          ≡ map (λ progress. progress.answers) (into_iter_items first);
      outputs_are : vec_items l.outputs ++ map (λ progress. progress.output) (into_iter_items rest)
          ≡ map (λ progress. progress.output) (into_iter_items first);
    }
