use Rattle.std.proofs.Common.{◌≡◌, ◌++◌, ◌∷◌, [], map, vec_items, sym, ap, ◌∙◌, append_assoc, append-nil, refl, rules, arith}
use Rattle.std.specs.Vec.Iter.{into_iter_items}
use Rattle.std.proofs.lemmas.List.{nil_from_length}
use Rattle.acl_runs.proofs.rounds.state.report_all.Goals as goal

pub loop-progress-preserved : goal.loop-progress-preserved
loop-progress-preserved g c =
    let was = c.loop-progress.invariant in
    let step = c.in-Some.ensures.steps in
    let answers = vec_items c.loop-progress.answers in
    let outputs = vec_items c.loop-progress.outputs in
    let rest = into_iter_items c.next.new.self in
    record {
      count = search rules;
      outputs = search rules;
      room_answers = search rules;
      room_outputs = search rules;
      answers_are = ap (λ front. front ++ map (λ progress. progress.answers) rest) c.push_reserved.ensures.items
          ∙ append_assoc answers (c.in-Some.progress.answers ∷ []) (map (λ progress. progress.answers) rest)
          ∙ ap (λ items. answers ++ map (λ progress. progress.answers) items) (sym step.0) ∙ was.answers_are;
      outputs_are = ap (λ front. front ++ map (λ progress. progress.output) rest) c.push_reserved-in-loop-progress.ensures.items
          ∙ append_assoc outputs (c.in-Some.progress.output ∷ []) (map (λ progress. progress.output) rest)
          ∙ ap (λ items. outputs ++ map (λ progress. progress.output) items) (sym step.0) ∙ was.outputs_are;
    }

pub returns : goal.returns
returns g c =
    let was = c.loop-progress.invariant in
    let began = c.into_iter-progress-iterator.ensures.into_iter_gives in
    let over = c.in-None.ensures.steps in
    let none_left : into_iter_items c.loop-progress.progress-iterator ≡ [] = nil_from_length _ (omega (arith, over.0, c.loop-progress.progress-iterator.rest.ok.0)) in
    record {
      journal = refl;
      service_is = refl;
      answers = sym (append-nil _) ∙ ap (λ items. vec_items c.loop-progress.answers ++ map (λ progress. progress.answers) items) (sym none_left)
          ∙ was.answers_are ∙ ap (λ items. map (λ progress. progress.answers) items) began.0;
      outputs = sym (append-nil _) ∙ ap (λ items. vec_items c.loop-progress.outputs ++ map (λ progress. progress.output) items) (sym none_left)
          ∙ was.outputs_are ∙ ap (λ items. map (λ progress. progress.output) items) began.0;
    }
