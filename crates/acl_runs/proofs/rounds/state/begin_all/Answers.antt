use Rattle.std.proofs.Common.{◌≡◌, ◌+◌, ◌<◌, ◌++◌, ◌∷◌, [], map, vec_items, vec_len, sym, ap, ◌∙◌, subst, append_assoc, append-nil, rules, arith}
use Rattle.std.specs.Vec.Iter.{into_iter_items}
use Rattle.std.proofs.lemmas.List.{map-append, nil_from_length}
use Rattle.acl_runs.proofs.PlaceLemmas.{each_after_push}
use Rattle.acl_runs.specs.declared.rounds.state.Progress.{Progress}
use Rattle.acl_runs.proofs.rounds.state.begin_all.Goals as goal

pub loop-requests-preserved : goal.loop-requests-preserved
loop-requests-preserved g c =
    let was = c.loop-requests.invariant in
    let step = c.in-Some.ensures.steps in
    let old = vec_items c.loop-requests.begun in
    let new = vec_items c.push_reserved.new.self in
    let rest_of : Progress g.row.C.Denot g.row.S-Reply.Denot → _ = λ progress. g.C.RequestSource.rest progress.requests in
    let progress : Progress g.row.C.Denot g.row.S-Reply.Denot = record { requests = c.in-Some.requests; answers = c.new.result; output = c.new-in-loop-requests.result } in
    let grown : vec_len c.push_reserved.new.self ≡ vec_len c.loop-requests.begun + 1 = search rules in
    let pushed : new ≡ old ++ progress ∷ [] = c.push_reserved.ensures.items in
    record {
      count = search rules;
      room = search rules;
      rests_are = ap (λ sessions. map rest_of sessions ++ map g.C.RequestSource.rest
          (into_iter_items c.next.new.self)) pushed ∙ ap (λ front. front
          ++ map g.C.RequestSource.rest (into_iter_items c.next.new.self)) (map-append rest_of old (progress ∷ []))
          ∙ append_assoc (map rest_of old) (rest_of progress ∷ [])
          (map g.C.RequestSource.rest (into_iter_items c.next.new.self))
          ∙ ap (λ items. map rest_of old ++ map g.C.RequestSource.rest items) (sym step.0) ∙ was.rests_are;
      fresh = λ k d below.
          each_after_push (λ i s. (vec_items s.answers ≡ []) × (vec_items s.output ≡ [])) old progress new
          (vec_len c.loop-requests.begun) pushed (omega (arith, c.loop-requests.begun.ok.0))
          (λ i s low. was.fresh i s low) (c.new.ensures.items, c.new-in-loop-requests.ensures.items) k d
          (subst (λ n. k < n) grown below);
    }

pub returns : goal.returns
returns g c =
    let was = c.loop-requests.invariant in
    let began = c.into_iter-requests-iterator.ensures.into_iter_gives in
    let over = c.in-None.ensures.steps in
    let none : into_iter_items c.next.new.self ≡ [] = nil_from_length _ (omega (arith, over.1, c.next.new.self.rest.ok.0)) in
    let none_left : into_iter_items c.loop-requests.requests-iterator ≡ [] = nil_from_length _ (omega (arith, over.0, c.loop-requests.requests-iterator.rest.ok.0)) in
    record {
      count = omega (arith, was.count, over.0, began.1, c.loop-requests.begun.ok.0, c.args.sessions.ok.0);
      rests_are = sym (append-nil _) ∙ ap (λ items. map
          (λ (progress : Progress g.row.C.Denot g.row.S-Reply.Denot). g.C.RequestSource.rest
          progress.requests) (vec_items c.loop-requests.begun) ++ map g.C.RequestSource.rest items)
          (sym none_left) ∙ was.rests_are ∙ ap (λ items. map g.C.RequestSource.rest items) began.0;
      service_is = search rules;
      journal = search rules;
      fresh = λ k progress below. was.fresh k progress (omega (arith, below, c.loop-requests.begun.ok.0));
    }
