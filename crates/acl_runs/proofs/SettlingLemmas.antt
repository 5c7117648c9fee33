-- Both sides of a run together: what each session submitted and polled is the journal's.
use Rattle.std.specs.List.{AllByRecursion, flat_map}
use Rattle.std.specs.declared.vec.Vec.{Vec}
use Rattle.std.specs.declared.alloc.Global.{Global}
use Rattle.std.proofs.Common.{ap, sym, ◌∙◌, subst, append_assoc, append-nil, length-append, arith, get_or}
use Rattle.std.proofs.Common.{inl, inr, ◌≡◌, ◌⊎◌, ℕ, suc, ◌<◌, ◌≤◌, Bool, true, false, List, [], ◌∷◌, ◌++◌}
use Rattle.std.proofs.Common.{length, map, refl, Option, Some, None, if◌then◌else◌, ◌==◌}
use Rattle.std.proofs.lemmas.List.{nil_from_length, get_or-map}
use Rattle.std.proofs.lemmas.Option.{none-some}
use mathlib.Core.List.{IsPrefix}
use Rattle.acl_broker.specs.Journal.{items_from, state_after, answers_to}
use Rattle.acl_broker.specs.Lanes.{fresh_lane}
use Rattle.acl_broker.specs.Points.{Point, BrokerState, StandsAt}
use Rattle.acl_broker.specs.Brokers.{IsPointOf}
use Rattle.acl_broker.specs.Ends.{AreEndsOf, sent_by, polled_by}
use Rattle.acl_broker.specs.Takers.{TakerState, Keeps}
use Rattle.acl_broker.specs.declared.end.End.{End}
use Rattle.acl_broker.specs.declared.taker_side.TakerSide.{TakerSide}
use Rattle.acl_broker.specs.declared.steps.JournalEntry.{JournalEntry}
use Rattle.acl_broker.proofs.EachSessions.{each_session, of_session}
use Rattle.acl_broker.proofs.TakerKeeps.{prefix_trans}
use Rattle.acl_broker.proofs.RejoinedPoint.{rejoined_point, is_rejoined_point}
use Rattle.acl_runs.specs.ErrorLimit.{errors_in, UsesUp, EndsAtError, IsServedUpTo}
use Rattle.acl_runs.specs.Handling.{Handling}
use Rattle.acl_runs.specs.RunReport.{IsReport}
use Rattle.acl_runs.specs.Taking.{made, IsLimited, AreLimited}
use Rattle.acl_runs.specs.Workers.{IsServed}
use Rattle.acl_runs.specs.Threads.{AreServed}
use Rattle.acl_runs.specs.declared.error_limits.ErrorLimits.{ErrorLimits}
use Rattle.acl_runs.specs.declared.report.RunReport.{RunReport}
use Rattle.acl_runs.specs.declared.workers.Gathered.{Gathered}
use Rattle.acl_runs.proofs.WorkerLemmas.{errors_in-append, some_of}
use Rattle.acl_runs.proofs.LimitLemmas.{last_same, some_item}

-- the front of a list that is as long as the list is the whole of it
whole_front : {A : Type 0} (front whole : List A) → IsPrefix front whole → length whole ≤ length front → front ≡ whole
whole_front front whole p long =
    let none : p.0 ≡ [] = nil_from_length p.0 (omega (arith, length-append front p.0, ap length p.1, long)) in
    sym (append-nil front) ∙ ap (λ xs. front ++ xs) (sym none) ∙ p.1

length-prefix : {A : Type 0} (front whole : List A) → IsPrefix front whole → length front ≤ length whole
length-prefix front whole p = omega (arith, length-append front p.0, ap length p.1)

-- a list has a last item, or none
with_last : {A : Type 0} (items : List A) → (items ≡ []) ⊎ ((before : List A) × (last : A) × (items ≡ before ++ last ∷ []))
with_last [] = inl refl
with_last (item ∷ items) = elim (with_last items) [
  | inl none ↦ inr ([], item, ap (λ rest. item ∷ rest) none)
  | inr found ↦ inr (item ∷ found.0, found.1, ap (λ rest. item ∷ rest) found.2)
]

more_if : {A B : Type 0} (b : Bool) (x : A) (y : B) (xs : List A) (ys : List B) → length xs ≡ length ys → length (if b then x ∷ xs else xs) ≡ length (if b then y ∷ ys else ys)
more_if true x y xs ys same = ap suc same
more_if false x y xs ys same = same

module _ {State I R : Type 0} (next : State → I → State) (reply : State → I → R) where
  -- there is an answer for each item
  pub length-answers_to : (session : ℕ) (state : State) (journal : List (JournalEntry I)) → length (answers_to next reply session state journal) ≡ length (items_from session journal)
  length-answers_to session state [] = refl
  length-answers_to session state (entry ∷ journal) =
      more_if (entry.session == session) (reply state entry.item) entry.item
      (answers_to next reply session (next state entry.item) journal) (items_from session journal)
      (length-answers_to session (next state entry.item) journal)

module _ {R : Type 0} (is_error : R → Bool) where
  -- answers that use up the errors are all, if the last of all is the last error allowed
  all_polled : (allowed : ℕ) (polled answers : List R) → IsPrefix polled answers → allowed ≤ errors_in is_error polled → EndsAtError is_error allowed answers → polled ≡ answers
  all_polled allowed polled answers front uses ends = elim (with_last front.0) [
    | inl none ↦ sym (append-nil polled) ∙ ap (λ more. polled ++ more) (sym none) ∙ front.1
    | inr found ↦
        let is_last : found.1 ≡ ends.last = last_same (polled ++ found.0) ends.before found.1 ends.last
        (append_assoc polled found.0 (found.1 ∷ []) ∙ ap (λ more. polled ++ more) (sym found.2) ∙ front.1
        ∙ ends.all) in
        let one : errors_in is_error (found.1 ∷ []) ≡ 1 = ap (λ b. length (if b then found.1 ∷ [] else [])) (ap is_error is_last ∙ ends.error) in
        absurd (omega (
          arith,
          uses,
          ends.count,
          ap (λ all. errors_in is_error all) front.1,
          errors_in-append
              is_error polled front.0,
          ap (λ more. errors_in is_error more) found.2,
          errors_in-append is_error
              found.0 (found.1 ∷ []),
          one,
        ))
  ]

module _ {I R : Type 0} (is_error : R → Bool) where
  -- one session: what the journal has of it, and its answers there
  served_up_to : (limit : Option ℕ) (wanted sent items : List I) (polled answers : List R) (cancelled : Bool) → length answers ≡ length items → IsPrefix items sent → IsPrefix polled answers
      → ((sent ≡ wanted) × (length polled ≡ length wanted)) ⊎ (IsPrefix sent wanted × UsesUp is_error limit polled)
      → ((allowed : ℕ) → limit ≡ Some allowed → ((cancelled ≡ false → errors_in is_error answers < allowed) × (cancelled ≡ true → EndsAtError is_error allowed answers)))
      → IsServedUpTo is_error limit wanted items answers × (polled ≡ answers)
  served_up_to None wanted sent items polled answers cancelled as_many items_are polled_are (inl whole) limited =
      let front : IsPrefix items wanted = subst (λ all. IsPrefix items all) whole.0 items_are in
      let few = length-prefix items wanted front in
      let short = length-prefix polled answers polled_are in
      (whole_front items wanted front (omega (arith, as_many, few, short, whole.1)), whole_front polled answers polled_are (omega (arith, as_many, few, short, whole.1)))
  served_up_to None wanted sent items polled answers cancelled as_many items_are polled_are (inr part) limited = absurd part.1
  served_up_to (Some allowed) wanted sent items polled answers false as_many items_are polled_are (inl whole) limited =
      let front : IsPrefix items wanted = subst (λ all. IsPrefix items all) whole.0 items_are in
      let few = length-prefix items wanted front in
      let short = length-prefix polled answers polled_are in (
        (
          front,
          inl (
            (limited allowed refl).0 refl,
            whole_front items wanted front
                (omega (arith, as_many, few, short, whole.1)),
          ),
        ),
        whole_front polled answers polled_are
            (omega (arith, as_many, few, short, whole.1)),
      )
  served_up_to (Some allowed) wanted sent items polled answers true as_many items_are polled_are (inl whole) limited =
      let front : IsPrefix items wanted = subst (λ all. IsPrefix items all) whole.0 items_are in
      let few = length-prefix items wanted front in
      let short = length-prefix polled answers polled_are in
      ((front, inr ((limited allowed refl).1 refl)), whole_front polled answers polled_are (omega (arith, as_many, few, short, whole.1)))
  served_up_to (Some allowed) wanted sent items polled answers false as_many items_are polled_are (inr part) limited =
      absurd (omega (arith, part.1, (limited allowed refl).0 refl, ap (λ all. errors_in is_error all) polled_are.1, errors_in-append is_error polled polled_are.0))
  served_up_to (Some allowed) wanted sent items polled answers true as_many items_are polled_are (inr part) limited =
      ((prefix_trans items sent wanted items_are part.0, inr ((limited allowed refl).1 refl)), all_polled is_error allowed polled answers polled_are part.1 ((limited allowed refl).1 refl))

module _ {State I R K : Type 0} (next : State → I → State) (reply : State → I → R) (handling : Handling R K) where
  limit_at : (opening : State) (taker : TakerState State I R) (limit : Option ℕ) (limits : ErrorLimits)
      (session : ℕ) (side : TakerSide I R) → Keeps next reply opening taker
      → AreLimited handling.is_error limit limits taker.sides → session < length taker.sides
      → (allowed : ℕ) → limit ≡ Some allowed
      → (((get_or taker.sides session side).cancelled ≡ false → errors_in handling.is_error (answers_to next reply session opening taker.journal) < allowed)
      × ((get_or taker.sides session side).cancelled ≡ true → EndsAtError handling.is_error allowed (answers_to next reply session opening taker.journal)))
  limit_at opening taker None limits session side keeps limited below allowed is = absurd (none-some _ is)
  limit_at opening taker (Some most) limits session side keeps limited below allowed is =
      let answers : made (get_or taker.sides session side) ≡ answers_to next reply session opening taker.journal = (of_session _ _ _ keeps.sides session side below).answered in
      let same : most ≡ allowed = ap (λ n. some_of n 0) is in
      let one : IsLimited handling.is_error most (get_or limits.left.items session 0) (get_or taker.sides session side) = limited.1 session 0 side below in (
        λ live. let had = one.live live in omega (arith, had.0, had.1, same, ap (λ all. errors_in handling.is_error all) answers),
        λ over. subst (λ n. EndsAtError handling.is_error n (answers_to next reply session opening taker.journal)) same (subst (λ all. EndsAtError handling.is_error most all) answers (one.over over)),
      )

  -- the report of a run, from what each session was served and where the rejoined broker stands
  pub report_of : (opening : State) (limit : Option ℕ) (limits : ErrorLimits) (wanted : List (List I))
      (taker : TakerState State I R) (gathered : Gathered I R K) (broker : BrokerState State I R)
      (report : RunReport State (JournalEntry I) K)
      → Keeps next reply opening taker → AreLimited handling.is_error limit limits taker.sides → AreServed handling limit wanted gathered → AreEndsOf gathered.ends.items taker.sides
      → ((point : Point State I R) → IsPointOf opening taker gathered.ends.items point → StandsAt next reply point broker)
      → report.journal.items ≡ taker.journal → report.service ≡ taker.service → report.answers ≡ gathered.answers → report.outputs ≡ gathered.outputs
      → IsReport next reply handling opening limit wanted report
  report_of opening limit limits wanted taker gathered broker report keeps limited served are stands journal_is service_is answers_are outputs_are =
      let ends = gathered.ends.items in
      let journal = taker.journal in
      let sessions : length taker.sides ≡ length wanted = sym are.0 ∙ served.ends in
      let answers_of : ℕ → List R = λ session. answers_to next reply session opening journal in
      let stood : StandsAt next reply (rejoined_point opening taker ends) broker = stands (rejoined_point opening taker ends) (is_rejoined_point opening taker ends are.0) in
      let one = λ (session : ℕ) (none : List I) (answers : Vec K Global) (output : Vec ℕ Global) (below : session < length wanted).
      let within : session < length taker.sides = omega (arith, below, sessions) in
      let end : End I R = some_item ends session (omega (arith, below, served.ends)) in
      let side : TakerSide I R = some_item taker.sides session within in
      let lane = of_session _ _ _ stood.lanes session fresh_lane within in
      let is : IsServed handling limit (get_or wanted session none) (get_or ends session end)
      (get_or gathered.answers.items session answers).items
      (get_or gathered.outputs.items session output).items = served.each session none end answers output below in
      let items_are : IsPrefix (items_from session journal) (sent_by (get_or ends session end)) = subst
      (λ all. IsPrefix (items_from session journal) all)
      (get_or-map sent_by ends session end [] (omega (arith, below, served.ends))) lane.merged in
      let polled = polled_by (get_or ends session end) in
      let polled_are : IsPrefix polled (answers_of session) = (
        (get_or broker.lanes session fresh_lane).owed,
        ap (λ front. front
            ++ (get_or broker.lanes session fresh_lane).owed)
            (sym (get_or-map polled_by ends session end [] (omega (arith, below, served.ends)))) ∙ lane.answered,
      ) in
      let all : IsServedUpTo handling.is_error limit (get_or wanted session none) (items_from session journal) (answers_of session) × (polled ≡ answers_of session) =
      served_up_to handling.is_error limit (get_or wanted session none) (sent_by (get_or ends session end))
      (items_from session journal) polled (answers_of session) (get_or taker.sides session side).cancelled
      (length-answers_to next reply session opening journal) items_are polled_are is.sent (limit_at opening taker limit limits session side keeps limited within) in
      let both : IsServedUpTo handling.is_error limit (get_or wanted session none)
      (items_from session journal) (answers_of session)
      × ((get_or gathered.answers.items session answers).items ≡ map handling.keep (answers_of session))
      × ((get_or gathered.outputs.items session output).items ≡ flat_map handling.text (answers_of session)) =
      (all.0, is.kept_is ∙ ap (λ answers. map handling.keep answers) all.1, is.output_is ∙ ap (λ answers. flat_map handling.text answers) all.1) in
      both in
      let wanted_at = λ (session : ℕ) (below : session < length wanted). some_item wanted session below in
      let answers_at = λ (session : ℕ) (below : session < length wanted). some_item gathered.answers.items session (omega (arith, below, served.answers)) in
      let output_at = λ (session : ℕ) (below : session < length wanted). some_item gathered.outputs.items session (omega (arith, below, served.outputs)) in
      record {
        known = subst (λ entries. AllByRecursion (λ entry. entry.session < length wanted) entries)
            (sym journal_is) (subst (λ n. AllByRecursion (λ entry. entry.session < n) journal) sessions keeps.known);
        served = each_session _ _ wanted refl (λ session none below. subst (λ entries. IsServedUpTo handling.is_error limit
            (get_or wanted session none) (items_from session entries)
            (answers_to next reply session opening entries)) (sym journal_is)
            (one session none (answers_at session below) (output_at session below) below).0);
        answers = each_session _ _ report.answers.items (ap (λ answers. length answers.items) answers_are ∙ served.answers)
            (λ session none below. ap (λ answers. (get_or answers.items session none).items) answers_are
            ∙ (one session (wanted_at session below) none (output_at session below) below).1
            ∙ ap (λ entries. map handling.keep (answers_to next reply session opening entries)) (sym journal_is));
        outputs = each_session _ _ report.outputs.items (ap (λ outputs. length outputs.items) outputs_are ∙ served.outputs)
            (λ session none below. ap (λ outputs. (get_or outputs.items session none).items) outputs_are
            ∙ (one session (wanted_at session below) (answers_at session below) none below).2
            ∙ ap (λ entries. flat_map handling.text (answers_to next reply session opening entries)) (sym journal_is));
        state = service_is ∙ keeps.state ∙ ap (λ entries. state_after next opening entries) (sym journal_is);
      }
