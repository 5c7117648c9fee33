-- The report of a run in rounds.
use Rattle.std.specs.List.{AllByRecursion, flat_map}
use Rattle.std.specs.declared.vec.Vec.{Vec}
use Rattle.std.specs.declared.alloc.Global.{Global}
use Rattle.std.proofs.Common.{ap, sym, ◌∙◌, subst, arith, get_or, ◌≡◌, ℕ, zero, suc, ◌+◌, ◌<◌, ◌≤◌, List, [], ◌∷◌, ◌++◌, length, map, take, drop, refl, None, Result, Ok, Err, IfOk}
use Rattle.std.proofs.lemmas.List.{length-map, get_or-map, map-id, get_or_default, take_all}
use Rattle.acl_broker.specs.Journal.{items_from, state_after, answers_to}
use Rattle.acl_broker.specs.declared.steps.JournalEntry.{JournalEntry}
use Rattle.acl_broker.proofs.EachSessions.{each_session, of_session}
use Rattle.acl_runs.specs.Handling.{Handling, keeping_all}
use Rattle.acl_runs.specs.RunReport.{IsReport}
use Rattle.acl_runs.specs.declared.report.RunReport.{RunReport}
use Rattle.acl_runs.specs.Rounds.{entries_of, heads, rounds, Answered, AreRounds}
use Rattle.acl_runs.specs.Turns.{rests, AllRounds}
use Rattle.acl_runs.specs.RoundsState.{HasBegun, IsReported}
use Rattle.acl_runs.specs.declared.rounds.state.Progress.{Progress}
use Rattle.acl_runs.specs.declared.rounds.state.Run.{Run}
use Rattle.acl_runs.proofs.RoundLemmas.{items_rounds}
use Rattle.acl_runs.proofs.LimitLemmas.{some_item}

module _ {I : Type 0} where
  known_entries : (n session : ℕ) (items : List I) → session < n → AllByRecursion (λ entry. entry.session < n) (entries_of session items)
  known_entries n session [] below = tt
  known_entries n session (item ∷ items) below = (below, known_entries n session items below)

  known_both : (n : ℕ) (front back : List (JournalEntry I))
      → AllByRecursion (λ entry. entry.session < n) front → AllByRecursion (λ entry. entry.session < n) back
      → AllByRecursion (λ entry. entry.session < n) (front ++ back)
  known_both n [] back known known' = known'
  known_both n (entry ∷ front) back known known' = (known.0, known_both n front back known.1 known')

  known_heads : (n session : ℕ) (lists : List (List I)) → session + length lists ≤ n → AllByRecursion (λ entry. entry.session < n) (heads session lists)
  known_heads n session [] few = tt
  known_heads n session (list ∷ lists) few = known_both n (entries_of session (take 1 list))
      (heads (suc session) lists) (known_entries n session (take 1 list) (omega (arith, few)))
      (known_heads n (suc session) lists (omega (arith, few)))

  known_rounds : (n most : ℕ) (lists : List (List I)) → length lists ≤ n → AllByRecursion (λ entry. entry.session < n) (rounds most lists)
  known_rounds n zero lists few = tt
  known_rounds n (suc most) lists few = known_both n (heads 0 lists) (rounds most (map (drop 1) lists))
      (known_heads n 0 lists (omega (arith, few))) (known_rounds n most (map (drop 1) lists)
      (omega (arith, few, length-map lists (drop 1))))

  few_at : (n : ℕ) (lists : List (List I)) (session : ℕ) → AllByRecursion (λ list. length list ≤ n) lists → length (get_or lists session []) ≤ n
  few_at n [] session few = omega arith
  few_at n (list ∷ lists) zero few = few.0
  few_at n (list ∷ lists) (suc session) few = few_at n lists session few.1

module _ {C State I R K : Type 0} (rest : C → List I) (next : State → I → State) (reply : State → I → R) (handling : Handling R K) where
  began_answered : (service : State) (sessions : List C) (run : Run C State I R) → HasBegun rest service sessions run → Answered next reply handling.text service run
  began_answered service sessions run begun = record {
    state = begun.service_is ∙ ap (λ j. state_after next service j) (sym begun.journal);
    sessions = each_session _ _ run.sessions.items refl (λ session progress below.
        let fresh = begun.fresh session progress below in (
          fresh.0 ∙ ap (λ j. answers_to next reply session service j) (sym begun.journal),
          fresh.1 ∙ ap (λ j. flat_map handling.text (answers_to next reply session service j)) (sym begun.journal),
        ));
  }

  module _ (service : State) (sessions : List C) (most : ℕ) (old new : Run C State I R)
      (report : RunReport State (JournalEntry I) R) (begun : HasBegun rest service sessions old)
      (served_all : AllRounds rest next reply handling.text most old new) (reported : IsReported new report) where
    journal_is : report.journal.items ≡ rounds most (map rest sessions)
    journal_is = ap (λ j. j.items) reported.journal ∙ served_all.journal ∙ ap (λ front. front ++ rounds most (rests rest old)) begun.journal ∙ ap (λ lists. rounds most lists) begun.rests_are

    pub are_rounds : AllByRecursion (λ list. length list ≤ most) (map rest sessions) → AreRounds (map rest sessions) report.journal.items
    are_rounds few = (most, few, journal_is)

    pub is_report : AllByRecursion (λ list. length list ≤ most) (map rest sessions) → IsReport next reply (keeping_all handling) service None (map rest sessions) report
    is_report few =
        let wanted = map rest sessions in
        let had = served_all.answered service (began_answered service sessions old begun) in
        let same : report.journal.items ≡ new.journal.items = ap (λ j. j.items) reported.journal in
        let many : length new.sessions.items ≡ length wanted = served_all.count ∙ begun.count ∙ sym (length-map sessions rest) in
        record {
          known = subst (λ j. AllByRecursion (λ entry. entry.session < length wanted) j) (sym journal_is) (known_rounds (length wanted) most wanted (omega arith));
          served = each_session _ _ wanted refl (λ session none below. ap (λ j. items_from session j) journal_is
              ∙ items_rounds most session wanted ∙ take_all most (get_or wanted session [])
              (few_at most wanted session few) ∙ get_or_default wanted session [] none below);
          answers = each_session _ _ report.answers.items (ap length reported.answers ∙ length-map new.sessions.items (λ progress. progress.answers) ∙ many) (λ session none below.
              let within : session < length new.sessions.items = omega (arith, below, many) in
              let progress : Progress C R = some_item new.sessions.items session within in
              ap (λ all. (get_or all session none).items) reported.answers
              ∙ ap (λ (v : Vec R Global). v.items) (get_or-map (λ progress. progress.answers) new.sessions.items session progress none within)
              ∙ (of_session _ _ _ had.sessions session progress within).0
              ∙ ap (λ j. answers_to next reply session service j) (sym same)
              ∙ sym (map-id (answers_to next reply session service report.journal.items)));
          outputs = each_session _ _ report.outputs.items (ap length reported.outputs ∙ length-map new.sessions.items (λ progress. progress.output) ∙ many) (λ session none below.
              let within : session < length new.sessions.items = omega (arith, below, many) in
              let progress : Progress C R = some_item new.sessions.items session within in
              ap (λ all. (get_or all session none).items) reported.outputs
              ∙ ap (λ (v : Vec ℕ Global). v.items) (get_or-map (λ progress. progress.output) new.sessions.items session progress none within)
              ∙ (of_session _ _ _ had.sessions session progress within).1
              ∙ ap (λ j. flat_map handling.text (answers_to next reply session service j)) (sym same));
          state = reported.service_is ∙ had.state ∙ ap (λ j. state_after next service j) (sym same);
        }

-- what holds of each session's requests holds of their lists
pub all_rest : {C I : Type 0} (rest : C → List I) (most : ℕ) (sessions : List C)
    → ((k : ℕ) (d : C) → k < length sessions → length (rest (get_or sessions k d)) ≤ most)
    → AllByRecursion (λ list. length list ≤ most) (map rest sessions)
all_rest rest most [] all = tt
all_rest rest most (session ∷ sessions) all = (all 0 session (omega arith), all_rest rest most sessions (λ k d below. all (suc k) d (omega (arith, below))))

-- what follows of an answer
pub if_ok : {A E : Type 0} (result : Result A E) (P Q : A → Type 0) → ((answer : A) → P answer → Q answer) → IfOk result P → IfOk result Q
if_ok (Ok answer) P Q follows holds = follows answer holds
if_ok (Err error) P Q follows holds = tt
