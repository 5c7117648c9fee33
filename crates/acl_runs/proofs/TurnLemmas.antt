-- Turns and rounds.
use Rattle.std.specs.List.{AllByRecursion, flat_map}
use Rattle.std.proofs.Common.{ap, sym, ◌∙◌, subst, append_assoc, append-nil, arith, get_or, ◌≡◌}
use Rattle.std.proofs.Common.{◌≢◌, ℕ, zero, suc, ◌+◌, ◌<◌, Bool, true, false, List, [], ◌∷◌, ◌++◌, length}
use Rattle.std.proofs.Common.{map, take, drop, refl, Some, None, slice_set, true≢false}
use Rattle.std.proofs.lemmas.List.{get_or-map, map-set, length-set, length-map, get_or_default, get_or-append_right, get_or-drop, length-take-le, take_more}
use Rattle.std.proofs.lemmas.List.Edits.{map_over_more}
use Rattle.std.proofs.lemmas.Grind.{flat_map-append}
use Rattle.acl_broker.specs.Journal.{state_after, answers_to}
use Rattle.acl_broker.specs.Points.{EachSession}
use Rattle.acl_broker.proofs.EachSessions.{of_session, each_after}
use Rattle.acl_broker.proofs.Journals.{state_after-append}
use Rattle.acl_broker.proofs.JournalEntries.{entry_of, more_answers, kept_answers}
use Rattle.acl_runs.specs.Rounds.{entries_of, heads, rounds, Answered}
use Rattle.acl_runs.specs.Turns.{rests, AnswersNext, Turns, TurnsOfFirst, Rounds, AllRounds, WithRoundsLeft}
use Rattle.acl_runs.specs.declared.rounds.state.Progress.{Progress}
use Rattle.acl_runs.specs.declared.rounds.state.Run.{Run}

module _ {I : Type 0} where
  -- the heads of one more list
  pub heads_more : (session : ℕ) (lists : List (List I)) (list : List I) → heads session (lists ++ list ∷ []) ≡ heads session lists ++ entries_of (session + length lists) (take 1 list)
  heads_more session [] list = append-nil (entries_of session (take 1 list)) ∙ ap (λ at. entries_of at (take 1 list)) (omega arith)
  heads_more session (other ∷ lists) list =
      ap (λ more. entries_of session (take 1 other) ++ more) (heads_more (suc session) lists list ∙ ap (λ at. heads (suc session) lists ++ entries_of at (take 1 list)) (omega arith))
      ∙ sym (append_assoc (entries_of session (take 1 other)) (heads (suc session) lists) (entries_of (session + length (other ∷ lists)) (take 1 list)))

module _ {I : Type 0} where
  -- nothing is left in any round
  pub heads_none : (session : ℕ) (lists : List (List I)) → AllByRecursion (λ list. list ≡ []) lists → heads session lists ≡ []
  heads_none session [] none = refl
  heads_none session (list ∷ lists) none = ap (λ first. entries_of session (take 1 first) ++ heads (suc session) lists) none.0 ∙ heads_none (suc session) lists none.1

  none_after : (lists : List (List I)) → AllByRecursion (λ list. list ≡ []) lists → AllByRecursion (λ list. list ≡ []) (map (drop 1) lists)
  none_after [] none = tt
  none_after (list ∷ lists) none = (ap (λ first. drop 1 first) none.0, none_after lists none.1)

  pub rounds_none : (n : ℕ) (lists : List (List I)) → AllByRecursion (λ list. list ≡ []) lists → rounds n lists ≡ []
  rounds_none zero lists none = refl
  rounds_none (suc n) lists none = ap (λ first. first ++ rounds n (map (drop 1) lists)) (heads_none 0 lists none) ∙ rounds_none n (map (drop 1) lists) (none_after lists none)

module _ {C State I R : Type 0} (rest : C → List I) (next : State → I → State) (reply : State → I → R) (text : R → List ℕ) where
  -- what a run says where one progress changed
  answered_by : (opening : State) (old new : Run C State I R) (session : ℕ) (progress' : Progress C R)
      → session < length old.sessions.items → new.sessions.items ≡ slice_set old.sessions.items session progress'
      → new.service ≡ state_after next opening new.journal.items
      → progress'.answers.items ≡ answers_to next reply session opening new.journal.items
      → progress'.output.items ≡ flat_map text (answers_to next reply session opening new.journal.items)
      → ((other : ℕ) → other ≢ session → answers_to next reply other opening new.journal.items ≡ answers_to next reply other opening old.journal.items)
      → Answered next reply text opening old → Answered next reply text opening new
  answered_by opening old new session progress' below sessions state here here_text others was =
      let count : length new.sessions.items ≡ length old.sessions.items = ap length sessions ∙ length-set old.sessions.items session progress' in
      let HasAnswers : ℕ → Progress C R → Type 0 = λ session progress. (progress.answers.items ≡ answers_to next reply session opening new.journal.items)
      × (progress.output.items ≡ flat_map text (answers_to next reply session opening new.journal.items)) in
      record {
        state = state;
        sessions = subst (λ n. EachSession HasAnswers n new.sessions.items) (sym count)
            (subst (λ all. EachSession HasAnswers (length old.sessions.items) all) (sym sessions)
            (each_after _ HasAnswers _ old.sessions.items session progress' was.sessions below
            (λ other kept differs had. (had.0 ∙ sym (others other differs), had.1 ∙ ap (λ answers. flat_map text answers) (sym (others other differs))))
            (here, here_text)));
      }

  -- the turn of a session with a request
  pub turns_some : (old new : Run C State I R) (session : ℕ) (progress progress' : Progress C R) (item : I)
      → session < length old.sessions.items → ((d : Progress C R) → get_or old.sessions.items session d ≡ progress)
      → new.sessions.items ≡ slice_set old.sessions.items session progress'
      → new.journal.items ≡ old.journal.items ++ entry_of session item ∷ []
      → AnswersNext rest next reply text old.service progress (Some item) new.service progress'
      → Turns rest next reply text session old true new
  turns_some old new session progress progress' item below seat_is sessions journal answers =
      let wants : get_or (rests rest old) session [] ≡ item ∷ rest progress'.requests = get_or-map
      (λ (s : Progress C R). rest s.requests) old.sessions.items session progress [] below
      ∙ ap (λ (s : Progress C R). rest s.requests) (seat_is progress) ∙ answers.0 in
      record {
        count = ap length sessions ∙ length-set old.sessions.items session progress';
        rests_are = ap (λ all. map (λ (s : Progress C R). rest s.requests) all) sessions
            ∙ map-set (λ (s : Progress C R). rest s.requests) old.sessions.items session progress'
            ∙ ap (λ list. slice_set (rests rest old) session list) (sym (ap (λ list. drop 1 list) wants));
        journal = journal ∙ ap (λ list. old.journal.items ++ entries_of session (take 1 list)) (sym wants);
        answered = λ opening was.
            let entries = old.journal.items in
            let before = answers_to next reply session opening entries in
            let answer = reply (state_after next opening entries) item in
            let answer_is : reply old.service item ≡ answer = ap (λ state. reply state item) was.state in
            let grows : answers_to next reply session opening new.journal.items ≡ before
            ++ answer ∷ [] = ap (λ j. answers_to next reply session opening j) journal
            ∙ more_answers next reply session opening entries item in
            answered_by opening old new session progress' below sessions
            (answers.1 ∙ ap (λ state. next state item) was.state ∙ sym (state_after-append next opening entries (entry_of session item ∷ [])) ∙ ap (λ j. state_after next opening j) (sym journal))
            (answers.2 ∙ ap (λ front. front ++ reply old.service item ∷ [])
            (ap (λ (s : Progress C R). s.answers.items) (sym (seat_is progress))
            ∙ (of_session _ _ _ was.sessions session progress below).0) ∙ ap (λ last. before ++ last ∷ []) answer_is ∙ sym grows)
            (answers.3 ∙ ap (λ front. front ++ text (reply old.service item))
            (ap (λ (s : Progress C R). s.output.items) (sym (seat_is progress))
            ∙ (of_session _ _ _ was.sessions session progress below).1) ∙ ap (λ last. flat_map text before ++ text last) answer_is
            ∙ ap (λ last. flat_map text before ++ last) (sym (append-nil (text answer))) ∙ sym (flat_map-append text before (answer ∷ [])) ∙ ap (λ answers. flat_map text answers) (sym grows))
            (λ other differs. ap (λ j. answers_to next reply other opening j) journal ∙ kept_answers next reply session other opening entries item differs) was;
        none = λ is. absurd (true≢false is);
      }

  -- the turn of a session that has no request left
  pub turns_none : (old new : Run C State I R) (session : ℕ) (progress progress' : Progress C R)
      → session < length old.sessions.items → ((d : Progress C R) → get_or old.sessions.items session d ≡ progress)
      → new.sessions.items ≡ slice_set old.sessions.items session progress'
      → new.journal.items ≡ old.journal.items → AnswersNext rest next reply text old.service progress None
      new.service progress' → Turns rest next reply text session old false new
  turns_none old new session progress progress' below seat_is sessions journal answers =
      let wants : get_or (rests rest old) session [] ≡ [] = get_or-map
      (λ (s : Progress C R). rest s.requests) old.sessions.items session progress [] below
      ∙ ap (λ (s : Progress C R). rest s.requests) (seat_is progress) ∙ answers.0 in
      record {
        count = ap length sessions ∙ length-set old.sessions.items session progress';
        rests_are = ap (λ all. map (λ (s : Progress C R). rest s.requests) all) sessions
            ∙ map-set (λ (s : Progress C R). rest s.requests) old.sessions.items session progress'
            ∙ ap (λ list. slice_set (rests rest old) session list) (answers.1 ∙ sym (ap (λ list. drop 1 list) wants));
        journal = journal ∙ sym (append-nil old.journal.items) ∙ ap (λ list. old.journal.items ++ entries_of session (take 1 list)) (sym wants);
        answered = λ opening was. answered_by opening old new session progress' below sessions
            (answers.2 ∙ was.state ∙ ap (λ j. state_after next opening j) (sym journal))
            (answers.3 ∙ ap (λ (s : Progress C R). s.answers.items) (sym (seat_is progress)) ∙ (of_session _ _ _ was.sessions session progress below).0 ∙ ap (λ j. answers_to next reply session opening j) (sym journal))
            (answers.4 ∙ ap (λ (s : Progress C R). s.output.items) (sym (seat_is progress))
            ∙ (of_session _ _ _ was.sessions session progress below).1 ∙ ap (λ j. flat_map text
            (answers_to next reply session opening j)) (sym journal))
            (λ other differs. ap (λ j. answers_to next reply other opening j) journal) was;
        none = λ is. wants;
      }

  -- what holds of all of one more list
  all_more : (lists : List (List I)) (list : List I) → AllByRecursion (λ list. list ≡ []) lists → list ≡ [] → AllByRecursion (λ list. list ≡ []) (lists ++ list ∷ [])
  all_more [] list all one = (one, tt)
  all_more (first ∷ lists) list all one = (all.0, all_more lists list all.1 one)

  pub first_more : (old now new : Run C State I R) (session : ℕ) (more did more' : Bool)
      → session < length old.sessions.items → TurnsOfFirst rest next reply text session old more now
      → Turns rest next reply text session now did new → (more' ≡ false → (more ≡ false) × (did ≡ false))
      → TurnsOfFirst rest next reply text (session + 1) old more' new
  first_more old now new session more did more' below first turn either =
      let lists = rests rest old in
      let many : length lists ≡ length old.sessions.items = length-map old.sessions.items (λ (s : Progress C R). rest s.requests) in
      let list = get_or lists session [] in
      let front : length (map (drop 1) (take session lists)) ≡ session = length-map (take session lists) (drop 1) ∙ length-take-le session lists (omega (arith, below, many)) in
      let now_is : (d : List I) → get_or (rests rest now) session d ≡ get_or lists session d = λ d.
      ap (λ all. get_or all session d) first.rests_are ∙ get_or-append_right (map (drop 1) (take session lists)) (drop session lists) session session d front (omega arith)
      ∙ ap (λ at. get_or (drop session lists) at d) (omega arith) ∙ get_or-drop session lists 0 d ∙ ap (λ at. get_or lists at d) (omega arith) in
      let now_list : get_or (rests rest now) session [] ≡ list = now_is [] in
      let taken : take (session + 1) lists ≡ take session lists ++ list ∷ [] = take_more lists session [] (omega (arith, below, many)) in
      record {
        count = turn.count ∙ first.count;
        rests_are = turn.rests_are ∙ ap (λ moved. slice_set (rests rest now) session (drop 1 moved)) now_list
            ∙ map_over_more (drop 1) lists (rests rest now) session list
            (omega (arith, below, many)) first.rests_are
            (get_or_default lists session [] list (omega (arith, below, many)) ∙ sym (now_is list));
        journal = turn.journal ∙ ap (λ front. front ++ entries_of session (take 1 (get_or (rests rest now) session []))) first.journal
            ∙ ap (λ moved. (old.journal.items ++ heads 0 (take session lists)) ++ entries_of session (take 1 moved)) now_list
            ∙ append_assoc old.journal.items (heads 0 (take session lists)) (entries_of session (take 1 list))
            ∙ ap (λ more. old.journal.items ++ more) (ap
            (λ at. heads 0 (take session lists) ++ entries_of at (take 1 list))
            (omega (arith, length-take-le session lists (omega (arith, below, many))))
            ∙ sym (heads_more 0 (take session lists) list) ∙ ap (λ all. heads 0 all) (sym taken));
        answered = λ opening was. turn.answered opening (first.answered opening was);
        none = λ is. subst (λ all. AllByRecursion (λ list. list ≡ []) all) (sym taken) (all_more (take session lists) list (first.none (either is).0) (sym now_list ∙ turn.none (either is).1));
      }

  pub left_fewer : (left left' n : ℕ) (old now new : Run C State I R) (more : Bool) → left ≡ suc left'
      → WithRoundsLeft rest next reply text left n old now → Rounds rest next reply text now more new
      → WithRoundsLeft rest next reply text left' n old new
  left_fewer left left' n old now new more is was round = record {
    count = round.count ∙ was.count;
    journal = ap (λ front. front ++ rounds left' (rests rest new)) round.journal ∙ append_assoc now.journal.items (heads 0 (rests rest now)) (rounds left' (rests rest new))
        ∙ ap (λ lists. now.journal.items ++ (heads 0 (rests rest now) ++ rounds left' lists)) round.rests_are ∙ ap (λ m. now.journal.items ++ rounds m (rests rest now)) (sym is) ∙ was.journal;
    answered = λ opening had. round.answered opening (was.answered opening had);
  }

  pub left_none : (left n : ℕ) (old now new : Run C State I R)
      → WithRoundsLeft rest next reply text left n old now → Rounds rest next reply text now false new
      → AllRounds rest next reply text n old new
  left_none left n old now new was round =
      let none = round.none refl in
      record {
        count = round.count ∙ was.count;
        journal = round.journal ∙ ap (λ more. now.journal.items ++ more) (heads_none 0 (rests rest now) none ∙ sym (rounds_none left (rests rest now) none)) ∙ was.journal;
        answered = λ opening had. round.answered opening (was.answered opening had);
      }

  pub left_zero : (n : ℕ) (old now : Run C State I R) (left : ℕ) → left ≡ 0 → WithRoundsLeft rest next reply text left n old now → AllRounds rest next reply text n old now
  left_zero n old now left is was = record {
    count = was.count;
    journal = sym (append-nil now.journal.items) ∙ ap (λ m. now.journal.items ++ rounds m (rests rest now)) (sym is) ∙ was.journal;
    answered = was.answered;
  }
