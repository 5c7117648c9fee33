-- Private steps, which no public clause cites: what a turn does.
use Rattle.std.specs.Prelude.{◌≡◌, ℕ, Bool, false, List, [], ◌∷◌, ◌++◌, length, map, take, drop}
use Rattle.std.specs.Prelude.{slice_index_or, slice_set, Option, Some, None}
use Rattle.std.specs.List.{AllByRecursion}
use Rattle.acl_runs.specs.Rounds.{entries_of, heads, rounds, Answered}
use Rattle.acl_runs.specs.declared.rounds.state.Progress.{Progress}
use Rattle.acl_runs.specs.declared.rounds.state.Run.{Run}

module _ {C State I R : Type 0} (rest : C → List I) where
  -- what each session still wants
  abbrev pub rests : Run C State I R → List (List I)
  rests run = map (λ (progress : Progress C R). rest progress.requests) run.sessions.items

module _ {C State I R : Type 0} (rest : C → List I) (next : State → I → State)
    (reply : State → I → R) (text : R → List ℕ) where
  -- a session's next request was answered, if it had one
  abbrev pub AnswersNext : State → Progress C R → Option I → State → Progress C R → Type 0
  AnswersNext service progress None service' progress' =
      (rest progress.requests ≡ []) × (rest progress'.requests ≡ []) × (service' ≡ service)
      × (progress'.answers.items ≡ progress.answers.items)
      × (progress'.output.items ≡ progress.output.items)
  AnswersNext service progress (Some item) service' progress' =
      (rest progress.requests ≡ item ∷ rest progress'.requests) × (service' ≡ next service item)
      × (progress'.answers.items ≡ progress.answers.items ++ reply service item ∷ [])
      × (progress'.output.items ≡ progress.output.items ++ text (reply service item))

  -- the turn of a session: its next request entered the journal, if it had one
  pub record Turns (session : ℕ) (old : Run C State I R) (more : Bool) (new : Run C State I R) :
      Type 0 where
    pub count : length new.sessions.items ≡ length old.sessions.items
    pub rests_are : rests rest new ≡ slice_set (rests rest old) session
        (drop 1 (slice_index_or (rests rest old) session []))
    pub journal : new.journal.items ≡ old.journal.items
        ++ entries_of session (take 1 (slice_index_or (rests rest old) session []))
    pub answered : (opening : State) → Answered next reply text opening old
        → Answered next reply text opening new
    pub none : more ≡ false → slice_index_or (rests rest old) session [] ≡ []

  -- the same of the first sessions alone, so many of them
  pub record TurnsOfFirst (sessions : ℕ) (old : Run C State I R) (more : Bool)
      (new : Run C State I R) : Type 0 where
    pub count : length new.sessions.items ≡ length old.sessions.items
    pub rests_are : rests rest new ≡ map (drop 1) (take sessions (rests rest old))
        ++ drop sessions (rests rest old)
    pub journal : new.journal.items ≡ old.journal.items ++ heads 0 (take sessions (rests rest old))
    pub answered : (opening : State) → Answered next reply text opening old
        → Answered next reply text opening new
    pub none : more ≡ false → AllByRecursion (λ list. list ≡ []) (take sessions (rests rest old))

  -- a round: the next request of each session entered the journal
  pub record Rounds (old : Run C State I R) (more : Bool) (new : Run C State I R) : Type 0 where
    pub count : length new.sessions.items ≡ length old.sessions.items
    pub rests_are : rests rest new ≡ map (drop 1) (rests rest old)
    pub journal : new.journal.items ≡ old.journal.items ++ heads 0 (rests rest old)
    pub answered : (opening : State) → Answered next reply text opening old
        → Answered next reply text opening new
    pub none : more ≡ false → AllByRecursion (λ list. list ≡ []) (rests rest old)

  -- so many rounds, or fewer if nothing was left
  pub record AllRounds (n : ℕ) (old new : Run C State I R) : Type 0 where
    pub count : length new.sessions.items ≡ length old.sessions.items
    pub journal : new.journal.items ≡ old.journal.items ++ rounds n (rests rest old)
    pub answered : (opening : State) → Answered next reply text opening old
        → Answered next reply text opening new

  -- the same with so many rounds left
  pub record WithRoundsLeft (left n : ℕ) (old now : Run C State I R) : Type 0 where
    pub count : length now.sessions.items ≡ length old.sessions.items
    pub journal : now.journal.items ++ rounds left (rests rest now)
        ≡ old.journal.items ++ rounds n (rests rest old)
    pub answered : (opening : State) → Answered next reply text opening old
        → Answered next reply text opening now
