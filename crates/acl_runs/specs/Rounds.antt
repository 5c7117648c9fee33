-- A run in rounds: a request of each session in turn.
use Rattle.std.specs.Prelude.{◌≡◌, ℕ, zero, suc, ◌≤◌, List, [], ◌∷◌, ◌++◌, length, map, take, drop}
use Rattle.std.specs.List.{AllByRecursion, flat_map}
use Rattle.acl_broker.specs.Journal.{state_after, answers_to}
use Rattle.acl_broker.specs.Points.{EachSession}
use Rattle.acl_broker.specs.declared.steps.JournalEntry.{JournalEntry}
use Rattle.acl_runs.specs.declared.rounds.state.Run.{Run}

module _ {I : Type 0} where
  -- these items, as entries of a session
  abbrev pub entries_of : ℕ → List I → List (JournalEntry I)
  entries_of session [] = []
  entries_of session (item ∷ items) = record { session = session; item = item } ∷ entries_of session
      items

  -- the first of each of these lists that has one, in the order of the sessions, of which the first
  -- has this number
  abbrev pub heads : ℕ → List (List I) → List (JournalEntry I)
  heads session [] = []
  heads session (list ∷ lists) = entries_of session (take 1 list) ++ heads (suc session) lists

  -- so many rounds: the first of each list, then the second of each, and so on
  abbrev pub rounds : ℕ → List (List I) → List (JournalEntry I)
  rounds zero lists = []
  rounds (suc n) lists = heads 0 lists ++ rounds n (map (drop 1) lists)

  -- all rounds of these lists
  abbrev pub AreRounds : List (List I) → List (JournalEntry I) → Type 0
  AreRounds lists journal = (n : ℕ) × AllByRecursion (λ list. length list ≤ n) lists
      × (journal ≡ rounds n lists)

module _ {C State I R : Type 0} (next : State → I → State) (reply : State → I → R)
    (text : R → List ℕ) where
  -- the state is the journal's result, and each progress has the journal's answers to its session,
  -- and their text
  pub record Answered (opening : State) (run : Run C State I R) : Type 0 where
    pub state : run.service ≡ state_after next opening run.journal.items
    pub sessions : EachSession (λ session progress.
        (progress.answers.items ≡ answers_to next reply session opening run.journal.items)
        × (progress.output.items
        ≡ flat_map text (answers_to next reply session opening run.journal.items)))
        (length run.sessions.items) run.sessions.items
