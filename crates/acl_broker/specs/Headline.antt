-- What a broker is for: its journal is a merge of prefixes of what its sessions submitted.
use Rattle.std.specs.Prelude.{◌≡◌, ℕ, ◌<◌, true, false, List, [], ◌++◌}
use Rattle.std.specs.List.{AllByRecursion}
use mathlib.Core.List.{IsPrefix}
use Rattle.acl_broker.specs.Journal.{items_from, state_after, answers_to}
use Rattle.acl_broker.specs.Points.{Point, BrokerState, StandsAt, is_among}
use Rattle.acl_broker.specs.Steps.{History, accepted_in, handed_in, taken_in, closed_in}
use Rattle.acl_broker.specs.Steps.{cancelled_in, sessions_of}
use Rattle.acl_broker.specs.declared.steps.JournalEntry.{JournalEntry}

module _ {I : Type 0} where
  -- each entry is of a session, and the items of a session are the first of those accepted from it:
  -- each once, and in its order
  abbrev pub IsMergeOfPrefixes : ℕ → (ℕ → List I) → List (JournalEntry I) → Type 0
  IsMergeOfPrefixes sessions accepted journal =
      AllByRecursion (λ entry. entry.session < sessions) journal
      × ((session : ℕ) → session < sessions → IsPrefix (items_from session journal)
      (accepted session))

  -- the new journal is the old one, with an entry for each of these takes
  abbrev pub GrowsByTakes : List ℕ → List (JournalEntry I) → List (JournalEntry I) → Type 0
  GrowsByTakes taken old new = (entries : List (JournalEntry I)) × (new ≡ old ++ entries)
      × (sessions_of entries ≡ taken)

module _ {I R : Type 0} where
  -- wherever the history is cut, nothing is accepted later from a session that had ended by then
  abbrev pub NoneAcceptedAfter : (History I R → List ℕ) → List ℕ → History I R → Type 0
  NoneAcceptedAfter ended_in ended history =
      (session : ℕ) (before later : History I R) → history ≡ before ++ later
      → is_among session (ended ++ ended_in before) ≡ true → accepted_in later session ≡ []

  -- wherever the history is cut, nothing is taken later of a session that had ended by then
  abbrev pub NoneTakenAfter : (History I R → List ℕ) → List ℕ → History I R → Type 0
  NoneTakenAfter ended_in ended history =
      (session : ℕ) (before later : History I R) → history ≡ before ++ later
      → is_among session (ended ++ ended_in before) ≡ true
      → is_among session (taken_in later) ≡ false

module _ {State I R : Type 0} (next : State → I → State) (reply : State → I → R) where
  -- what a history has made of a broker that stood at a point
  pub record IsMergedBy (point : Point State I R) (history : History I R)
      (broker : BrokerState State I R) : Type 0 where
    -- the journal is a merge of prefixes of the sessions' accepted commands, each once, in its
    -- session's order,
    pub merge : IsMergeOfPrefixes point.sessions
        (λ session. point.accepted session ++ accepted_in history session) broker.journal
    -- one entry for each take that gave a place;
    pub takes : GrowsByTakes (taken_in history) point.journal broker.journal
    -- none was submitted after that session's close, nor after its cancel,
    pub none_after_close : NoneAcceptedAfter closed_in point.closed history
    pub none_after_cancel : NoneAcceptedAfter cancelled_in point.cancelled history
    -- and none was taken after its cancel;
    pub none_taken_after_cancel : NoneTakenAfter cancelled_in point.cancelled history
    -- each answer is the service's answer at its place, in order;
    pub answers : (session : ℕ) → session < point.sessions
        → IsPrefix (point.handed session ++ handed_in history session)
        (answers_to next reply session point.opening broker.journal)
    -- and the state is the journal's result
    pub state : broker.service ≡ state_after next point.opening broker.journal

  -- wherever the old broker stood, the history makes that of the new one
  abbrev pub Merges : BrokerState State I R → History I R → BrokerState State I R → Type 0
  Merges old history new = (point : Point State I R) → StandsAt next reply point old
      → IsMergedBy point history new
