-- What a run reports.
use Rattle.std.specs.Prelude.{◌≡◌, ℕ, ◌<◌, List, length, map, Option}
use Rattle.std.specs.List.{AllByRecursion, flat_map}
use Rattle.acl_broker.specs.Journal.{items_from, state_after, answers_to}
use Rattle.acl_broker.specs.Points.{EachSession}
use Rattle.acl_broker.specs.declared.steps.JournalEntry.{JournalEntry}
use Rattle.acl_runs.specs.ErrorLimit.{IsServedUpTo}
use Rattle.acl_runs.specs.Handling.{Handling}
use Rattle.acl_runs.specs.declared.report.RunReport.{RunReport}

module _ {State I R K : Type 0} (next : State → I → State) (reply : State → I → R)
    (handling : Handling R K) where
  -- what a run reports that began with this state, for sessions with these requests
  pub record IsReport (opening : State) (limit : Option ℕ) (wanted : List (List I))
      (report : RunReport State (JournalEntry I) K) : Type 0 where
    -- each entry is of a session,
    pub known : AllByRecursion (λ entry. entry.session < length wanted) report.journal.items
    -- the journal has the whole of what each session wanted, up to its last error that is allowed,
    pub served : EachSession (λ session requests. IsServedUpTo handling.is_error limit requests
        (items_from session report.journal.items)
        (answers_to next reply session opening report.journal.items)) (length wanted) wanted
    -- what is kept of a session's answers is of those of the journal, each at its place,
    pub answers : EachSession (λ session kept. kept.items
        ≡ map handling.keep (answers_to next reply session opening report.journal.items))
        (length wanted) report.answers.items
    -- its output is their text,
    pub outputs : EachSession (λ session output. output.items
        ≡ flat_map handling.text (answers_to next reply session opening report.journal.items))
        (length wanted) report.outputs.items
    -- and the state is the journal's result
    pub state : report.service ≡ state_after next opening report.journal.items
