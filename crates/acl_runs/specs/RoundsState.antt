-- Private steps, which no public clause cites: what a run in rounds begins with, and what it
-- reports.
use Rattle.std.specs.Prelude.{◌≡◌, List, [], All, length, map}
use Rattle.acl_broker.specs.declared.steps.JournalEntry.{JournalEntry}
use Rattle.acl_runs.specs.declared.report.RunReport.{RunReport}
use Rattle.acl_runs.specs.Turns.{rests}
use Rattle.acl_runs.specs.declared.rounds.state.Run.{Run}

module _ {C State I R : Type 0} where
  -- each of these sessions, to which nothing was answered
  pub record HasBegun (rest : C → List I) (service : State) (sessions : List C)
      (run : Run C State I R) : Type 0 where
    pub count : length run.sessions.items ≡ length sessions
    pub rests_are : rests rest run ≡ map rest sessions
    pub service_is : run.service ≡ service
    pub journal : run.journal.items ≡ []
    pub fresh : All (λ progress. (progress.answers.items ≡ []) × (progress.output.items ≡ []))
        run.sessions.items

  -- the report has what the sessions were answered
  pub record IsReported (run : Run C State I R) (report : RunReport State (JournalEntry I) R) : Type
      0 where
    pub journal : report.journal ≡ run.journal
    pub service_is : report.service ≡ run.service
    pub answers : report.answers.items ≡ map (λ progress. progress.answers) run.sessions.items
    pub outputs : report.outputs.items ≡ map (λ progress. progress.output) run.sessions.items
