-- Private steps, which no public clause cites: what a run with all its workers does.
use Rattle.std.specs.Prelude.{◌≡◌, ◌≢◌, ℕ, ◌<◌, ◌≤◌, ◌^◌, false, List, [], All, length}
use Rattle.std.specs.Prelude.{vec_len, vec_capacity, slice_index_or, Option, Some}
use Rattle.std.specs.declared.vec.Vec.{Vec}
use Rattle.std.specs.declared.alloc.Global.{Global}
use Rattle.std.specs.declared.result.Result.{Result}
use Rattle.std.specs.declared.thread.PromisedHandle.{PromisedHandle}
use Rattle.acl_broker.specs.Ends.{AreEndsOf, sent_by, polled_by, is_closed}
use Rattle.acl_broker.specs.Takers.{TakerState, Keeps, view}
use Rattle.acl_broker.specs.declared.end.End.{End}
use Rattle.acl_broker.specs.declared.end.End.TheVariants.{Open}
use Rattle.acl_broker.specs.declared.steps.JournalEntry.{JournalEntry}
use Rattle.acl_runs.specs.Handling.{Handling}
use Rattle.acl_runs.specs.RunReport.{IsReport}
use Rattle.acl_runs.specs.Taking.{AreLimited, StartsWith}
use Rattle.acl_runs.specs.declared.serving.Begun.{Begun}
use Rattle.acl_broker.specs.declared.limits.TheConstants.{SESSIONS}
use Rattle.acl_runs.specs.declared.error_limits.ErrorLimits.{ErrorLimits}
use Rattle.acl_runs.specs.declared.report.RunReport.{RunReport}
use Rattle.acl_runs.specs.Workers.{IsServed, IsFinished}
use Rattle.acl_runs.specs.declared.worker.Finished.{Finished}
use Rattle.acl_runs.specs.declared.workers.Serves.{Serves}
use Rattle.acl_runs.specs.declared.workers.Gathered.{Gathered}
use Rattle.acl_runs.specs.declared.stop.ServeFault.{ServeFault}

module _ {I R : Type 0} where
  -- each of these ends is open, and nothing was submitted or polled by it
  abbrev pub AreFresh : List (End I R) → Type 0
  AreFresh ends = All (λ end. (is_closed end ≡ false) × (sent_by end ≡ []) × (polled_by end ≡ []))
      ends

module _ {State I R : Type 0} where
  -- what a run begins with: for each of so many sessions an open end of which nothing was submitted
  -- or polled, and their taker, which has taken nothing
  pub record IsReady (sessions : ℕ) (ends : List (End I R)) (taker : TakerState State I R) : Type 0
    where
      pub count : length ends ≡ sessions
      pub pairs : AreEndsOf ends taker.sides
      pub fresh : AreFresh ends
      pub journal : taker.journal ≡ []
      pub live : All (λ side. side.cancelled ≡ false) taker.sides

-- what a run begins with for these sessions
pub record IsBegun {C State I R K : Type 0} (rest : C → List I) (limit : Option ℕ)
    (sessions : List C) (begun : Begun State I R K) : Type 0 where
  pub ready : IsReady (length sessions) begun.ends.items (view begun.taker)
  pub limits : StartsWith limit (length sessions) begun.limits
  pub many : length sessions ≤ SESSIONS
  pub few : All (λ session. length (rest session) < 2 ^ 32) sessions
  pub some : limit ≢ Some 0

-- the handle of a worker
abbrev pub Handle : Type 0 → Type 0 → Type 0 → Type 0 → Type 0 → Type 0
Handle C P I R K = PromisedHandle (Result (Finished I R K) ServeFault) (Serves C P I R K)

module _ {C P I R K : Type 0} where
  -- the worker was started with this end and these requests
  pub record IsStarted (replies : P) (max_errors : Option ℕ) (end : End I R) (requests : C)
      (worker : Handle C P I R K) : Type 0 where
    pub start : Open worker.promise.start.value ≡ end
    pub requests_are : worker.promise.requests.value ≡ requests
    pub replies_are : worker.promise.replies.now ≡ replies
    pub max_errors_is : worker.promise.max_errors ≡ max_errors

  -- a worker for each session, each with its own end and its own requests
  pub record AreStarted (replies : P) (max_errors : Option ℕ) (ends : List (End I R))
      (sessions : List C) (workers : List (Handle C P I R K)) : Type 0 where
    pub count : length workers ≡ length sessions
    pub each : (session : ℕ) (end : End I R) (requests : C) (worker : Handle C P I R K)
        → session < length sessions → IsStarted replies max_errors (slice_index_or ends session end)
        (slice_index_or sessions session requests) (slice_index_or workers session worker)

  module _ (rest : C → List I) (handling : P → Handling R K) where
    -- what the worker's promise says of what it hands on
    abbrev pub IsKept : Handle C P I R K → End I R → List K → List ℕ → Type 0
    IsKept worker end answers output = IsFinished (handling worker.promise.replies.now)
        worker.promise.start.value worker.promise.max_errors (rest worker.promise.requests.value)
        end answers output

    -- each place has what the worker of that place handed on
    pub record AreGathered (workers : List (Handle C P I R K)) (gathered : Gathered I R K) : Type 0
      where
        pub ends : length gathered.ends.items ≡ length workers
        pub answers : length gathered.answers.items ≡ length workers
        pub outputs : length gathered.outputs.items ≡ length workers
        pub each : (session : ℕ) (worker : Handle C P I R K) (end : End I R)
            (answers : Vec K Global)
            (output : Vec ℕ Global) → session < length workers
            → IsKept (slice_index_or workers session worker)
            (slice_index_or gathered.ends.items session end)
            (slice_index_or gathered.answers.items session answers).items
            (slice_index_or gathered.outputs.items session output).items

module _ {I R K : Type 0} where
  -- nothing is there, and room for so many
  pub record HasRoom (count : ℕ) (gathered : Gathered I R K) : Type 0 where
    pub ends : (vec_len gathered.ends ≡ 0) × (count ≤ vec_capacity gathered.ends)
    pub answers : (vec_len gathered.answers ≡ 0) × (count ≤ vec_capacity gathered.answers)
    pub outputs : (vec_len gathered.outputs ≡ 0) × (count ≤ vec_capacity gathered.outputs)

  -- each place has the end, answers and output of a session that is served
  pub record AreServed (handling : Handling R K) (limit : Option ℕ) (wanted : List (List I))
      (gathered : Gathered I R K) : Type 0 where
    pub ends : length gathered.ends.items ≡ length wanted
    pub answers : length gathered.answers.items ≡ length wanted
    pub outputs : length gathered.outputs.items ≡ length wanted
    pub each : (session : ℕ) (none : List I) (end : End I R) (answers : Vec K Global)
        (output : Vec ℕ Global) → session < length wanted
        → IsServed handling limit (slice_index_or wanted session none)
        (slice_index_or gathered.ends.items session end)
        (slice_index_or gathered.answers.items session answers).items
        (slice_index_or gathered.outputs.items session output).items

-- the report of a run in which each session was served, whatever opening state its taker keeps
abbrev pub Settles : {State I R K : Type 0} → (State → I → State) → (State → I → R)
    → TakerState State I R → Gathered I R K → RunReport State (JournalEntry I) K → Type 0
Settles {State} {I} {R} {K} next reply taker gathered report =
    (handling : Handling R K) (opening : State) (limit : Option ℕ) (limits : ErrorLimits)
    (wanted : List (List I))
    → Keeps next reply opening taker → AreLimited handling.is_error limit limits taker.sides
    → AreServed handling limit wanted gathered
    → IsReport next reply handling opening limit wanted report

-- the report of a run that began with the opening state that this taker keeps
abbrev pub ReportsWhatIsKept : {State I R K : Type 0} → (State → I → State) → (State → I → R)
    → Handling R K → TakerState State I R → Option ℕ → List (List I)
    → RunReport State (JournalEntry I) K → Type 0
ReportsWhatIsKept {State} next reply handling taker limit wanted report =
    (opening : State) → Keeps next reply opening taker
    → IsReport next reply handling opening limit wanted report
