-- Why sessions come to nothing, or not to all that they print.
use Rattle.std.specs.Prelude.{◌<◌, ◌≤◌, ⊤, ℕ, List}
use Rattle.acl_broker.specs.declared.limits.TheConstants.{SESSIONS}
use Rattle.acl_cli.specs.Failures.{failed_write, out_of_memory}
use Rattle.acl_cli.specs.declared.failure.Failure.{Failure}
use Rattle.acl_cli.specs.declared.failure.Failure.TheVariants.{Lacks, Misuse, Refused}
use Rattle.acl_cli.specs.declared.misuse.Misuse.TheVariants.{TooManySessions}
use Rattle.acl_cli.specs.declared.run_fault.RunFault.TheVariants as run
use Rattle.acl_runs.specs.declared.stop.ServeFault.{ServeFault}
use Rattle.acl_runs.specs.declared.stop.ServeFault.TheVariants as serve
use Rattle.acl_service.specs.declared.one.OneFault.{OneFault}
use Rattle.acl_service.specs.declared.one.OneFault.TheVariants as one
use Rattle.acl_service.specs.Setups.{IsRefusedSo}

-- what one session by itself lacks
abbrev pub failure_of_one : OneFault → Failure
failure_of_one one.Memory = out_of_memory
failure_of_one one.Write = failed_write

-- what a run lacks
abbrev pub failure_of_serve : ServeFault → Failure
failure_of_serve serve.Memory = out_of_memory
failure_of_serve serve.GateStopped = Lacks run.Stopped
failure_of_serve serve.ThreadRefused = Lacks run.NoThread

-- so many sessions with this setup are refused for this: there are too many, or else for the setup;
-- of a run that lacked something nothing is said but that there weren't too many
abbrev pub IsTextsFailure : List ℕ → ℕ → Failure → Type 0
IsTextsFailure bytes sessions (Misuse TooManySessions) = SESSIONS < sessions
IsTextsFailure bytes sessions (Refused refusal) = (sessions ≤ SESSIONS) × IsRefusedSo bytes refusal
IsTextsFailure bytes sessions (Lacks lack) = sessions ≤ SESSIONS
IsTextsFailure bytes sessions _ = ⊥

-- a run that was begun lacked something
abbrev pub IsLack : Failure → Type 0
IsLack (Lacks lack) = ⊤
IsLack _ = ⊥
