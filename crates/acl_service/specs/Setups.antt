-- Setups that are refused, as failures of a command.
use Rattle.std.specs.Prelude.{◌≡◌, ◌≢◌, ⊤, ℕ, List, Option, codes}
use Rattle.acl_cli.specs.Refusals.{Refusal, as_a_whole}
use Rattle.acl_cli.specs.SessionFiles.{HasBytes}
use Rattle.acl_cli.specs.declared.failure.Failure.{Failure}
use Rattle.acl_cli.specs.declared.failure.Failure.TheVariants.{Lacks, Refused}
use Rattle.acl_cli.specs.declared.run_fault.RunFault.TheVariants.{Memory}
use Rattle.acl_setup.specs.Opened.{IsRefusedBy}
use Rattle.acl_setup.specs.SetupFaults.{setup_error_words}
use Rattle.acl_setup.specs.declared.fault.SetupError.{SetupError}
use Rattle.acl_setup.specs.declared.fault.SetupError.TheVariants as setup

-- a setup is refused in the words of its fault
abbrev pub setup_refusal : SetupError → Refusal
setup_refusal error = as_a_whole (codes "setup") (setup_error_words error)

-- a fault of a setup is reported so, unless memory ran out
abbrev pub BecomesFailure : SetupError → Failure → Type 0
BecomesFailure error (Refused refusal) =
    (refusal ≡ setup_refusal error) × (error ≢ setup.Memory)
BecomesFailure error (Lacks Memory) = error ≡ setup.Memory
BecomesFailure error _ = ⊥

-- the setup of these bytes is refused so
abbrev pub IsRefusedSo : List ℕ → Refusal → Type 0
IsRefusedSo bytes refusal =
    (error : SetupError) × IsRefusedBy bytes error × (refusal ≡ setup_refusal error)

-- the setup of these bytes, if they are known, is refused for this, or memory ran out
abbrev pub IsSetupFailure : Option (List ℕ) → Failure → Type 0
IsSetupFailure known (Refused refusal) =
    (bytes : List ℕ) × HasBytes known bytes × IsRefusedSo bytes refusal
IsSetupFailure known (Lacks Memory) = ⊤
IsSetupFailure known _ = ⊥
