-- The line about a valid command that failed.
use Rattle.std.specs.Prelude.{ℕ, List, codes}
use Rattle.acl_cli.specs.declared.run_fault.RunFault.{RunFault}
use Rattle.acl_cli.specs.declared.run_fault.RunFault.TheVariants.{Memory, Stopped}
use Rattle.acl_cli.specs.declared.run_fault.RunFault.TheVariants.{NoThread, Output}

abbrev pub run_fault_words : RunFault → List ℕ
run_fault_words Memory = codes "memory"
run_fault_words Stopped = codes "stopped"
run_fault_words NoThread = codes "no thread"
run_fault_words Output = codes "output"
