-- The words of faults of setups.
use Rattle.std.specs.Prelude.{ℕ, List, codes}
use Rattle.acl_names.specs.declared.directory.fault.SetupFault.{SetupFault}
use Rattle.acl_names.specs.declared.directory.fault.SetupFault.TheVariants as parts
use Rattle.acl_setup.specs.declared.fault.SetupError.{SetupError}
use Rattle.acl_setup.specs.declared.fault.SetupError.TheVariants as setup

abbrev pub parts_fault_words : SetupFault → List ℕ
parts_fault_words parts.BadName = codes "bad name"
parts_fault_words parts.RepeatedName = codes "repeated name"
parts_fault_words parts.RepeatedId = codes "repeated id"
parts_fault_words parts.UnknownGroup = codes "unknown group"
parts_fault_words parts.TooMany = codes "too many"
parts_fault_words parts.Memory = codes "memory"

abbrev pub setup_error_words : SetupError → List ℕ
setup_error_words (setup.NotToml spot) = codes "not toml"
setup_error_words (setup.BadField key) = codes "bad field"
setup_error_words (setup.Parts fault key) = parts_fault_words fault
setup_error_words setup.Memory = codes "memory"
