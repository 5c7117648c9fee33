use Rattle.std.proofs.Common.{◌≡◌, drop}
use Rattle.acl_wire.specs.Decision.{values_of}
use Rattle.acl_wire.specs.XdrRaws.{fault_in}
use Rattle.acl_wire.proofs.values.raws_fault.Given as goal

-- what is wrong with the entries to come is what is wrong with all
abbrev pub invariant-loop-raw : goal.invariant-loop-raw
invariant-loop-raw l = fault_in (values_of (drop l.raw-index l.raws)) ≡ fault_in (values_of l.raws)
