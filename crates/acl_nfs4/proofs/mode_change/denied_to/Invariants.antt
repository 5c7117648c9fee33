use Rattle.std.proofs.Common.{◌≡◌, drop}
use Rattle.acl_names.specs.Bits.{◌∪◌}
use Rattle.acl_nfs4.specs.Mask.{mask_bits}
use Rattle.acl_nfs4.specs.ModeChange.{denied_to}
use Rattle.acl_nfs4.proofs.mode_change.denied_to.Given as goal

-- the bits so far, and what the entries to come deny, are the whole
abbrev pub invariant-loop-ace : goal.invariant-loop-ace
invariant-loop-ace l = mask_bits l.denied ∪ denied_to l.who (drop l.ace-index l.aces) ≡ denied_to l.who l.aces
