use Rattle.std.proofs.Common.{◌≡◌, ◌-◌}
use Rattle.acl_wire.specs.XdrRaws.{fault_in, raws_at, whole}
use Rattle.acl_wire.proofs.xdr_raws.fault_of.Given as goal

abbrev pub invariant-loop : goal.invariant-loop
invariant-loop l = fault_in (whole (raws_at (l.count - l.counter) l.rest)) ≡ fault_in (whole (raws_at l.count l.bytes))
