use Rattle.std.proofs.Common.{sym}
use Rattle.acl_wire.specs.Decision.{values_of}
use Rattle.acl_wire.proofs.ValuesLemmas.{faultless}
use Rattle.acl_wire.proofs.ShownLemmas.{are-shown}
use Rattle.acl_wire.proofs.shown.raws_mode.Goals as goal

pub invariant_of-result : goal.invariant_of-result
invariant_of-result c =
    let some = faultless (values_of c.args.raws.now) (sym c.in_default.ensures) in
    are-shown some.0 _ _ _ (c.in_ok-user.ensures some.0 some.1) (c.in_ok-group.ensures some.0 some.1) (c.in_ok-other.ensures some.0 some.1)
