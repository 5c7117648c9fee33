use Rattle.std.proofs.Common.{true, false, cond, Some, None, ap, ap₂, sym}
use Rattle.acl_names.specs.Bits.{has}
use Rattle.acl_wire.proofs.DeletionLemmas.{is_in, is_not_in}
use Rattle.acl_wire.proofs.deletion.said_in.Goals as goal

pub returns-then-decided-bit : goal.returns-then-decided-bit
returns-then-decided-bit c = λ place is.
    sym (ap (λ a. cond a (Some true) (cond (has c.args.decided.denied place) (Some false) None))
    (is_in c.args.decided.allowed c.args.bit place is c.if-decided-bit.true))

pub returns-then-decided-bit-2 : goal.returns-then-decided-bit-2
returns-then-decided-bit-2 c = λ place is.
    sym (ap₂ (λ a d. cond a (Some true) (cond d (Some false) None))
    (is_not_in c.args.decided.allowed c.args.bit place is c.if-decided-bit.false) (is_in c.args.decided.denied c.args.bit place is c.if-decided-bit-2.true))

pub returns-else-decided-bit-2 : goal.returns-else-decided-bit-2
returns-else-decided-bit-2 c = λ place is.
    sym (ap₂ (λ a d. cond a (Some true) (cond d (Some false) None))
    (is_not_in c.args.decided.allowed c.args.bit place is c.if-decided-bit.false) (is_not_in c.args.decided.denied c.args.bit place is c.if-decided-bit-2.false))
