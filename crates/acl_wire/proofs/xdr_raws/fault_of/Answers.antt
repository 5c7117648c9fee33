use Rattle.std.proofs.Common.{◌∙◌, Bool, cond, Ok, Err, sym, ap}
use Rattle.acl_wire.specs.XdrRaws.{fault_in}
use Rattle.acl_wire.specs.declared.fault.Nfs4Fault.TheVariants as faults
use Rattle.acl_wire.proofs.XdrRawsLoop.{ends, ends_at, goes_on, is_done, no_raws}
use Rattle.acl_wire.proofs.xdr_raws.fault_of.Goals as goal

pub loop-preserved : goal.loop-preserved
loop-preserved c =
    goes_on c.args.count c.loop.counter c.loop.rest.now _ c.loop.invariant c.loop-test.true c.in-Ok.read.0 c.in-Ok.read.1.now c.in_default.field-0 c.in-Ok.ensures (sym c.in_default.ensures)

pub returns-in-Err : goal.returns-in-Err
returns-in-Err c = ends c.args.count c.loop.counter c.loop.rest.now _ c.loop.invariant c.loop-test.true c.in-Err.fault c.in-Err.ensures

pub returns-in-Err-value_of : goal.returns-in-Err-value_of
returns-in-Err-value_of c =
    ends_at c.args.count c.loop.counter c.loop.rest.now _ c.loop.invariant c.loop-test.true c.in-Ok.read.0 c.in-Ok.read.1.now c.in-Err-value_of.fault c.in-Ok.ensures (sym c.in-Err-value_of.ensures)

pub returns-then-is_empty : goal.returns-then-is_empty
returns-then-is_empty c =
    sym (ap (λ (b : Bool). fault_in (cond b (Ok no_raws) (Err faults.Size))) (sym c.is_empty.ensures ∙ c.if-is_empty.true))
    ∙ is_done c.args.count c.loop.counter c.loop.rest.now _ c.loop.invariant c.loop-test.false

pub returns-else-is_empty : goal.returns-else-is_empty
returns-else-is_empty c =
    sym (ap (λ (b : Bool). fault_in (cond b (Ok no_raws) (Err faults.Size))) (sym c.is_empty.ensures ∙ c.if-is_empty.false))
    ∙ is_done c.args.count c.loop.counter c.loop.rest.now _ c.loop.invariant c.loop-test.false
