use Rattle.std.proofs.Common.{sym}
use Rattle.acl_wire.proofs.ValuesLemmas.{all_values, value_ends, value_next}
use Rattle.acl_wire.proofs.values.raws_fault.Goals as goal

pub loop-raw-preserved : goal.loop-raw-preserved
loop-raw-preserved c =
    value_next c.args.raws.now c.loop-raw.raw-index _ c.loop-raw.invariant c.loop-raw-test.true c.in_default.field-0 (sym c.in_default.ensures)

pub returns-in-Err : goal.returns-in-Err
returns-in-Err c =
    value_ends c.args.raws.now c.loop-raw.raw-index _ c.loop-raw.invariant c.loop-raw-test.true c.in-Err.fault (sym c.in-Err.ensures)

pub returns : goal.returns
returns c = all_values c.args.raws.now c.loop-raw.raw-index _ c.loop-raw.invariant c.loop-raw-test.false
