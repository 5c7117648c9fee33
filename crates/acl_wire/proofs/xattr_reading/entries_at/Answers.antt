use Rattle.std.proofs.Common.{◌≡◌, ◌++◌, ◌∷◌, [], ◌-◌, ◌+◌, length-append, arith, sym}
use Rattle.acl_names.proofs.StepLemmas.{handed_on}
use Rattle.acl_wire.specs.XattrReading.{entries_at}
use Rattle.acl_wire.proofs.EntriesLoop.{with_front, goes_on, ends, ends_at, is_done}
use Rattle.acl_wire.proofs.xattr_reading.entries_at.Goals as goal

pub returns-in_err-fields-clause-value : goal.returns-in_err-fields-clause-value
returns-in_err-fields-clause-value c =
    let fault = c.in_err-fields.field-0.0 in
    let is = ends c.loop.entries.items c.args.count c.loop.counter c.loop.rest.now fault (entries_at c.args.count c.args.bytes.now) c.loop-test.true c.in_err-fields.ensures c.loop.invariant.so_far in
    rw (handed_on c.from_residual.result _ c.from_residual.ensures.1) is

pub returns-in_err-entry-clause-value : goal.returns-in_err-entry-clause-value
returns-in_err-entry-clause-value c =
    let fault = c.in_err-entry.field-0.0 in
    let is = ends_at c.loop.entries.items c.args.count c.loop.counter c.loop.rest.now c.in_ok-fields.fields c.in_ok-fields.behind.now fault (entries_at c.args.count c.args.bytes.now) c.loop-test.true
    c.in_ok-fields.ensures (sym c.in_err-entry.ensures) c.loop.invariant.so_far in
    rw (handed_on c.from_residual-in_err-entry.result _ c.from_residual-in_err-entry.ensures.1) is

pub returns-clause-value : goal.returns-clause-value
returns-clause-value c = is_done c.loop.entries.items c.args.count c.loop.counter c.loop.rest.now (entries_at c.args.count c.args.bytes.now) c.loop-test.false c.loop.invariant.so_far

pub loop-preserved : goal.loop-preserved
loop-preserved c =
    let pushed : c.push.new.self.items ≡ c.loop.entries.items ++ c.in_ok-entry.entry ∷ [] = c.push.ensures.items in
    let more : with_front (c.loop.entries.items ++ c.in_ok-entry.entry ∷ []) (entries_at (c.args.count - (c.loop.counter + 1)) c.in_ok-fields.behind.now) ≡ entries_at c.args.count c.args.bytes.now =
    goes_on c.loop.entries.items c.args.count c.loop.counter c.loop.rest.now c.in_ok-fields.fields c.in_ok-entry.entry c.in_ok-fields.behind.now (entries_at c.args.count c.args.bytes.now) c.loop-test.true
    c.in_ok-fields.ensures (sym c.in_ok-entry.ensures) c.loop.invariant.so_far in
    record {
      so_far = rw pushed more;
      count = rw pushed (omega (arith, length-append c.loop.entries.items (c.in_ok-entry.entry ∷ []), c.loop.invariant.count));
    }
