use Rattle.std.proofs.Common.{arith, refl, rules}
use Rattle.acl_listings.proofs.NewlineLemmas.{Turn, counted_here, ends_here, few_here, goes_on, turn_at}
use Rattle.acl_listings.proofs.extent.extent_at_once.Goals as goal

pub overflow_add-result-then-empty-ne0 : goal.overflow_add-result-then-empty-ne0
overflow_add-result-then-empty-ne0 c =
    let turn : Turn c.args.text.now c.loop-at.at c.loop-at.newlines c.newlines_at-marks.result c.count_below.result _ =
    turn_at (omega (arith, c.loop-at-test.true)) c.loop-at.invariant.none c.loop-at.invariant.counted c.newlines_at-marks.ensures (c.count_below.ensures _ c.newlines_at-marks.ensures) in
    search (rules, few_here turn, turn.room, c.loop-at.invariant.few)

pub returns-then-empty-ne0 : goal.returns-then-empty-ne0
returns-then-empty-ne0 c =
    let turn : Turn c.args.text.now c.loop-at.at c.loop-at.newlines c.newlines_at-marks.result c.count_below.result _ =
    turn_at (omega (arith, c.loop-at-test.true)) c.loop-at.invariant.none c.loop-at.invariant.counted c.newlines_at-marks.ensures (c.count_below.ensures _ c.newlines_at-marks.ensures) in
    ends_here turn refl c.if-empty-ne0.true c.requires

pub overflow_add-newlines : goal.overflow_add-newlines
overflow_add-newlines c =
    let turn : Turn c.args.text.now c.loop-at.at c.loop-at.newlines c.newlines_at-marks.result c.count_below-newlines.result 63 =
    turn_at (omega (arith, c.loop-at-test.true)) c.loop-at.invariant.none c.loop-at.invariant.counted c.newlines_at-marks.ensures (c.count_below-newlines.ensures _ c.newlines_at-marks.ensures) in
    search (rules, few_here turn, turn.room, c.loop-at.invariant.few)

pub loop-at-preserved : goal.loop-at-preserved
loop-at-preserved c =
    let turn : Turn c.args.text.now c.loop-at.at c.loop-at.newlines c.newlines_at-marks.result c.count_below-newlines.result 63 =
    turn_at (omega (arith, c.loop-at-test.true)) c.loop-at.invariant.none c.loop-at.invariant.counted c.newlines_at-marks.ensures (c.count_below-newlines.ensures _ c.newlines_at-marks.ensures) in
    record {
      within = omega (arith, turn.room);
      few = omega (arith, few_here turn, c.loop-at.invariant.few);
      none = goes_on turn c.if-empty-ne0.false;
      counted = counted_here turn (omega arith);
    }
