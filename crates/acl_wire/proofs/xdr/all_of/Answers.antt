use Rattle.std.proofs.Common.{◌≡◌, ◌∙◌, ◌∷◌, [], Err, eqb, true, false, length, refl, sym, arith, length-append}
use Rattle.acl_names.proofs.StepLemmas.{handed_on}
use Rattle.acl_wire.specs.Xdr.{all_of}
use Rattle.acl_wire.proofs.AcesLoop.{answers-err}
use Rattle.acl_wire.proofs.XdrLoop.{goes_on, ends, ends_at, fails_at, is_done}
use Rattle.acl_wire.proofs.xdr.all_of.Goals as goal

pub loop-preserved : goal.loop-preserved
loop-preserved c =
    let more = goes_on c.loop.aces c.args.count c.loop.counter c.loop.rest.now c.args.bytes.now c.loop.invariant.so_far c.loop-test.true c.in_ok-raw.raw c.in_ok-raw.behind.now c.in_ok-ace.ace
    c.in_ok-raw.ensures (sym c.in_ok-ace.ensures) c.in_ok-push.ensures.value in
    record {
      so_far = rw c.in_ok-push.ensures.ok more;
      count = rw c.in_ok-push.ensures.ok (omega (arith, length-append c.loop.aces (c.in_ok-ace.ace ∷ []), c.loop.invariant.count));
    }

pub returns-in_err-raw-clause-value : goal.returns-in_err-raw-clause-value
returns-in_err-raw-clause-value c =
    let is = ends c.loop.aces c.args.count c.loop.counter c.loop.rest.now c.args.bytes.now c.loop.invariant.so_far c.loop-test.true c.in_err-raw.field-0.0 c.in_err-raw.ensures in
    rw (handed_on c.from_residual.result _ c.from_residual.ensures.1) is

pub returns-in_err-ace-clause-value : goal.returns-in_err-ace-clause-value
returns-in_err-ace-clause-value c =
    let is = ends_at c.loop.aces c.args.count c.loop.counter c.loop.rest.now c.args.bytes.now c.loop.invariant.so_far c.loop-test.true c.in_ok-raw.raw c.in_ok-raw.behind.now c.in_err-ace.field-0.0
    c.in_ok-raw.ensures (sym c.in_err-ace.ensures) in
    rw (handed_on c.from_residual-in_err-ace.result _ c.from_residual-in_err-ace.ensures.1) is

pub returns-in_err-push-clause-value : goal.returns-in_err-push-clause-value
returns-in_err-push-clause-value c =
    let error = c.in_err-push.field-0.0 in
    let fails = fails_at c.loop.aces c.args.count c.loop.counter c.loop.rest.now c.args.bytes.now c.loop.invariant.so_far c.loop-test.true c.in_ok-raw.raw c.in_ok-raw.behind.now c.in_ok-ace.ace error
    c.in_ok-raw.ensures (sym c.in_ok-ace.ensures) c.in_err-push.ensures.value in
    let is : c.from_residual-in_err-push.result ≡ Err error = handed_on _ _ c.from_residual-in_err-push.ensures.1 in
    answers-err (λ aces. aces) c.from_residual-in_err-push.result error (all_of c.args.count c.args.bytes.now) is fails

pub returns-then-not-is_empty-clause-value : goal.returns-then-not-is_empty-clause-value
returns-then-not-is_empty-clause-value c =
    let all = is_done c.loop.aces c.args.count c.loop.counter c.loop.rest.now c.args.bytes.now c.loop.invariant.so_far c.loop-test.false in
    let more : eqb (length c.loop.rest.now) 0 ≡ false = sym c.is_empty.ensures ∙ c.if-not-is_empty.true in
    rw (all, more) refl

pub returns-clause-value : goal.returns-clause-value
returns-clause-value c =
    let all = is_done c.loop.aces c.args.count c.loop.counter c.loop.rest.now c.args.bytes.now c.loop.invariant.so_far c.loop-test.false in
    let none : eqb (length c.loop.rest.now) 0 ≡ true = sym c.is_empty.ensures ∙ c.if-not-is_empty.false in
    rw (all, none) refl
