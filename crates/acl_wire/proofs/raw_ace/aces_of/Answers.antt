use Rattle.std.proofs.Common.{◌≡◌, ◌∷◌, [], Err, sym, arith, length-append}
use Rattle.acl_wire.specs.RawAces.{aces_of}
use Rattle.acl_wire.proofs.AcesLoop.{answers-err, goes_on, ends, ends_at, is_done}
use Rattle.acl_wire.proofs.raw_ace.aces_of.Goals as goal
use Rattle.acl_names.proofs.StepLemmas.{handed_on}

pub loop-raw-preserved : goal.loop-raw-preserved
loop-raw-preserved c =
    let more = goes_on c.args.purpose c.loop-raw.aces c.args.raws.now c.loop-raw.raw-index c.loop-raw-test.true c.loop-raw.invariant.so_far c.in_ok-ace.ace (rw c.seen.ensures at (sym c.in_ok-ace.ensures)) c.in_ok-push.ensures.value in
    record {
      so_far = rw c.in_ok-push.ensures.ok more;
      count = rw c.in_ok-push.ensures.ok (omega (arith, length-append c.loop-raw.aces (c.in_ok-ace.ace ∷ []), c.loop-raw.invariant.count));
    }

pub returns-in_err-ace-clause-value : goal.returns-in_err-ace-clause-value
returns-in_err-ace-clause-value c =
    let fault = c.in_err-ace.field-0.0 in
    let is = ends c.args.purpose c.loop-raw.aces c.args.raws.now c.loop-raw.raw-index c.loop-raw-test.true c.loop-raw.invariant.so_far fault (rw c.seen.ensures at (sym c.in_err-ace.ensures)) in
    rw (handed_on c.from_residual-in_err-ace.result _ c.from_residual-in_err-ace.ensures.1) is

pub returns-in_err-push-clause-value : goal.returns-in_err-push-clause-value
returns-in_err-push-clause-value c =
    let error = c.in_err-push.field-0.0 in
    let fails = ends_at c.args.purpose c.loop-raw.aces c.args.raws.now c.loop-raw.raw-index c.loop-raw-test.true c.loop-raw.invariant.so_far c.in_ok-ace.ace error (rw c.seen.ensures at (sym c.in_ok-ace.ensures)) c.in_err-push.ensures.value in
    let is : c.from_residual-in_err-push.result ≡ Err error = handed_on _ _ c.from_residual-in_err-push.ensures.1 in
    answers-err (λ aces. aces) c.from_residual-in_err-push.result error (aces_of c.args.purpose c.args.raws.now) is fails

pub returns-clause-value : goal.returns-clause-value
returns-clause-value c = is_done c.args.purpose c.loop-raw.aces c.args.raws.now c.loop-raw.raw-index c.loop-raw-test.false c.loop-raw.invariant.so_far
