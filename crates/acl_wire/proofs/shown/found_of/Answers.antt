use Rattle.std.proofs.Common.{◌∙◌, sym}
use Rattle.acl_names.proofs.StepLemmas.{handed_on}
use Rattle.acl_nfs4.specs.Evaluation.{of_class}
use Rattle.acl_wire.proofs.DecisionLoop.{found_all, found_enough, goes_on-ends, goes_on-next}
use Rattle.acl_wire.proofs.shown.found_of.Goals as goal

pub returns-then-found-eq0 : goal.returns-then-found-eq0
returns-then-found-eq0 c =
    found_enough (of_class c.args.class.now) c.loop-raw.found c.args.raws.now c.loop-raw.raw-index _ c.loop-raw.invariant c.loop-raw-test.true c.if-found-eq0.true

pub returns-in_err-ace : goal.returns-in_err-ace
returns-in_err-ace c =
    handed_on _ _ c.from_residual.ensures.1
    ∙ goes_on-ends (of_class c.args.class.now) c.loop-raw.found c.args.raws.now c.loop-raw.raw-index _ c.loop-raw.invariant c.loop-raw-test.true c.if-found-eq0.false c.in_err-ace.field-0.0 (sym c.in_err-ace.ensures)

pub loop-raw-preserved : goal.loop-raw-preserved
loop-raw-preserved c =
    rw c.with_ace-found.ensures
    (goes_on-next (of_class c.args.class.now) c.loop-raw.found c.args.raws.now c.loop-raw.raw-index _ c.loop-raw.invariant c.loop-raw-test.true c.if-found-eq0.false c.in_ok-ace.ace (sym c.in_ok-ace.ensures))

pub returns : goal.returns
returns c = found_all (of_class c.args.class.now) c.loop-raw.found c.args.raws.now c.loop-raw.raw-index _ c.loop-raw.invariant c.loop-raw-test.false
