use Rattle.std.proofs.Common.{◌∙◌, sym}
use Rattle.acl_names.proofs.StepLemmas.{handed_on}
use Rattle.acl_nfs4.specs.Who.{matches}
use Rattle.acl_wire.proofs.DecisionLoop.{found_all, found_enough, goes_on-ends, goes_on-next}
use Rattle.acl_wire.proofs.decision.found_in.Goals as goal

pub returns-then-found-eq0 : goal.returns-then-found-eq0
returns-then-found-eq0 g c =
    let applies = matches c.args.owner c.args.group (g.S.Subject.identity c.args.subject.now) in
    found_enough applies c.loop-raw.found c.args.raws.now c.loop-raw.raw-index _ c.loop-raw.invariant c.loop-raw-test.true c.if-found-eq0.true

pub returns-in_err-ace : goal.returns-in_err-ace
returns-in_err-ace g c =
    let applies = matches c.args.owner c.args.group (g.S.Subject.identity c.args.subject.now) in
    handed_on _ _ c.from_residual.ensures.1
    ∙ goes_on-ends applies c.loop-raw.found c.args.raws.now c.loop-raw.raw-index _ c.loop-raw.invariant c.loop-raw-test.true c.if-found-eq0.false c.in_err-ace.field-0.0 (sym c.in_err-ace.ensures)

pub loop-raw-preserved : goal.loop-raw-preserved
loop-raw-preserved g c =
    let applies = matches c.args.owner c.args.group (g.S.Subject.identity c.args.subject.now) in
    rw c.with_ace-found.ensures
    (goes_on-next applies c.loop-raw.found c.args.raws.now c.loop-raw.raw-index _ c.loop-raw.invariant c.loop-raw-test.true c.if-found-eq0.false c.in_ok-ace.ace (sym c.in_ok-ace.ensures))

pub returns : goal.returns
returns g c =
    let applies = matches c.args.owner c.args.group (g.S.Subject.identity c.args.subject.now) in
    found_all applies c.loop-raw.found c.args.raws.now c.loop-raw.raw-index _ c.loop-raw.invariant c.loop-raw-test.false
