use Rattle.std.proofs.Common.{◌+◌, ◌-◌, arith, subst}
use Rattle.acl_runs.specs.Turns.{Rounds}
use Rattle.acl_runs.proofs.TurnLemmas.{left_fewer, left_none, left_zero}
use Rattle.acl_runs.proofs.rounds.turns.take_rounds.Goals as goal

pub returns-then-not-branch : goal.returns-then-not-branch
returns-then-not-branch g c =
    left_none _ _ _ _ (c.args.most - c.loop.counter) c.args.most c.args.run.now c.loop.run c.take_turns.new.run c.loop.invariant
    (subst (λ more. Rounds g.C.RequestSource.rest g.S.Service.next g.S.Service.reply
    (g.P.Replies.handling c.args.replies.now).text c.loop.run more c.take_turns.new.run)
    c.if-not-branch.true c.in_ok-take_turns.ensures)

pub loop-preserved : goal.loop-preserved
loop-preserved g c =
    left_fewer _ _ _ _ (c.args.most - c.loop.counter) (c.args.most - (c.loop.counter + 1)) c.args.most
    c.args.run.now c.loop.run c.take_turns.new.run c.in_ok-take_turns.field-0
    (omega (arith, c.loop-test.true)) c.loop.invariant c.in_ok-take_turns.ensures

pub returns : goal.returns
returns g c = left_zero _ _ _ _ c.args.most c.args.run.now c.loop.run (c.args.most - c.loop.counter) (omega (arith, c.loop-test.false)) c.loop.invariant
