use Rattle.tests_broker.proofs.threads.take_in_turn.Goals as goal

pub returns-then-eq : goal.returns-then-eq
returns-then-eq c = λ ends are. c.take.ensures.pairs ends (c.loop-turn.invariant ends are)

pub loop-turn-preserved : goal.loop-turn-preserved
loop-turn-preserved c = λ ends are. c.take.ensures.pairs ends (c.loop-turn.invariant ends are)
