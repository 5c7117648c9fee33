use Rattle.tests_broker.proofs.threads.submit_in_time.Goals as goal

pub returns-then-is_ok : goal.returns-then-is_ok
returns-then-is_ok c = λ session taker is. c.submit.ensures.pairs session taker (c.loop.invariant session taker is)

pub loop-preserved : goal.loop-preserved
loop-preserved c = λ session taker is. c.submit.ensures.pairs session taker (c.loop.invariant session taker is)
