use Rattle.acl_broker.specs.Ends.{KeepEnds}
use Rattle.acl_broker.specs.Takers.{view}
use Rattle.tests_broker.proofs.threads.take_in_turn.Given as goal

abbrev pub invariant-loop-turn : goal.invariant-loop-turn
invariant-loop-turn l = KeepEnds (view l.initial.taker).sides (view l.taker).sides
