use Rattle.std.proofs.Common.{◌-◌}
use Rattle.acl_runs.specs.Turns.{WithRoundsLeft}
use Rattle.acl_runs.proofs.rounds.turns.take_rounds.Given as goal

abbrev pub invariant-loop : goal.invariant-loop
invariant-loop g l = WithRoundsLeft g.C.RequestSource.rest g.S.Service.next g.S.Service.reply (g.P.Replies.handling l.replies).text (l.most - l.counter) l.most l.initial.run l.run
