use Rattle.acl_runs.specs.Turns.{TurnsOfFirst}
use Rattle.acl_runs.proofs.rounds.turns.take_turns.Given as goal

abbrev pub invariant-loop-session : goal.invariant-loop-session
invariant-loop-session g l = TurnsOfFirst g.C.RequestSource.rest g.S.Service.next g.S.Service.reply (g.P.Replies.handling l.replies).text l.session l.initial.run l.more l.run
