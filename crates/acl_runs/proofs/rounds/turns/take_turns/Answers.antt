use Rattle.std.proofs.Common.{◌<◌, length, arith}
use Rattle.std.proofs.lemmas.Bool.{or_parts}
use Rattle.acl_runs.proofs.TurnLemmas.{first_more}
use Rattle.acl_runs.proofs.rounds.turns.take_turns.Goals as goal

pub loop-session-preserved : goal.loop-session-preserved
loop-session-preserved g c =
    let first = c.loop-session.invariant in
    let below : c.loop-session.session < length c.args.run.now.sessions.items = omega (arith, c.loop-session-test.true, c.len-session-end.ensures, c.args.run.now.sessions.ok.0) in
    first_more _ _ _ _ c.args.run.now c.loop-session.run c.take_turn.new.run c.loop-session.session
    c.loop-session.more c.in_ok-more.field-0 _ below first c.in_ok-more.ensures
    (λ is. or_parts c.loop-session.more c.in_ok-more.field-0 is)
