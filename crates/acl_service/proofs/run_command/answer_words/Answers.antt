use Rattle.std.proofs.Common.{false, map}
use Rattle.acl_cli.proofs.CommandsLemmas.{Comes-taken}
use Rattle.acl_service.specs.RunLine.{run_line}
use Rattle.acl_service.specs.RunMeaning.{run_meaning}
use Rattle.acl_service.proofs.run_command.answer_words.Goals as goal

pub returns-in-Ok : goal.returns-in-Ok
returns-in-Ok g c = λ said.
    let meaning = run_meaning (g.F.OpenFiles.bytes_of c.args.files.now) (g.I.Read.remaining c.args.input.now) in
    Comes-taken run_line false meaning (map g.S.AsStr.text c.args.words.now) _ _ _ _ _ _ _ _ c.in-Ok.ensures.taken c.in-Ok.ensures.fields (c.answer.ensures said)
