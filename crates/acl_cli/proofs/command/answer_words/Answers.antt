use Rattle.std.proofs.Common.{map, rules}
use Rattle.clap.specs.Words.{fault_of}
use Rattle.acl_cli.proofs.CommandsLemmas.{Comes-help}
use Rattle.acl_cli.proofs.FailureLemmas.{asks_for_help}
use Rattle.acl_cli.proofs.command.answer_words.Goals as goal

pub returns-then-is_help : goal.returns-then-is_help
returns-then-is_help g c =
    let words = map g.S.AsStr.text c.args.words.now in
    let asks = asks_for_help (fault_of g.C.CommandLine.line words) c.in-Err.error c.in-Err.ensures.kinds (search rules) in
    let meaning = g.C.Command.meaning (g.F.OpenFiles.bytes_of c.args.files.now) (g.I.Read.remaining c.args.input.now) in
    Comes-help g.C.CommandLine.line g.C.Command.helps meaning words _ _ _ _ (search rules) asks _ c.write_help.ensures.written c.write_help.ensures.lacks
