use Rattle.std.proofs.Common.{◌∙◌, arith, sym}
use Rattle.std.proofs.lemmas.List.Sums.{fold_more}
use Rattle.clap.specs.Words.{new_app}
use Rattle.acl_cli.specs.CommandLine.{with_word}
use Rattle.acl_cli.proofs.CommandLemmas.{app_of-arg}
use Rattle.acl_cli.proofs.command_line.Line.command.Goals as goal

pub loop-word-preserved : goal.loop-word-preserved
loop-word-preserved c =
    app_of-arg _ c.in_ok-command-2.command _ c.in_ok-command-2.ensures c.arg.ensures.local c.loop-word.invariant c.arg.ensures.rule
    ∙ sym (fold_more with_word (new_app c.args.self.now.name.now) c.args.self.now.words.now c.loop-word.word-index _ (omega arith))
