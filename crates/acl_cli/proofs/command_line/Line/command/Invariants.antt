use Rattle.std.proofs.Common.{◌≡◌, fold, take}
use Rattle.clap.specs.Words.{app_of, new_app}
use Rattle.acl_cli.specs.CommandLine.{with_word}
use Rattle.acl_cli.proofs.command_line.Line.command.Given as goal

-- the parser sees the words so far
abbrev pub invariant-loop-word : goal.invariant-loop-word
invariant-loop-word l =
    app_of l.command ≡ fold with_word (new_app l.self.name.now) (take l.word-index l.self.words.now)
