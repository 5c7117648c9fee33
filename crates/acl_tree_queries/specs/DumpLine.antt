-- The command line of `dump`, as the parser of command lines sees it.
use Rattle.std.specs.Prelude.{◌≡◌, [], ◌∷◌, codes, fold, refl, true}
use Rattle.clap.specs.Words.{App, is_simple, is_simple_and_free, new_app, with_rule}
use Rattle.clap.proofs.OnLiterals.{clap_on_literals}
use Rattle.acl_cli.specs.CommandLine.{optional_word, required_option}

-- `dump --setup FILE [SESSION]`
unfoldable pub dump_line : App
dump_line = fold with_rule (new_app (codes "dump"))
    (required_option (codes "setup") ∷ optional_word (codes "session") ∷ [])

-- its parser is known
pub dump_line-simple : is_simple dump_line ≡ true
unfolding clap_on_literals dump_line
dump_line-simple = refl

pub dump_line-free : is_simple_and_free dump_line ≡ true
unfolding clap_on_literals dump_line
dump_line-free = refl
