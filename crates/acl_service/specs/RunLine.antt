-- The command line of `run`, as the parser of command lines sees it.
use Rattle.std.specs.Prelude.{◌≡◌, [], ◌∷◌, codes, fold, refl, true}
use Rattle.clap.specs.Words.{App, is_simple, is_simple_and_free, new_app, with_rule}
use Rattle.clap.proofs.OnLiterals.{clap_on_literals}
use Rattle.acl_cli.specs.CommandLine.{count_option, flag, required_option, required_words}

-- `run --setup FILE [--journal] [--max-errors K] SESSION..`
unfoldable pub run_line : App
run_line = fold with_rule (new_app (codes "run"))
    (required_option (codes "setup") ∷ flag (codes "journal")
    ∷ count_option 65535 (codes "max-errors") ∷ required_words (codes "session") ∷ [])

-- its parser is known
pub run_line-simple : is_simple run_line ≡ true
unfolding clap_on_literals run_line
run_line-simple = refl

pub run_line-free : is_simple_and_free run_line ≡ true
unfolding clap_on_literals run_line
run_line-free = refl
