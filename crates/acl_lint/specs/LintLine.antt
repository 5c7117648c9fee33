-- The command line of `lint`, as the parser of command lines sees it.
use Rattle.std.specs.Prelude.{◌≡◌, [], ◌∷◌, codes, fold, refl, true}
use Rattle.clap.specs.Words.{App, is_simple, is_simple_and_free, new_app, with_rule}
use Rattle.clap.proofs.OnLiterals.{clap_on_literals}
use Rattle.acl_cli.specs.CommandLine.{required_option, required_words}

-- `lint --setup FILE SESSION..`
unfoldable pub lint_line : App
lint_line = fold with_rule (new_app (codes "lint"))
    (required_option (codes "setup") ∷ required_words (codes "session") ∷ [])

-- its parser is known
pub lint_line-simple : is_simple lint_line ≡ true
unfolding clap_on_literals lint_line
lint_line-simple = refl

pub lint_line-free : is_simple_and_free lint_line ≡ true
unfolding clap_on_literals lint_line
lint_line-free = refl
