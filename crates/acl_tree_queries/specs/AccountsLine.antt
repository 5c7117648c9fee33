-- The command line of `accounts`, as the parser of command lines sees it.
use Rattle.std.specs.Prelude.{◌≡◌, [], ◌∷◌, codes, fold, refl, true}
use Rattle.clap.specs.Words.{App, is_simple, is_simple_and_free, new_app, with_rule}
use Rattle.clap.proofs.OnLiterals.{clap_on_literals}
use Rattle.acl_cli.specs.CommandLine.{required_option}

-- `accounts --setup FILE`
unfoldable pub accounts_line : App
accounts_line =
    fold with_rule (new_app (codes "accounts")) (required_option (codes "setup") ∷ [])

-- its parser is known
pub accounts_line-simple : is_simple accounts_line ≡ true
unfolding clap_on_literals accounts_line
accounts_line-simple = refl

pub accounts_line-free : is_simple_and_free accounts_line ≡ true
unfolding clap_on_literals accounts_line
accounts_line-free = refl
