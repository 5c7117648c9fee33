-- The command line of `lint` of a listing, as the parser of command lines sees it.
use Rattle.std.specs.Prelude.{◌≡◌, [], ◌∷◌, codes, fold, refl, true}
use Rattle.clap.specs.Words.{App, is_simple, is_simple_and_free, new_app, with_rule}
use Rattle.clap.proofs.OnLiterals.{clap_on_literals}
use Rattle.acl_cli.specs.CommandLine.{flag, optional_option, required_word}

-- `lint [--accounts FILE] [--domain DOMAIN] [--exit-code] LISTING`
unfoldable pub lints_line : App
lints_line = fold with_rule (new_app (codes "lint"))
    (optional_option (codes "accounts") ∷ optional_option (codes "domain")
    ∷ flag (codes "exit-code") ∷ required_word (codes "listing") ∷ [])

-- its parser is known
pub lints_line-simple : is_simple lints_line ≡ true
unfolding clap_on_literals lints_line
lints_line-simple = refl

pub lints_line-free : is_simple_and_free lints_line ≡ true
unfolding clap_on_literals lints_line
lints_line-free = refl
