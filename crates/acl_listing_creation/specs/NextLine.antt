-- The command line of `next`, as the parser of command lines sees it.
use Rattle.std.specs.Prelude.{◌≡◌, [], ◌∷◌, codes, fold, refl, true}
use Rattle.clap.specs.Words.{App, is_simple, is_simple_and_free, new_app, with_rule}
use Rattle.clap.proofs.OnLiterals.{clap_on_literals}
use Rattle.acl_cli.specs.CommandLine.{flag, optional_option, required_option, required_word}

-- `next --user NAME [--mode OOO] [--umask OOO] [--dir] [--dirs-only] [--accounts FILE]
-- [--domain DOMAIN] LISTING`
unfoldable pub next_line : App
next_line = fold with_rule (new_app (codes "next"))
    (required_option (codes "user") ∷ optional_option (codes "mode")
    ∷ optional_option (codes "umask") ∷ flag (codes "dir") ∷ flag (codes "dirs-only")
    ∷ optional_option (codes "accounts") ∷ optional_option (codes "domain")
    ∷ required_word (codes "listing") ∷ [])

-- its parser is known
pub next_line-simple : is_simple next_line ≡ true
unfolding clap_on_literals next_line
next_line-simple = refl

pub next_line-free : is_simple_and_free next_line ≡ true
unfolding clap_on_literals next_line
next_line-free = refl
