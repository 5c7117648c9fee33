-- The command line of `why`, as the parser of command lines sees it.
use Rattle.std.specs.Prelude.{◌≡◌, [], ◌∷◌, codes, fold, refl, true}
use Rattle.clap.specs.Words.{App, is_simple, is_simple_and_free, new_app, with_rule}
use Rattle.clap.proofs.OnLiterals.{clap_on_literals}
use Rattle.acl_cli.specs.CommandLine.{flag, optional_option, required_option, required_word}

-- `why [--accounts FILE] [--domain DOMAIN] --user NAME [--perms P] [--delete] [--draft]
-- LISTING PATH`
unfoldable pub why_line : App
why_line = fold with_rule (new_app (codes "why"))
    (optional_option (codes "accounts") ∷ optional_option (codes "domain")
    ∷ required_option (codes "user") ∷ optional_option (codes "perms") ∷ flag (codes "delete")
    ∷ flag (codes "draft") ∷ required_word (codes "listing") ∷ required_word (codes "path") ∷ [])

-- its parser is known
pub why_line-simple : is_simple why_line ≡ true
unfolding clap_on_literals why_line
why_line-simple = refl

pub why_line-free : is_simple_and_free why_line ≡ true
unfolding clap_on_literals why_line
why_line-free = refl
