-- The command line of `who`, as the parser of command lines sees it.
use Rattle.std.specs.Prelude.{◌≡◌, [], ◌∷◌, codes, fold, refl, true}
use Rattle.clap.specs.Words.{App, is_simple, is_simple_and_free, new_app, with_rule}
use Rattle.clap.proofs.OnLiterals.{clap_on_literals}
use Rattle.acl_cli.specs.CommandLine.{flag, optional_option, repeated_option, required_word}

-- `who [--accounts FILE] [--domain DOMAIN] [--perms P] [--letters] [--delete] [--reach] [--via]
-- [--draft] [--user NAME].. LISTING`
unfoldable pub who_line : App
who_line = fold with_rule (new_app (codes "who"))
    (optional_option (codes "accounts") ∷ optional_option (codes "domain")
    ∷ optional_option (codes "perms") ∷ flag (codes "letters") ∷ flag (codes "delete")
    ∷ flag (codes "reach") ∷ flag (codes "via") ∷ flag (codes "draft")
    ∷ repeated_option (codes "user") ∷ required_word (codes "listing") ∷ [])

-- its parser is known
pub who_line-simple : is_simple who_line ≡ true
unfolding clap_on_literals who_line
who_line-simple = refl

pub who_line-free : is_simple_and_free who_line ≡ true
unfolding clap_on_literals who_line
who_line-free = refl
