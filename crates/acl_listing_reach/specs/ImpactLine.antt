-- The command line of `impact`, as the parser of command lines sees it.
use Rattle.std.specs.Prelude.{◌≡◌, [], ◌∷◌, codes, fold, refl, true}
use Rattle.clap.specs.Words.{App, is_simple, is_simple_and_free, new_app, with_rule}
use Rattle.clap.proofs.OnLiterals.{clap_on_literals}
use Rattle.acl_cli.specs.CommandLine.{flag, optional_option, repeated_option, required_word}

-- `impact [--accounts FILE] [--accounts-after FILE] [--domain DOMAIN] [--reach] [--draft]
-- [--all] [--user NAME].. [--text] [--exit-code] BEFORE AFTER`
unfoldable pub impact_line : App
impact_line = fold with_rule (new_app (codes "impact"))
    (optional_option (codes "accounts") ∷ optional_option (codes "accounts-after")
    ∷ optional_option (codes "domain") ∷ flag (codes "reach") ∷ flag (codes "draft")
    ∷ flag (codes "all") ∷ repeated_option (codes "user") ∷ flag (codes "text")
    ∷ flag (codes "exit-code") ∷ required_word (codes "listing")
    ∷ required_word (codes "after") ∷ [])

-- its parser is known
pub impact_line-simple : is_simple impact_line ≡ true
unfolding clap_on_literals impact_line
impact_line-simple = refl

pub impact_line-free : is_simple_and_free impact_line ≡ true
unfolding clap_on_literals impact_line
impact_line-free = refl
