-- The command line of `explain`, as the parser of command lines sees it.
use Rattle.std.specs.Prelude.{◌≡◌, [], ◌∷◌, codes, fold, refl, true}
use Rattle.clap.specs.Words.{App, is_simple, is_simple_and_free, new_app, with_rule}
use Rattle.clap.proofs.OnLiterals.{clap_on_literals}
use Rattle.acl_cli.specs.CommandLine.{optional_option, required_option, required_word}

-- `explain --owner N --group N --uid N [--gids N,N..] --perms P STYLE TEXT`
unfoldable pub explain_line : App
explain_line = fold with_rule (new_app (codes "explain"))
    (required_option (codes "owner") ∷ required_option (codes "group")
    ∷ required_option (codes "uid") ∷ optional_option (codes "gids")
    ∷ required_option (codes "perms") ∷ required_word (codes "style")
    ∷ required_word (codes "text") ∷ [])

-- its parser is known
pub explain_line-simple : is_simple explain_line ≡ true
unfolding clap_on_literals explain_line
explain_line-simple = refl

pub explain_line-free : is_simple_and_free explain_line ≡ true
unfolding clap_on_literals explain_line
explain_line-free = refl
