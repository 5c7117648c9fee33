-- The command line of `decide`, as the parser of command lines sees it.
use Rattle.std.specs.Prelude.{◌≡◌, [], ◌∷◌, codes, fold, refl, true}
use Rattle.clap.specs.Words.{App, is_simple, is_simple_and_free, new_app, with_rule}
use Rattle.clap.proofs.OnLiterals.{clap_on_literals}
use Rattle.acl_cli.specs.CommandLine.{flag, optional_option, required_option, required_word}

-- `decide [--nfs4] --owner N --group N --uid N [--gids N,N..] --perms P TEXT`
unfoldable pub decide_line : App
decide_line = fold with_rule (new_app (codes "decide"))
    (flag (codes "nfs4") ∷ required_option (codes "owner") ∷ required_option (codes "group")
    ∷ required_option (codes "uid") ∷ optional_option (codes "gids")
    ∷ required_option (codes "perms") ∷ required_word (codes "text") ∷ [])

-- its parser is known
pub decide_line-simple : is_simple decide_line ≡ true
unfolding clap_on_literals decide_line
decide_line-simple = refl

pub decide_line-free : is_simple_and_free decide_line ≡ true
unfolding clap_on_literals decide_line
decide_line-free = refl
