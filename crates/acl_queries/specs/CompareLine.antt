-- The command line of `compare`, as the parser of command lines sees it.
use Rattle.std.specs.Prelude.{◌≡◌, [], ◌∷◌, codes, fold, refl, true}
use Rattle.clap.specs.Words.{App, is_simple, is_simple_and_free, new_app, with_rule}
use Rattle.clap.proofs.OnLiterals.{clap_on_literals}
use Rattle.acl_cli.specs.CommandLine.{required_option, required_word}

-- `compare --owner N --group N STYLE TEXT STYLE TEXT`
unfoldable pub compare_line : App
compare_line = fold with_rule (new_app (codes "compare"))
    (required_option (codes "owner") ∷ required_option (codes "group")
    ∷ required_word (codes "style") ∷ required_word (codes "text")
    ∷ required_word (codes "other-style") ∷ required_word (codes "other-text") ∷ [])

-- its parser is known
pub compare_line-simple : is_simple compare_line ≡ true
unfolding clap_on_literals compare_line
compare_line-simple = refl

pub compare_line-free : is_simple_and_free compare_line ≡ true
unfolding clap_on_literals compare_line
compare_line-free = refl
