-- The command line of `restore`, as the parser of command lines sees it.
use Rattle.std.specs.Prelude.{◌≡◌, [], ◌∷◌, codes, fold, refl, true}
use Rattle.clap.specs.Words.{App, is_simple, is_simple_and_free, new_app, with_rule}
use Rattle.clap.proofs.OnLiterals.{clap_on_literals}
use Rattle.acl_cli.specs.CommandLine.{required_word}

-- `restore BEFORE AFTER`
unfoldable pub restore_line : App
restore_line = fold with_rule (new_app (codes "restore"))
    (required_word (codes "listing") ∷ required_word (codes "after") ∷ [])

-- its parser is known
pub restore_line-simple : is_simple restore_line ≡ true
unfolding clap_on_literals restore_line
restore_line-simple = refl

pub restore_line-free : is_simple_and_free restore_line ≡ true
unfolding clap_on_literals restore_line
restore_line-free = refl
