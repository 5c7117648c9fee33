-- The command line of `list`, as the parser of command lines sees it.
use Rattle.std.specs.Prelude.{◌≡◌, [], ◌∷◌, codes, fold, refl, true}
use Rattle.clap.specs.Words.{App, is_simple, is_simple_and_free, new_app, with_rule}
use Rattle.clap.proofs.OnLiterals.{clap_on_literals}
use Rattle.acl_cli.specs.CommandLine.{optional_word, required_option}

-- `list --setup FILE [SESSION]`
unfoldable pub list_line : App
list_line = fold with_rule (new_app (codes "list"))
    (required_option (codes "setup") ∷ optional_word (codes "session") ∷ [])

-- its parser is known
pub list_line-simple : is_simple list_line ≡ true
unfolding clap_on_literals list_line
list_line-simple = refl

pub list_line-free : is_simple_and_free list_line ≡ true
unfolding clap_on_literals list_line
list_line-free = refl
