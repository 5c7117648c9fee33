-- The command line of `translate`, as the parser of command lines sees it.
use Rattle.std.specs.Prelude.{◌≡◌, [], ◌∷◌, codes, fold, refl, true}
use Rattle.clap.specs.Words.{App, is_simple, is_simple_and_free, new_app, with_rule}
use Rattle.clap.proofs.OnLiterals.{clap_on_literals}
use Rattle.acl_cli.specs.CommandLine.{flag, optional_option, required_word}

-- `translate [--accounts FILE] [--domain DOMAIN] [--form F] [--attributes] [--print0] LISTING`
unfoldable pub translate_line : App
translate_line = fold with_rule (new_app (codes "translate"))
    (optional_option (codes "accounts") ∷ optional_option (codes "domain")
    ∷ optional_option (codes "form") ∷ flag (codes "attributes") ∷ flag (codes "print0")
    ∷ required_word (codes "listing") ∷ [])

-- its parser is known
pub translate_line-simple : is_simple translate_line ≡ true
unfolding clap_on_literals translate_line
translate_line-simple = refl

pub translate_line-free : is_simple_and_free translate_line ≡ true
unfolding clap_on_literals translate_line
translate_line-free = refl
