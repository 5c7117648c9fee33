use Rattle.std.proofs.Common.{◌≡◌, ◌∙◌, ◌∷◌, [], Bool, List, false, map, refl, subst, sym, true}
use Rattle.std.specs.List.{list_any}
use Rattle.clap.specs.Words.{Text}
use Rattle.acl_cli.specs.Commands.{Ends}
use Rattle.aclctl.specs.Lint.{is_setup_option, lint_by, names_setup}
use Rattle.aclctl.proofs.lint.run_lint.Goals as goal

-- the option is among the texts of words as it is among the words
among : {A : Type 0} (text : A → Text) (words : List A) → names_setup (map text words) ≡ list_any (λ word. is_setup_option (text word)) words
among text [] = refl
among text (word ∷ words) = rw (among text words) refl

pub returns-then-names_setup : goal.returns-then-names_setup
returns-then-names_setup g c =
    let files = g.F.OpenFiles.bytes_of c.args.files.now in
    let input = g.I.Read.remaining c.args.input.now in
    let words = map g.S.AsStr.text c.args.words.now in
    let named : names_setup words ≡ true = among g.S.AsStr.text c.args.words.now ∙ sym c.names_setup.ensures ∙ c.if-names_setup.true in
    subst (λ (named : Bool). Ends (lint_by named files input words) c.run_command.result (g.W.Write.contents c.args.out.now)
    (g.W.Write.contents c.run_command.new.out) c.args.err.now c.run_command.new.err c.args.input.now c.run_command.new.input) (sym named) c.run_command.ensures

pub returns-else-names_setup : goal.returns-else-names_setup
returns-else-names_setup g c =
    let files = g.F.OpenFiles.bytes_of c.args.files.now in
    let input = g.I.Read.remaining c.args.input.now in
    let words = map g.S.AsStr.text c.args.words.now in
    let named : names_setup words ≡ false = among g.S.AsStr.text c.args.words.now ∙ sym c.names_setup.ensures ∙ c.if-names_setup.false in
    subst (λ (named : Bool). Ends (lint_by named files input words) c.run_command-else-names_setup.result (g.W.Write.contents c.args.out.now)
    (g.W.Write.contents c.run_command-else-names_setup.new.out) c.args.err.now c.run_command-else-names_setup.new.err c.args.input.now c.run_command-else-names_setup.new.input) (sym named) c.run_command-else-names_setup.ensures
