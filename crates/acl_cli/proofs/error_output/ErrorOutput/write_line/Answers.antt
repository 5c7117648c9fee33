use Rattle.std.proofs.Common.{◌++◌, [], ◌∷◌, List, ℕ, codes, subst}
use Rattle.acl_names.specs.Bytes.{newline}
use Rattle.acl_cli.specs.ErrorOutput.{Reports}
use Rattle.acl_cli.proofs.ErrorLemmas.{Reports-both}
use Rattle.acl_cli.proofs.error_output.ErrorOutput.write_line.Goals as goal

pub returns : goal.returns
returns g c =
    let words = c.args.words.now in
    let one = subst (λ (text : List ℕ). Reports text c.write_text.new.self c.write_text-2.new.self) c.as_bytes.ensures.value c.write_text-2.ensures in
    let line = Reports-both words (newline ∷ []) _ _ _ one c.write_text-3.ensures in
    Reports-both (codes "aclctl: ") (words ++ newline ∷ []) _ _ _ c.write_text.ensures line
