use Rattle.std.proofs.Common.{◌++◌, [], ◌∷◌, ℕ, List, codes, subst}
use Rattle.acl_names.specs.Bytes.{newline}
use Rattle.acl_cli.specs.ErrorOutput.{Reports}
use Rattle.acl_cli.proofs.ErrorLemmas.{Reports-both}
use Rattle.acl_cli.proofs.error_output.ErrorOutput.write_pair.Goals as goal

pub returns : goal.returns
returns g c =
    let words = c.args.words.now in
    let more = c.args.more.now in
    let one = subst (λ (text : List ℕ). Reports text c.write_text.new.self c.write_text-2.new.self) c.as_bytes.ensures.value c.write_text-2.ensures in
    let two = subst (λ (text : List ℕ). Reports text c.write_text-2.new.self c.write_text-3.new.self) c.as_bytes-2.ensures.value c.write_text-3.ensures in
    let both = Reports-both words more _ _ _ one two in
    let line = Reports-both (words ++ more) (newline ∷ []) _ _ _ both c.write_text-4.ensures in
    Reports-both (codes "aclctl: ") (words ++ more ++ newline ∷ []) _ _ _ c.write_text.ensures line
