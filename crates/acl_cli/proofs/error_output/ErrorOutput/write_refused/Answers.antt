use Rattle.std.proofs.Common.{◌++◌, [], ◌∷◌, List, ℕ, codes, option_map, subst}
use Rattle.acl_names.specs.Bytes.{newline}
use Rattle.acl_cli.specs.ErrorOutput.{Reports}
use Rattle.acl_cli.specs.Refusals.{line_words, text_words}
use Rattle.acl_cli.proofs.ErrorLemmas.{Reports-both}
use Rattle.acl_cli.proofs.error_output.ErrorOutput.write_refused.Goals as goal

pub returns : goal.returns
returns g c =
    let hyphens = c.args.hyphens.now in
    let name = c.args.name.now in
    let place = hyphens ++ name ++ line_words c.args.line in
    let word = c.args.word.now in
    let text = text_words (option_map (λ text. text.now) c.args.text) in
    let one = subst (λ (text : List ℕ). Reports text c.write_text.new.self c.write_text-2.new.self) c.as_bytes.ensures.value c.write_text-2.ensures in
    let two = subst (λ (text : List ℕ). Reports text c.write_text-2.new.self c.write_text-3.new.self) c.as_bytes-2.ensures.value c.write_text-3.ensures in
    let four = subst (λ (text : List ℕ). Reports text c.write_text-4.new.self c.write_text-5.new.self) c.as_bytes-3.ensures.value c.write_text-5.ensures in
    let named = Reports-both hyphens name _ _ _ one two in
    let placed = Reports-both (hyphens ++ name) (line_words c.args.line) _ _ _ named c.write_number.ensures in
    let marked = Reports-both place (codes ": ") _ _ _ placed c.write_text-4.ensures in
    let worded = Reports-both (place ++ codes ": ") word _ _ _ marked four in
    let all = Reports-both (place ++ codes ": " ++ word) text _ _ _ worded c.write_faulty.ensures in
    let line = Reports-both (place ++ codes ": " ++ word ++ text) (newline ∷ []) _ _ _ all c.write_text-6.ensures in
    Reports-both (codes "aclctl: ") (place ++ codes ": " ++ word ++ text ++ newline ∷ []) _ _ _ c.write_text.ensures line
