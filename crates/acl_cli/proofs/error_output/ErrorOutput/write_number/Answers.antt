use Rattle.std.proofs.Common.{◌≡◌, ◌∙◌, Option, List, ℕ, codes, decimal, subst, sym}
use Rattle.acl_cli.specs.ErrorOutput.{Reports}
use Rattle.acl_cli.specs.Refusals.{line_words}
use Rattle.acl_cli.proofs.ErrorLemmas.{Reports-both}
use Rattle.acl_cli.proofs.error_output.ErrorOutput.write_number.Goals as goal

pub returns-in-Some : goal.returns-in-Some
returns-in-Some g c =
    let number : c.as_bytes.result.now ≡ decimal c.in-Some.line = c.as_bytes.ensures.value ∙ c.format.ensures.text in
    let digits = subst (λ (text : List ℕ). Reports text c.write_text.new.self c.write_text-in-Some.new.self) number c.write_text-in-Some.ensures in
    let both = Reports-both (codes ":") (decimal c.in-Some.line) _ _ _ c.write_text.ensures digits in
    subst (λ (line : Option ℕ). Reports (line_words line) c.args.self.now c.write_text-in-Some.new.self) (sym c.in-Some.is) both
