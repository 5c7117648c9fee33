use Rattle.std.proofs.Common.{List, ℕ, subst, sym}
use Rattle.std.proofs.lemmas.Result.{IfOk-weaker}
use Rattle.acl_queries.specs.Differences.{IsComparison}
use Rattle.acl_queries.proofs.DifferenceLemmas.{answers_found}
use Rattle.acl_queries.proofs.compare_command.comparison.ComparisonQuery.answer_text.Goals as goal

pub returns-in-Ok : goal.returns-in-Ok
returns-in-Ok c =
    let asked = c.args.self.now in
    IfOk-weaker c.answer_text.result _ _
    (λ text is. subst (λ (bytes : List ℕ). IsComparison asked bytes) (sym is) (answers_found asked c.in-Ok.found c.in-Ok.ensures))
    c.answer_text.ensures
