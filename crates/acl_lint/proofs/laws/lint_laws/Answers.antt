use Rattle.acl_lint.proofs.FilledLemmas.{reports_a_place}
use Rattle.acl_lint.proofs.LawLemmas.{reports_what_is_answered}
use Rattle.acl_lint.proofs.PieceLemmas.{reports_the_piece}
use Rattle.acl_lint.proofs.laws.lint_laws.Goals as goal

pub returns : goal.returns
returns c = record { answered = reports_what_is_answered; read = reports_the_piece; places = reports_a_place }
