use Rattle.std.proofs.Common.{refl}
use Rattle.std.specs.Fmt.{digits}
use Rattle.acl_service.proofs.StatusLemmas.{statuses_report}
use Rattle.acl_service.proofs.laws.run_statuses_report_the_words.Goals as goal

pub returns-clause-statuses : goal.returns-clause-statuses
returns-clause-statuses c = statuses_report

pub returns-clause-number : goal.returns-clause-number
unfolding digits
returns-clause-number c = refl
