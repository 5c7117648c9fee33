use Rattle.acl_reports.proofs.OutputLemmas.{answers_print, begun_answers_print_fronts}
use Rattle.acl_reports.proofs.laws.output_laws.Goals as goal

pub returns : goal.returns
returns c = record { whole = answers_print; front = begun_answers_print_fronts }
