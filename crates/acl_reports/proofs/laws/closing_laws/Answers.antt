use Rattle.acl_reports.proofs.ClosingLemmas.{closing_shapes, ending_shapes}
use Rattle.acl_reports.proofs.SightedLemmas.{strangers_stand_in_lines}
use Rattle.acl_reports.proofs.StrangersLemmas.{counts_strangers}
use Rattle.acl_reports.proofs.laws.closing_laws.Goals as goal

pub returns : goal.returns
returns c = record { says = closing_shapes; ends = ending_shapes; strangers = counts_strangers; lines = strangers_stand_in_lines }
