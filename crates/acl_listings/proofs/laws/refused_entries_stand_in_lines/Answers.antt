use Rattle.acl_listings.proofs.RefusedLemmas.{file_refused}
use Rattle.acl_listings.proofs.laws.refused_entries_stand_in_lines.Goals as goal

pub returns : goal.returns
returns c = λ names text fault refused. file_refused names text fault refused
