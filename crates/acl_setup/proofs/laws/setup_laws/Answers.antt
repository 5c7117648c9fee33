use Rattle.acl_setup.proofs.FirstKeyLemmas.{reports_the_key}
use Rattle.acl_setup.proofs.FirstPartLemmas.{reports_the_part}
use Rattle.acl_setup.proofs.laws.setup_laws.Goals as goal

pub returns : goal.returns
returns c = record { keys = reports_the_key; parts = reports_the_part }
