use Rattle.acl_listing_changes.proofs.RestoreLemmas.{brings_back, prints_blocks}
use Rattle.acl_listing_changes.proofs.restore.laws.restore_brings_back.Goals as goal

pub returns : goal.returns
returns c = record { prints = prints_blocks; back = brings_back }
