use Rattle.acl_listing_changes.proofs.CompareLemmas.{alike_lists_are_alike_files, differences_are_changes}
use Rattle.acl_listing_changes.proofs.laws.alike_laws.Goals as goal

pub returns : goal.returns
returns c = record { alike = alike_lists_are_alike_files; changes = differences_are_changes }
