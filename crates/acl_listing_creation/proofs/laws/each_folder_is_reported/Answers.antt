use Rattle.acl_listing_creation.proofs.FoldersLemmas.{each_folder}
use Rattle.acl_listing_creation.proofs.laws.each_folder_is_reported.Goals as goal

pub returns : goal.returns
returns c = λ asking blocks. each_folder asking blocks
