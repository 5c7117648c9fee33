use Rattle.acl_names.specs.Names.{names_of}
use Rattle.acl_listings.proofs.HandedLemmas.{file-handed, path-handed}
use Rattle.acl_listings.proofs.laws.handed_blocks_report_the_same.Goals as goal

pub returns : goal.returns
returns c = record { file = λ known block. file-handed (names_of known) block.text; path = λ block. path-handed block.text }
