use Rattle.acl_listings.proofs.PrintedLemmas.{files_again}
use Rattle.acl_listings.proofs.laws.printed_files_are_read_again.Goals as goal

pub returns : goal.returns
returns c = λ known files names each. files_again known names 1 files each
