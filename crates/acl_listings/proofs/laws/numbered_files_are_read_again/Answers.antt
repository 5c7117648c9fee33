use Rattle.acl_listings.proofs.NumberedLemmas.{numbered_again, paths_again, short_block}
use Rattle.acl_listings.proofs.laws.numbered_files_are_read_again.Goals as goal

pub returns : goal.returns
returns c = record {
  said = λ files each names numbers. numbered_again names numbers 1 files each;
  paths = λ files each. paths_again 1 files each;
  short = λ file path owner group are. short_block file path owner group are;
}
