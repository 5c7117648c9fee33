use Rattle.acl_listing_translation.proofs.UnchangedLemmas.{reported_alike, reported_block_nothing, reported_nothing}
use Rattle.acl_listing_translation.proofs.laws.translations_change_nothing.Goals as goal

pub returns : goal.returns
returns c = record {
  alike = λ names attributes text file reads. reported_alike names attributes text file reads;
  files = λ names attributes text file reads. reported_nothing names attributes text file reads;
  blocks = λ host form attributes text reported file is. reported_block_nothing host form attributes text reported file is;
}
