use Rattle.acl_listing_translation.proofs.TranslatedLemmas.{translated_again}
use Rattle.acl_listing_translation.proofs.laws.translations_are_read_again.Goals as goal

pub returns : goal.returns
returns c = λ host form attributes text reported file is. translated_again host form attributes text reported file is
