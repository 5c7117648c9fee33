use Rattle.acl_bridge.proofs.TranslationDecides.{translation_decides_alike, translation_grants_as_much, translation_grants_each}
use Rattle.acl_bridge.proofs.TranslationLength.{short_translation}
use Rattle.acl_bridge.proofs.TranslationMode.{mode_of-translation}
use Rattle.acl_bridge.proofs.laws.translation_laws.Goals as goal

pub returns-clause-alike : goal.returns-clause-alike
returns-clause-alike c = translation_decides_alike

pub returns-clause-as_much : goal.returns-clause-as_much
returns-clause-as_much c = translation_grants_as_much

pub returns-clause-each : goal.returns-clause-each
returns-clause-each c = translation_grants_each

pub returns-clause-mode : goal.returns-clause-mode
returns-clause-mode c = mode_of-translation

pub returns-clause-length : goal.returns-clause-length
returns-clause-length c = short_translation
