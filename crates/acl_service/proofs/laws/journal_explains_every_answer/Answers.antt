use Rattle.std.proofs.Common.{refl}
use Rattle.acl_bridge.proofs.TranslationDecides.{translation_decides_alike}
use Rattle.acl_broker.proofs.HeadlineLemmas.{merges}
use Rattle.acl_service.specs.Served.{next_served, reply_served}
use Rattle.acl_service.proofs.laws.journal_explains_every_answer.Goals as goal

pub returns-clause-journal : goal.returns-clause-journal
returns-clause-journal c = λ old history new run. merges next_served reply_served old new history run

pub returns-clause-tree : goal.returns-clause-tree
returns-clause-tree c = λ served numbered. record { tree = refl; directory = refl; reply_is = refl; line = refl }

pub returns-clause-translation : goal.returns-clause-translation
returns-clause-translation c = translation_decides_alike
