use Rattle.acl_listing_translation.proofs.SameLemmas.{decide_alike}
use Rattle.acl_listing_translation.proofs.laws.translations_decide_alike.Goals as goal

pub returns : goal.returns
returns c = λ attributes access default valid. decide_alike attributes access default valid
