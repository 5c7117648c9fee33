use Rattle.acl_listing_creation.proofs.CreateLemmas.{create_alike}
use Rattle.acl_listing_creation.proofs.laws.trees_create_alike.Goals as goal

pub returns : goal.returns
returns c = λ creation acl. create_alike creation acl
