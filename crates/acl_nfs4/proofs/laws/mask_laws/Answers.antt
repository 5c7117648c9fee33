use Rattle.acl_nfs4.proofs.MaskLemmas.{masks_are_decided}
use Rattle.acl_nfs4.proofs.laws.mask_laws.Goals as goal

pub returns : goal.returns
returns c = masks_are_decided
