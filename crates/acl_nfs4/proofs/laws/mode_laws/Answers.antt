use Rattle.acl_nfs4.proofs.ModeChangeLift.{later_modes_lift}
use Rattle.acl_nfs4.proofs.laws.mode_laws.Goals as goal

pub returns : goal.returns
returns c = later_modes_lift
