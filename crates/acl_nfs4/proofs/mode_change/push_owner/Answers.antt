use Rattle.acl_nfs4.proofs.ModeChangeParts.{mask_of-known, rest_of-known}
use Rattle.acl_nfs4.proofs.mode_change.push_owner.Goals as goal

pub push_plain-requires : goal.push_plain-requires
push_plain-requires g c = (search, mask_of-known c.args.user.0 c.mask_of.ensures)

pub push_plain-requires-2 : goal.push_plain-requires-2
push_plain-requires-2 g c = (search, rest_of-known c.args.user.0 c.rest_of.ensures)
