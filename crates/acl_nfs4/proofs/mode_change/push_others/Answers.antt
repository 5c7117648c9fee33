use Rattle.acl_nfs4.proofs.ModeChangeParts.{mask_of-known, rest_of-known}
use Rattle.acl_nfs4.proofs.mode_change.push_others.Goals as goal

pub push_plain-requires : goal.push_plain-requires
push_plain-requires g c = (search, mask_of-known c.args.group.0 c.mask_of.ensures)

pub push_plain-requires-2 : goal.push_plain-requires-2
push_plain-requires-2 g c = (search, rest_of-known c.args.group.0 c.rest_of.ensures)

pub push_plain-requires-3 : goal.push_plain-requires-3
push_plain-requires-3 g c = (search, mask_of-known c.args.other.0 c.mask_of-2.ensures)
