use Rattle.acl_nfs4.proofs.ModeChangeParts.{mask_of-known}
use Rattle.acl_bridge.proofs.passes.append_allowed.Goals as goal

pub push_made-requires-clause-known : goal.push_made-requires-clause-known
push_made-requires-clause-known c = mask_of-known c.args.perms.0 c.mask_of.ensures
