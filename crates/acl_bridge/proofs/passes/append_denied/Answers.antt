use Rattle.acl_nfs4.proofs.ModeChangeParts.{rest_of-known}
use Rattle.acl_bridge.proofs.passes.append_denied.Goals as goal

pub push_made-requires-clause-known : goal.push_made-requires-clause-known
push_made-requires-clause-known c = rest_of-known c.args.perms.0 c.rest_of.ensures
