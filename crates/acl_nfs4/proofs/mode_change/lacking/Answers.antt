use Rattle.acl_posix.specs.Perms.{bits_of}
use Rattle.acl_nfs4.proofs.ModeChangeParts.{rest_of-known}
use Rattle.acl_nfs4.proofs.mode_change.lacking.Goals as goal

pub returns-clause-known : goal.returns-clause-known
returns-clause-known c = rest_of-known (bits_of c.mode.inside.group) c.rest_of.ensures
