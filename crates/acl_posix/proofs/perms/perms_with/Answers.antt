use Rattle.acl_posix.proofs.ReadLemmas.{perms_with-IsPermissions}
use Rattle.acl_posix.proofs.perms.perms_with.Goals as goal

pub returns-clause-permissions : goal.returns-clause-permissions
returns-clause-permissions c =
    rw (c.bitor-2.ensures, c.bitor.ensures, c.bits_if.ensures tt, c.bits_if-2.ensures tt, c.bits_if-3.ensures tt)
    (perms_with-IsPermissions c.args.read c.args.write c.args.execute)
