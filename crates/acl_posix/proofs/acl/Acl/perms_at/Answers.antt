use Rattle.acl_posix.proofs.FoundLemmas.{perms_of-IsPermissions}
use Rattle.acl_posix.proofs.acl.Acl.perms_at.Goals as goal

pub returns-in-Some-clause-permissions : goal.returns-in-Some-clause-permissions
returns-in-Some-clause-permissions c =
    let known = perms_of-IsPermissions c.args.tag c.args.self.now c.perms_of.ensures.acl.permissions in
    rw (← c.in-Some.ensures.value) at known
