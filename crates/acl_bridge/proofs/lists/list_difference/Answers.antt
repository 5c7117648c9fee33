use Rattle.std.proofs.Common.{sym, subst}
use Rattle.acl_bridge.specs.Files.{File, file_with, view_list}
use Rattle.acl_bridge.specs.Lists.{Finds}
use Rattle.acl_bridge.specs.declared.any_acl.AnyAcl.TheVariants.{Nfs4}
use Rattle.acl_bridge.specs.declared.any_acl.AnyAclRef.{AnyAclRef}
use Rattle.acl_bridge.proofs.lists.list_difference.Goals as goal

pub returns-in-Nfs4-Nfs4 : goal.returns-in-Nfs4-Nfs4
returns-in-Nfs4-Nfs4 c =
    let found = c.between_nfs4_lists.result in
    let before = c.args.before.now in
    let after = c.args.after.now in
    let first : File = file_with before.owners (Nfs4 c.in-Nfs4-Nfs4.before.now) in
    let other : AnyAclRef → File = λ list. file_with after.owners (view_list list) in
    subst (λ (list : AnyAclRef). Finds (file_with before.owners (view_list list)) (other after.list) found) (sym c.in-Nfs4-Nfs4.is-0)
    (subst (λ (list : AnyAclRef). Finds first (other list) found) (sym c.in-Nfs4-Nfs4.is-1) c.between_nfs4_lists.ensures)
