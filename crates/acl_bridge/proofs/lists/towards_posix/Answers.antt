use Rattle.std.proofs.Common.{Option, inl, sym, subst, IfSome}
use Rattle.acl_nfs4.specs.Comparison.{IsDifference, decided_at}
use Rattle.acl_nfs4.specs.Mask.{mode_bits}
use Rattle.acl_nfs4.specs.declared.comparison.Difference.{Difference}
use Rattle.acl_bridge.specs.Comparison.{granted_at}
use Rattle.acl_bridge.proofs.ListsFound.{swapped_is}
use Rattle.acl_bridge.proofs.lists.towards_posix.Goals as goal

pub returns-in-Some : goal.returns-in-Some
returns-in-Some c =
    let before = granted_at c.args.after.now c.args.other_owners.now in
    let after = decided_at c.args.before.now c.args.owners.now in
    let is : IsDifference before after mode_bits c.in-Some.difference =
    subst (λ (found : Option Difference). IfSome found (IsDifference before after mode_bits)) c.in-Some.is c.in_ok-difference.ensures.some in
    inl (subst (IsDifference after before mode_bits) (sym c.reversed.ensures) (swapped_is before after mode_bits c.in-Some.difference is))
