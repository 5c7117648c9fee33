use Rattle.std.proofs.Common.{◌≡◌, ◌∙◌, ap₂, sym}
use Rattle.bitflags.proofs.OnLiterals.{bitflags_on_literals}
use Rattle.acl_nfs4.specs.Mask.{all_masks, mask_bits}
use Rattle.acl_bridge.specs.Files.{view_list}
use Rattle.acl_bridge.specs.Lists.{bits_between}
use Rattle.acl_bridge.specs.declared.any_acl.AnyAclRef.{AnyAclRef}
use Rattle.acl_access.proofs.changes.bits_between.Goals as goal

pub returns-in-Nfs4-Nfs4 : goal.returns-in-Nfs4-Nfs4
unfolding bitflags_on_literals
returns-in-Nfs4-Nfs4 c =
    let all : mask_bits c.all.result ≡ all_masks = c.all.ensures tt in
    all ∙ sym (ap₂ (λ (before after : AnyAclRef). bits_between (view_list before) (view_list after)) c.in-Nfs4-Nfs4.is-0 c.in-Nfs4-Nfs4.is-1)
