use Rattle.std.proofs.Common.{◌≡◌, ◌∙◌, ap, sym}
use Rattle.bitflags.proofs.OnLiterals.{bitflags_on_literals}
use Rattle.acl_nfs4.specs.Mask.{all_masks, mask_bits}
use Rattle.acl_bridge.specs.Files.{view_acl, view_list}
use Rattle.acl_access.specs.Letters.{decided_bits}
use Rattle.acl_access.proofs.GrantedLemmas.{is_granted_mask}
use Rattle.acl_access.proofs.letters.granted_mask.Goals as goal

pub returns-in-Posix : goal.returns-in-Posix
returns-in-Posix c =
    is_granted_mask (view_acl c.args.file.now) c.args.requester.now (mask_bits c.mode_bits.result) (mask_bits c.allowed.result)
    (c.mode_bits.ensures ∙ sym (ap (λ list. decided_bits (view_list list)) c.in-Posix.is)) c.allowed.ensures

pub returns-in-Nfs4 : goal.returns-in-Nfs4
unfolding bitflags_on_literals
returns-in-Nfs4 c =
    let all : mask_bits c.all.result ≡ all_masks = c.all.ensures tt in
    is_granted_mask (view_acl c.args.file.now) c.args.requester.now (mask_bits c.all.result) (mask_bits c.allowed-in-Nfs4.result)
    (all ∙ sym (ap (λ list. decided_bits (view_list list)) c.in-Nfs4.is)) c.allowed-in-Nfs4.ensures
