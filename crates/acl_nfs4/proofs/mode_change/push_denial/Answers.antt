use Rattle.acl_nfs4.specs.Mask.{mask_bits}
use Rattle.acl_nfs4.proofs.ModeChangeParts.{denial-known}
use Rattle.acl_nfs4.proofs.mode_change.push_denial.Goals as goal

pub push_plain-requires : goal.push_plain-requires
push_plain-requires g c =
    (search, denial-known (mask_bits c.args.bits) (mask_bits c.marked_denied_to-denied.result) c.requires.known (c.without.ensures tt))
