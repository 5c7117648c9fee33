use Rattle.acl_nfs4.proofs.ModeChangeParts.{kept_mask-known}
use Rattle.acl_nfs4.proofs.ace.Ace.with_kept_mask.Goals as goal

pub with_mask-requires : goal.with_mask-requires
with_mask-requires c = kept_mask-known c.args.group.0 c.args.self.now c.kept_mask.ensures.value c.kept_mask.ensures.ace
