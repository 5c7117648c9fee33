use Rattle.std.proofs.Common.{◌≡◌}
use Rattle.bitflags.proofs.OnLiterals.{bitflags_on_literals}
use Rattle.acl_nfs4.specs.Mask.{all_masks, mask_bits}
use Rattle.acl_bridge.proofs.ListsFound.{nfs4_found}
use Rattle.acl_bridge.proofs.lists.between_nfs4_lists.Goals as goal

pub returns : goal.returns
unfolding bitflags_on_literals
returns c =
    let all : mask_bits c.all.result ≡ all_masks = c.all.ensures tt in
    nfs4_found c.args.owners.now c.args.other_owners.now c.difference.result c.args.before.now c.args.after.now (mask_bits c.all.result) all
    c.difference.ensures.none c.difference.ensures.some
