use Rattle.std.proofs.Common.{rules, ◌<◌, length}
use Rattle.acl_listing_changes.proofs.between.opening.opening_of.Goals as goal

pub loop-place-preserved : goal.loop-place-preserved
loop-place-preserved g c =
    let within : c.loop-place.place < length c.args.kept.now = search rules in
    let known = c.in_ok-open_block.ensures.known within c.loop-place.invariant.count c.loop-place.invariant.known in
    record {
      opened = c.in_ok-open_block.ensures.more within c.loop-place.invariant.opened;
      count = known.1;
      known = known.0;
    }
