use Rattle.std.proofs.Common.{rules, ◌<◌, false, get_or, length}
use Rattle.acl_access.specs.Marks.{mark_in_both}
use Rattle.acl_access.proofs.ReachLemmas.{next_marked}
use Rattle.acl_access.proofs.marks.both.Goals as goal

pub loop-place-preserved : goal.loop-place-preserved
loop-place-preserved c =
    let one = c.args.one.now in
    let at = c.loop-place.place in
    let within : at < length one = search rules in
    next_marked one at (get_or one at false) within (search rules) (mark_in_both c.args.other.now) c.loop-place.marks.items _ c.mark_in_both.result c.loop-place.invariant c.mark_in_both.ensures
    c.in_ok-push.ensures.items
