use Rattle.std.proofs.Common.{◌∙◌, ◌<◌, ◌≤◌, ap, arith, length}
use Rattle.std.specs.List.{zip}
use Rattle.std.proofs.lemmas.List.{take_all}
use Rattle.std.proofs.lemmas.Slice.Zip.{length-zip}
use Rattle.acl_access.specs.Marks.{places_from}
use Rattle.acl_access.specs.Standings.{takes_each}
use Rattle.acl_access.proofs.StandingLemmas.{next_pair}
use Rattle.acl_access.proofs.standing.places_of_takers.Goals as goal

pub loop-place-preserved : goal.loop-place-preserved
loop-place-preserved c =
    let one = c.args.folder.now in
    let other = c.args.file.now in
    let at = c.loop-place.place in
    let end = c.min-place-end.ensures in
    let within_one : at < length one = omega (arith, c.loop-place-test.true, end) in
    let within_other : at < length other = omega (arith, c.loop-place-test.true, end) in
    next_pair one other at _ within_one within_other takes_each c.loop-place.places.items _ c.takes-is_taken.result c.loop-place.invariant c.takes-is_taken.ensures c.in_ok-push_if.ensures

pub returns : goal.returns
returns c =
    let both = zip c.args.folder.now c.args.file.now in
    let all : length both ≤ c.loop-place.place = omega (arith, c.loop-place-test.false, c.min-place-end.ensures, length-zip c.args.folder.now c.args.file.now) in
    c.loop-place.invariant ∙ ap (places_from takes_each 0) (take_all c.loop-place.place both all)
