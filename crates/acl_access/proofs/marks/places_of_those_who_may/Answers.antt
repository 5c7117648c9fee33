use Rattle.std.proofs.Common.{rules, ◌≡◌, ◌<◌, get_or, length}
use Rattle.acl_posix.specs.Perms.{bits_of}
use Rattle.acl_bridge.specs.Files.{may, view_acl}
use Rattle.acl_access.proofs.ReachLemmas.{next_place}
use Rattle.acl_access.proofs.marks.places_of_those_who_may.Goals as goal

pub loop-place-preserved : goal.loop-place-preserved
loop-place-preserved c =
    let all = c.args.requesters.now in
    let at = c.loop-place.place in
    let item = c.index-requesters-place.result in
    let within : at < length all = search rules in
    let here : get_or all at item ≡ item = search rules in
    next_place all at item within here (λ who. may (view_acl c.args.file.now) who (bits_of c.args.perms)) c.loop-place.places.items _ c.may.result c.loop-place.invariant c.may.ensures
    c.in_ok-push_if.ensures
