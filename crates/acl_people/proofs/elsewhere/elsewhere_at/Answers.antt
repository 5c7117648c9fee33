use Rattle.std.proofs.Common.{◌≡◌, ◌∙◌, List, Some, ap, arith, length, map, refl, sym}
use Rattle.std.specs.Prelude.{slice_get}
use Rattle.std.proofs.lemmas.Option.{slice_get_read}
use Rattle.acl_names.specs.Requester.{Identity}
use Rattle.acl_people.specs.Elsewhere.{elsewhere}
use Rattle.acl_people.proofs.ElsewhereLemmas.{kept_there, one_there}
use Rattle.acl_people.proofs.elsewhere.elsewhere_at.Goals as goal

pub returns : goal.returns
returns c persons are =
    let place = c.args.place in
    let whos : List Identity = c.args.people.now.requesters.items in
    let names = c.args.people.now.names.items in
    let who_found = rw c.deref.ensures.value at c.in-Some.ensures.lookup in
    let who : slice_get whos place ≡ Some c.in-Some.requester.now =
    slice_get_read whos (length whos) place c.in-Some.requester.now refl (omega (arith, who_found)) who_found.1 in
    let asks : slice_get (map (λ one. one.who) persons) place ≡ Some c.in-Some.requester.now =
    ap (λ (all : List Identity). slice_get all place) (sym are.requesters) ∙ who in
    let name_found = rw c.deref-2.ensures.value at c.in-Some-get.ensures.lookup in
    let name = slice_get_read names (length names) place c.in-Some-get.name.now refl (omega (arith, name_found)) name_found.1 in
    let named = kept_there names (λ name. name.items) persons (λ one. one.name) are.names place c.in-Some-get.name.now name in
    let it = rw c.as_slice.ensures.value at c.in_ok-other.ensures in
    ap Some it ∙ sym (one_there (elsewhere c.args.host.now) persons place c.in-Some-get.name.now.items c.in-Some.requester.now named asks)
