use Rattle.std.proofs.Common.{◌≡◌, ◌∙◌, Some, ap, arith, length, refl, sym}
use Rattle.std.specs.Prelude.{option_map, slice_get}
use Rattle.std.proofs.lemmas.Option.{slice_get_past, slice_get_read}
use Rattle.acl_people.specs.Person.{person}
use Rattle.acl_people.proofs.everyone.listed_at.Goals as goal

pub returns-in_default : goal.returns-in_default
returns-in_default c =
    let past = c.in_default.ensures.lookup in
    ap (option_map (person c.args.name.now)) (sym (slice_get_past c.args.requesters.now c.args.place (omega (arith, past))))

pub returns : goal.returns
returns c =
    let whos = c.args.requesters.now in
    let found = c.in-Some.ensures.lookup in
    let who : slice_get whos c.args.place ≡ Some c.in-Some.requester.now =
    slice_get_read whos (length whos) c.args.place c.in-Some.requester.now refl (omega (arith, found)) found.1 in
    ap Some c.in_ok-person.ensures ∙ sym (ap (option_map (person c.args.name.now)) who)
