use Rattle.std.proofs.Common.{◌≡◌, ◌∙◌, get_or, sym, ap, Some, arith}
use Rattle.std.proofs.lemmas.Option.{slice_get-get_or}
use Rattle.acl_names.proofs.Indexes.{place_found, none_found}
use Rattle.acl_names.proofs.directory.named.find_by_id.Goals as goal

pub offset_bounds-members-place : goal.offset_bounds-members-place
offset_bounds-members-place g c =
    let place = place_found g.T.Named.id_of c.args.members.now c.args.index.now c.requires c.args.id c.in-Some.place c.in-Some.ensures in
    omega (arith, place.is, place.inside)

pub bounds-members-place : goal.bounds-members-place
bounds-members-place g c =
    let place = place_found g.T.Named.id_of c.args.members.now c.args.index.now c.requires c.args.id c.in-Some.place c.in-Some.ensures in
    omega (arith, place.is, place.inside)

pub returns-in-Some : goal.returns-in-Some
returns-in-Some g c =
    let members = c.args.members.now in
    let place = place_found g.T.Named.id_of members c.args.index.now c.requires c.args.id c.in-Some.place c.in-Some.ensures in
    let at : c.in-Some.place ≡ place.behind = omega (arith, place.is) in
    ap Some (c.index-members-place.is ∙ ap (λ k. get_or members k c.index-members-place.result) at)
    ∙ sym (place.found ∙ slice_get-get_or members place.behind c.index-members-place.result place.inside)

pub returns-in-None : goal.returns-in-None
returns-in-None g c = sym (none_found g.T.Named.id_of c.args.members.now c.args.index.now c.requires c.args.id c.in-None.ensures)
