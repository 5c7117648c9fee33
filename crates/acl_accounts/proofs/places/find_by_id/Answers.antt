use Rattle.std.proofs.Common.{◌∙◌, ◌==◌, sym, ap}
use Rattle.std.specs.List.{slice_get}
use Rattle.std.specs.Option.{option_and_then}
use Rattle.acl_accounts.proofs.PlaceLemmas.{find_in_place}
use Rattle.acl_accounts.proofs.places.find_by_id.Goals as goal

pub returns : goal.returns
returns g c =
    let members = c.args.members.now in
    c.member_at.ensures ∙ ap (option_and_then (slice_get members)) (c.copied.ensures ∙ c.get.ensures.value ∙ c.requires)
    ∙ sym (find_in_place (λ member. g.T.Numbered.id_of member == c.args.id) members)
