use Rattle.std.proofs.Common.{◌∙◌, sym, ap, bytes_eq}
use Rattle.std.specs.List.{slice_get}
use Rattle.std.specs.Option.{option_and_then}
use Rattle.acl_accounts.proofs.PlaceLemmas.{find_in_place}
use Rattle.acl_accounts.proofs.guesses.find_by_hash.Goals as goal

pub returns : goal.returns
returns g c =
    let members = c.args.members.now in
    c.member_at.ensures ∙ ap (option_and_then (slice_get members)) c.place_by_hash.ensures
    ∙ sym (find_in_place (λ other. bytes_eq (g.T.Named.name_of other) c.args.name.now) members)
