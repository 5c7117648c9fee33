use Rattle.std.proofs.Common.{◌≡◌, ◌∙◌, ℕ, List, [], Option, sym, ap, find, map, option_map, filter_map, bytes_eq, string_bytes}
use Rattle.acl_names.specs.Directory.{KnownGroup, as_requester}
use Rattle.acl_names.proofs.MapLemmas.{filter_map-map}
use Rattle.acl_names.proofs.directory.user.User.requester.Goals as goal

pub returns : goal.returns
returns c =
    let gid_named : List ℕ → Option ℕ = λ name. option_map (λ (group : KnownGroup). group.gid) (find (λ (group : KnownGroup). bytes_eq group.name name) c.args.groups.now) in
    let gids : c.in_ok-gids.gids.items ≡ filter_map gid_named (map string_bytes c.self.inside.groups.items) =
    rw c.deref.ensures.value at c.in_ok-gids.ensures ∙ sym (filter_map-map gid_named string_bytes c.self.inside.groups.items) in
    c.new.ensures ∙ (λ i. record { uid = c.self.inside.uid; gids = gids i }) ∙ ap (as_requester (record { domain = []; users = []; groups = c.args.groups.now })) c.self.view_is
