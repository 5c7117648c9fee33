use Rattle.std.proofs.Common.{◌≡◌, ◌∙◌, ℕ, List, Option, Some, None, find, get_or, option_map, string_bytes, ap, sym, bytes_eq, append-nil}
use Rattle.acl_names.proofs.MapLemmas.{filter_map-one_more}
use Rattle.acl_names.proofs.directory.user.gids_of.Goals as goal
use Rattle.acl_names.proofs.directory.user.gids_of.Goals.{in-Some+in_ok-push, in_default}

pub loop-name-preserved : goal.loop-name-preserved
loop-name-preserved c =
    let gid_by = λ (bytes : List ℕ). option_map (λ group. group.gid) (find (λ group. bytes_eq group.name bytes) c.args.groups.now) in
    let gives : gid_by (string_bytes (get_or c.args.names.now c.loop-name.name-index c.name-item.result)) ≡ c.gid_named.result =
    ap (λ name. gid_by (string_bytes name)) (sym c.name-item.is) ∙ ap gid_by (sym c.as_str.ensures.value) ∙ sym c.gid_named.ensures in
    let more = λ (o : Option ℕ) (is : c.gid_named.result ≡ o). filter_map-one_more (λ name. gid_by (string_bytes name))
    c.args.names.now c.loop-name.name-index c.name-item.result c.loop-name.gids.items o c.loop-name-test.true c.loop-name.invariant (gives ∙ is) in
    elim c.match-gid_named.branch [
      | in-Some+in_ok-push w ↦ ap (λ gids. gids.items) w.gids-is ∙ w.in_ok-push.ensures.items ∙ more (Some w.in-Some.gid) w.in-Some.is
      | in_default w ↦ ap (λ gids. gids.items) w.gids-is ∙ sym (append-nil _) ∙ more None w.in_default.is
    ]
