use Rattle.std.proofs.Common.{◌≡◌, option_map, find, take, string_bytes, filter_map, bytes_eq}
use Rattle.acl_names.proofs.directory.user.gids_of.Given as goal

-- the gids of the names that were passed
abbrev pub invariant-loop-name : goal.invariant-loop-name
invariant-loop-name l =
    l.gids.items ≡ filter_map (λ name. option_map (λ group. group.gid) (find (λ group. bytes_eq group.name (string_bytes name)) l.groups)) (take l.name-index l.names)
