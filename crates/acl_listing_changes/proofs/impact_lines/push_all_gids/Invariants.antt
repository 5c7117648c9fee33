use Rattle.std.proofs.Common.{◌≡◌, ◌++◌, ◌∷◌, decimal, take}
use Rattle.std.specs.List.{flat_map}
use Rattle.acl_names.specs.Bytes.{comma}
use Rattle.acl_listing_changes.proofs.impact_lines.push_all_gids.Given as goal

-- the gids so far
abbrev pub invariant-loop-gid : goal.invariant-loop-gid
invariant-loop-gid l = l.out.items ≡ l.initial.out.items ++ flat_map (λ other. comma ∷ decimal other) (take l.gid-index l.others)
