use Rattle.std.proofs.Common.{◌≤◌, map, vec_len}
use Rattle.acl_names.specs.declared.limits.TheConstants.{MAX_GROUPS_OF_USER}
use Rattle.acl_names.specs.ListText.{PiecesSay}
use Rattle.acl_cli.specs.Fields.{id_of}
use Rattle.acl_cli.proofs.ids.read_gids.Given as goal

-- the ids so far are those of the pieces so far, and there is room for as many
abbrev pub invariant-loop-piece : goal.invariant-loop-piece
invariant-loop-piece l = record {
  said : PiecesSay id_of (map (λ piece. piece.now) l.yielded) l.gids.items;
  within : vec_len l.gids ≤ MAX_GROUPS_OF_USER;
}
