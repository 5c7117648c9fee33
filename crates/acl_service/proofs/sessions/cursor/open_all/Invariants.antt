use Rattle.std.proofs.Common.{◌≡◌, ◌≤◌, ◌<◌, ◌^◌, All, length, map, take, vec_items, vec_len, vec_capacity}
use Rattle.acl_service.specs.Cursor.{rest_of}
use Rattle.acl_service.specs.Sessions.{requests_of_each}
use Rattle.acl_service.proofs.sessions.cursor.open_all.Given as goal

abbrev pub invariant-loop-text : goal.invariant-loop-text
invariant-loop-text l =
    record {
      count : vec_len l.cursors ≡ l.text-index;
      room : length l.texts ≤ vec_capacity l.cursors;
      requests : map rest_of (vec_items l.cursors) ≡ requests_of_each l.directory (take l.text-index l.texts);
      few : All (λ cursor. length (rest_of cursor) < 2 ^ 32) (vec_items l.cursors);
    }
