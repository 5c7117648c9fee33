use Rattle.std.proofs.Common.{◌≡◌, ◌+◌, ◌++◌, ◌≤◌, vec_items, vec_len, vec_capacity}
use Rattle.std.specs.Vec.Iter.{into_iter_items, into_iter_len}
use Rattle.acl_service.proofs.sessions.report.entries_of.Given as goal

-- the entries so far and those left are all, and there is room for those left
abbrev pub invariant-loop-entry : goal.invariant-loop-entry
invariant-loop-entry l =
    let rest = l.entry-iterator in
    record {
      entries : vec_items l.entries ++ into_iter_items rest ≡ into_iter_items l.initial.entry-iterator;
      room : vec_len l.entries + into_iter_len rest ≤ vec_capacity l.entries;
    }
