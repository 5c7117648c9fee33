use Rattle.std.proofs.Common.{◌≡◌, ◌++◌, take}
use Rattle.std.specs.List.{flat_map}
use Rattle.acl_queries.specs.Reasons.{entry_line_if}
use Rattle.acl_queries.proofs.reasons.posix.push_entries.Given as goal

-- the lines of the entries so far
abbrev pub invariant-loop-entry : goal.invariant-loop-entry
invariant-loop-entry l = l.out.items ≡ l.fn.out.items ++ flat_map (entry_line_if l.directory l.class l.asked l.acl) (take l.entry-index l.entries)
