use Rattle.std.proofs.Common.{◌≡◌, ◌++◌, map, take, drop}
use Rattle.acl_posix.specs.Mode.{limit_to}
use Rattle.acl_posix.proofs.acl.modes.limit_all.Given as goal

-- the entries so far are changed, and the others are as they were
abbrev pub invariant-loop-entry : goal.invariant-loop-entry
invariant-loop-entry l =
    l.entries ≡ map (limit_to l.group_class l.mode) (take l.entry-index l.fn.entries) ++ drop l.entry-index l.fn.entries
