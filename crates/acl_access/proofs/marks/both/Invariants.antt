use Rattle.std.proofs.Common.{◌≡◌, map, take}
use Rattle.std.specs.List.{enumerate_from}
use Rattle.acl_access.specs.Marks.{mark_in_both}
use Rattle.acl_access.proofs.marks.both.Given as goal

-- the marks so far
abbrev pub invariant-loop-place : goal.invariant-loop-place
invariant-loop-place l = l.marks.items ≡ map (mark_in_both l.other) (enumerate_from 0 (take l.place l.one))
