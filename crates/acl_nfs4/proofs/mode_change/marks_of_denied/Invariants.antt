use Rattle.std.proofs.Common.{take}
use Rattle.acl_nfs4.specs.Marks.{IsMarked}
use Rattle.acl_nfs4.specs.ModeChange.{denies_by_name}
use Rattle.acl_nfs4.proofs.mode_change.marks_of_denied.Given as goal

-- those whom the entries so far deny something are marked
abbrev pub invariant-loop-ace : goal.invariant-loop-ace
invariant-loop-ace l = IsMarked denies_by_name l.denied (take l.ace-index l.aces)
