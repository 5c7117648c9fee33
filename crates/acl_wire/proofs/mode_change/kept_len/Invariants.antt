use Rattle.std.proofs.Common.{◌≡◌, ◌+◌, ◌*◌, ◌≤◌, drop, length}
use Rattle.acl_nfs4.specs.ModeChange.{kept_of_list}
use Rattle.acl_posix.specs.Perms.{bits_of}
use Rattle.acl_wire.proofs.mode_change.kept_len.Given as goal

-- those so far, and those that entries to come leave, are all
abbrev pub invariant-loop-ace : goal.invariant-loop-ace
invariant-loop-ace l =
    (l.len + length (kept_of_list (bits_of l.group) (drop l.ace-index l.aces)) ≡ length (kept_of_list (bits_of l.group) l.aces))
    × (l.len ≤ 2 * l.ace-index)
