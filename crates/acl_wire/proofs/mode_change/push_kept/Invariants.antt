use Rattle.std.proofs.Common.{◌≡◌, ◌++◌, drop}
use Rattle.acl_nfs4.specs.ModeChange.{kept_of_list}
use Rattle.acl_posix.specs.Perms.{bits_of}
use Rattle.acl_wire.specs.Kept.{kept_aces}
use Rattle.acl_wire.specs.RawAcesWriting.{raws_of}
use Rattle.acl_wire.proofs.mode_change.push_kept.Given as goal

-- the entries so far, and what those to come leave, are the whole
abbrev pub invariant-loop-place : goal.invariant-loop-place
invariant-loop-place g l =
    l.draft.items ++ raws_of (kept_of_list (bits_of l.group) (kept_aces (drop l.place l.raws) (drop l.place l.aces)))
    ≡ l.fn.draft.items ++ raws_of (kept_of_list (bits_of l.group) (kept_aces l.raws l.aces))
