use Rattle.std.proofs.Common.{◌≡◌, ◌++◌, drop}
use Rattle.acl_wire.specs.Keeping.{left_of_list}
use Rattle.acl_wire.specs.Kept.{kept_aces}
use Rattle.acl_wire.specs.RawAcesWriting.{raws_of}
use Rattle.acl_wire.proofs.keeping.push_left.Given as goal

-- the entries so far, and what those to come leave, are the whole
abbrev pub invariant-loop-place : goal.invariant-loop-place
invariant-loop-place g l =
    l.draft.items ++ raws_of (left_of_list (kept_aces (drop l.place l.raws) (drop l.place l.aces)))
    ≡ l.fn.draft.items ++ raws_of (left_of_list (kept_aces l.raws l.aces))
