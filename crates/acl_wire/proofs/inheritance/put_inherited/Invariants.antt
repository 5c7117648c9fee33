use Rattle.std.proofs.Common.{◌≡◌, ◌≤◌, ◌++◌, drop, length}
use Rattle.acl_nfs4.specs.Inheritance.{inherited_list}
use Rattle.acl_wire.specs.Kept.{kept_aces}
use Rattle.acl_wire.specs.RawAcesWriting.{raws_of}
use Rattle.acl_wire.proofs.inheritance.put_inherited.Given as goal

-- what is inherited so far, and of the entries to come, is the whole
abbrev pub invariant-loop-place : goal.invariant-loop-place
invariant-loop-place g l =
    (l.draft.items ++ raws_of (inherited_list l.kind (kept_aces (drop l.place l.raws) (drop l.place l.aces)))
    ≡ raws_of (inherited_list l.kind (kept_aces l.raws l.aces)))
    × (length l.draft.items ≤ l.place)
