use Rattle.std.proofs.Common.{◌≡◌, ◌++◌, take, flat_map}
use Rattle.acl_nfs4.specs.Mask.{mask_bits}
use Rattle.acl_nfs4.specs.Marks.{IsMarked}
use Rattle.acl_nfs4.specs.ModeChange.{denial_of, named_whos, names}
use Rattle.acl_nfs4.proofs.mode_change.push_denials.Given as goal

-- the denials so far are of those whom the entries so far name, and those are marked
abbrev pub invariant-loop-place : goal.invariant-loop-place
invariant-loop-place g l =
    (l.draft ≡ l.initial.draft ++ flat_map (denial_of (mask_bits l.bits) l.aces) (named_whos (take l.place l.aces)))
    × IsMarked names l.named (take l.place l.aces)
