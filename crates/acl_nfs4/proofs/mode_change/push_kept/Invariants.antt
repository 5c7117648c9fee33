use Rattle.std.proofs.Common.{◌≡◌, ◌++◌, drop}
use Rattle.acl_posix.specs.Perms.{bits_of}
use Rattle.acl_nfs4.specs.ModeChange.{kept_of_list}
use Rattle.acl_nfs4.proofs.mode_change.push_kept.Given as goal

-- the draft so far, and what the entries to come leave, are the whole
abbrev pub invariant-loop-ace : goal.invariant-loop-ace
invariant-loop-ace g l = l.draft ++ kept_of_list (bits_of l.group) (drop l.ace-index l.aces) ≡ l.initial.draft ++ kept_of_list (bits_of l.group) l.aces
