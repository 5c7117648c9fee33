use Rattle.std.proofs.Common.{◌≡◌, ◌++◌, drop}
use Rattle.acl_wire.specs.RawAcesWriting.{raws_of}
use Rattle.acl_wire.proofs.draft.push_aces.Given as goal

-- the entries so far, and those to come, are the whole
abbrev pub invariant-loop-ace : goal.invariant-loop-ace
invariant-loop-ace g l = l.draft.items ++ raws_of (drop l.ace-index l.aces) ≡ l.fn.draft.items ++ raws_of l.aces
