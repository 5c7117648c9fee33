use Rattle.std.proofs.Common.{◌≡◌, drop, length, take}
use Rattle.acl_setup.specs.PartsKeys.{repeated_from, repeated_in}
use Rattle.acl_setup.proofs.repeats.repeated_in.Given as goal

-- none so far is as one before it
abbrev pub invariant-loop-index : goal.invariant-loop-index
invariant-loop-index g l = record {
  left : repeated_from g.L.Likeness.same (take l.index l.values) l.index (drop l.index l.values) ≡ repeated_in g.L.Likeness.same l.values;
  all : l.index-end ≡ length l.values;
}
