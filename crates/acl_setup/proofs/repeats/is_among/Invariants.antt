use Rattle.std.proofs.Common.{◌≡◌, drop}
use Rattle.std.specs.List.{list_any}
use Rattle.acl_setup.proofs.repeats.is_among.Given as goal

-- the value is as none so far
abbrev pub invariant-loop-other : goal.invariant-loop-other
invariant-loop-other g l = list_any (g.L.Likeness.same l.value) (drop l.other-index l.before) ≡ list_any (g.L.Likeness.same l.value) l.before
