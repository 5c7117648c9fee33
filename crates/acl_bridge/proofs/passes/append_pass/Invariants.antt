use Rattle.std.proofs.Common.{◌≡◌, ◌++◌, drop, flat_map}
use Rattle.acl_bridge.specs.Effects.{with_effect}
use Rattle.acl_bridge.specs.Translation.{in_class, aces_of_entry, aces_of_pass}
use Rattle.acl_bridge.proofs.passes.append_pass.Given as goal

-- what is there and what the entries to come make is what was there and what the pass makes
abbrev pub invariant-loop-entry : goal.invariant-loop-entry
invariant-loop-entry l =
    l.aces ++ with_effect l.effect (flat_map (aces_of_entry l.part l.acl) (in_class l.class (drop l.entry-index l.entry-items)))
    ≡ l.fn.aces ++ with_effect l.effect (aces_of_pass l.fn.pass l.acl)
