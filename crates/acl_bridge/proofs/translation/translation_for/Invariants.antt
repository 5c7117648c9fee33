use Rattle.std.proofs.Common.{◌≡◌, ◌++◌, drop, flat_map}
use Rattle.acl_bridge.specs.Effects.{with_effect}
use Rattle.acl_bridge.specs.Translation.{aces_of_pass, passes, translation}
use Rattle.acl_bridge.proofs.translation.translation_for.Given as goal

-- what is there and what the passes to come make is the translation
abbrev pub invariant-loop-pass : goal.invariant-loop-pass
invariant-loop-pass l =
    l.aces ++ with_effect l.effect (flat_map (λ pass. aces_of_pass pass l.acl) (drop l.pass-index passes))
    ≡ with_effect l.effect (translation l.acl)
