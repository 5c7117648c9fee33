-- Private steps, which no public clause cites: where the entries of a translation take effect.
use Rattle.std.specs.Prelude.{ℕ, List, map}
use Rattle.acl_nfs4.specs.Ace.{Nfsace4}
use Rattle.acl_bridge.specs.Translation.{with_flags, only_inheriting_flags}
use Rattle.acl_bridge.specs.declared.passes.Effect.{Effect}
use Rattle.acl_bridge.specs.declared.passes.Effect.TheVariants.{Here, Below}

-- the flags that entries get, by where they take effect
abbrev pub flags_of : Effect → ℕ
flags_of Here = 0
flags_of Below = only_inheriting_flags

abbrev pub with_effect : Effect → List Nfsace4 → List Nfsace4
with_effect effect aces = map (with_flags (flags_of effect)) aces
