use Rattle.std.proofs.Common.{◌∙◌, ◌≤◌, arith, ap, length}
use Rattle.acl_nfs4.specs.ModeChange.{with_mode}
use Rattle.acl_nfs4.specs.declared.limits.TheConstants.{INLINE_ACES}
use Rattle.acl_wire.proofs.CreationLemmas.{few, is_done}
use Rattle.acl_wire.proofs.creation.of_mode.Goals as goal

pub returns-clause-value : goal.returns-clause-value
returns-clause-value c =
    let short : length (with_mode c.empty-list.result c.args.mode) ≤ INLINE_ACES = omega (arith, few c.args.mode, ap (λ aces. length (with_mode aces c.args.mode)) c.empty-list.ensures) in
    is_done c.chmod4-set.result c.chmod4-set.ensures.ok (c.chmod4-set.ensures.short short) ∙ ap (λ aces. with_mode aces c.args.mode) c.empty-list.ensures

pub returns-clause-few : goal.returns-clause-few
returns-clause-few c = omega (arith, few c.args.mode, ap length (returns-clause-value c))
