use Rattle.std.proofs.lemmas.Result.{IfOk-weaker}
use Rattle.acl_listing_lint.specs.Effects.{file_by, no_effect_line}
use Rattle.acl_listing_lint.specs.LintSteps.{view_spot}
use Rattle.acl_listing_lint.proofs.EffectLemmas.{adds_exactly}
use Rattle.acl_listing_lint.proofs.no_effect.push_if_alike.Goals as goal

pub returns : goal.returns
returns c = IfOk-weaker c.push_unless_found.result _ _
    (λ _ added. adds_exactly (file_by c.args.owners.now c.args.acl.now) (file_by c.args.owners.now c.args.other) (no_effect_line (view_spot c.args.spot.now)) _ _ added)
    c.push_unless_found.ensures
