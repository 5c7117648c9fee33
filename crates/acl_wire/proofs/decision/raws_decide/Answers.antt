use Rattle.std.proofs.Common.{◌∙◌, sym}
use Rattle.acl_wire.proofs.DecisionLemmas.{says-of_ids}
use Rattle.acl_wire.proofs.decision.raws_decide.Goals as goal

pub returns-then-is_request : goal.returns-then-is_request
returns-then-is_request c =
    let ids = c.in-Some-Some-Some in
    says-of_ids c.args.raws.now c.args.owner c.args.group c.args.uid c.args.gids.now c.args.request c.decide.result ids.owner ids.group ids.uid
    (sym ids.ensures) (sym ids.ensures') (sym ids.ensures'') (sym c.is_request.ensures ∙ c.if-is_request.true) c.decide.ensures
