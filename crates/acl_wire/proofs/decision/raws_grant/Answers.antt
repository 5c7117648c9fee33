use Rattle.acl_wire.proofs.GrantLemmas.{granted-allowed}
use Rattle.acl_wire.proofs.decision.raws_grant.Goals as goal

pub returns-in-Ok : goal.returns-in-Ok
returns-in-Ok c =
    let answer = c.in-Ok.ensures in
    (answer.0, answer.1, granted-allowed answer.0 c.args.owner c.args.group (record { uid = c.args.uid; gids = c.args.gids.now }) c.args.request c.in-Ok.allowed answer.2)
