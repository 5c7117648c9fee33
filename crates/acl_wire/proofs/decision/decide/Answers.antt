use Rattle.std.proofs.Common.{sym}
use Rattle.acl_names.proofs.StepLemmas.{handed_on}
use Rattle.acl_names.specs.Requester.{Identity}
use Rattle.acl_wire.specs.Decision.{front_of}
use Rattle.acl_wire.proofs.DecisionLemmas.{decided-err, decided-ok}
use Rattle.acl_wire.proofs.decision.decide.Goals as goal

pub returns-in_err-found : goal.returns-in_err-found
returns-in_err-found c =
    let who : Identity = record { uid = c.args.caller.now.uid; gids = c.args.caller.now.gids.now } in
    rw (handed_on c.from_residual.result _ c.from_residual.ensures.1)
    (decided-err c.args.owner c.args.group who c.args.raws.now c.args.request c.in_err-found.field-0.0 c.ranges.request.fits (sym c.in_err-found.ensures))

pub returns : goal.returns
returns c =
    let who : Identity = record { uid = c.args.caller.now.uid; gids = c.args.caller.now.gids.now } in
    let is = decided-ok c.args.owner c.args.group who c.args.raws.now c.args.request c.in_ok-found.found (sym c.in_ok-found.ensures) in
    ((front_of c.args.raws.now).aces, is.0, rw (c.without_bits-2.ensures, c.without_bits.ensures) is.1)
