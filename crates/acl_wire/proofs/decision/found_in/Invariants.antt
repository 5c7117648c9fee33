use Rattle.std.proofs.Common.{◌≡◌, drop}
use Rattle.acl_nfs4.specs.Who.{matches}
use Rattle.acl_wire.specs.DecisionSteps.{goes_on}
use Rattle.acl_wire.proofs.decision.found_in.Given as goal

-- what was found goes on as nothing found would with all
abbrev pub invariant-loop-raw : goal.invariant-loop-raw
invariant-loop-raw g l =
    goes_on (matches l.owner l.group (g.S.Subject.identity l.subject)) l.found (drop l.raw-index l.raws)
    ≡ goes_on (matches l.owner l.group (g.S.Subject.identity l.subject)) (record { allowed = 0; left = l.request }) l.raws
