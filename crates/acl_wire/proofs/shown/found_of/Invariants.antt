use Rattle.std.proofs.Common.{◌≡◌, drop}
use Rattle.acl_nfs4.specs.Evaluation.{of_class}
use Rattle.acl_nfs4.specs.Mask.{mode_bits}
use Rattle.acl_wire.specs.DecisionSteps.{goes_on}
use Rattle.acl_wire.proofs.shown.found_of.Given as goal

-- what was found goes on as nothing found would with all
abbrev pub invariant-loop-raw : goal.invariant-loop-raw
invariant-loop-raw l =
    goes_on (of_class l.class) l.found (drop l.raw-index l.raws) ≡ goes_on (of_class l.class) (record { allowed = 0; left = mode_bits }) l.raws
