use Rattle.std.proofs.Common.{◌↔◌, drop}
use Rattle.acl_nfs4.specs.Evaluation.{Grants}
use Rattle.acl_nfs4.specs.Mask.{mask_bits}
use Rattle.acl_nfs4.specs.Who.{matches}
use Rattle.acl_nfs4.proofs.evaluation.grants.Given as goal

-- all that was requested is granted if the entries to come grant what is still open
abbrev pub invariant-loop-ace : goal.invariant-loop-ace
invariant-loop-ace l =
    Grants (matches l.owner l.group l.requester) l.aces (mask_bits l.fn.requested)
    ↔ Grants (matches l.owner l.group l.requester) (drop l.ace-index l.aces) (mask_bits l.open)
