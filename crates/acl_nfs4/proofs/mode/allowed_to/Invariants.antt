use Rattle.std.proofs.Common.{drop}
use Rattle.acl_nfs4.specs.Evaluation.{of_class}
use Rattle.acl_nfs4.specs.Mask.{mask_bits}
use Rattle.acl_nfs4.proofs.EvaluationLoop.{IsFound}
use Rattle.acl_nfs4.proofs.mode.allowed_to.Given as goal

-- a bit of the mode is allowed if it was found to be, or is open and allowed by the entries to come
abbrev pub invariant-loop-ace : goal.invariant-loop-ace
invariant-loop-ace l = IsFound (of_class l.class) l.aces (drop l.ace-index l.aces) (mask_bits l.allowed) (mask_bits l.open)
