use Rattle.std.proofs.Common.{drop}
use Rattle.acl_nfs4.specs.Mask.{mask_bits}
use Rattle.acl_nfs4.specs.Who.{matches}
use Rattle.acl_nfs4.proofs.AllowedBits.{AreFound}
use Rattle.acl_nfs4.proofs.allowed.allowed_to.Given as goal

-- a bit that is asked is allowed if it was found to be, or is open and allowed by the entries to come
abbrev pub invariant-loop-ace : goal.invariant-loop-ace
invariant-loop-ace g l =
    AreFound (matches l.owner l.group (g.S.Subject.identity l.subject)) l.aces (mask_bits l.fn.bits) (drop l.ace-index l.aces) (mask_bits l.allowed) (mask_bits l.open)
