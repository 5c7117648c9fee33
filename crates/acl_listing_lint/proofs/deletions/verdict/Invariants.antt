use Rattle.std.proofs.Common.{◌≡◌, ◌^◌, ℕ, None, take}
use Rattle.acl_nfs4.specs.Evaluation.{verdict}
use Rattle.acl_nfs4.specs.Mask.{mask_bits}
use Rattle.acl_listing_lint.specs.Deletions.{is_everyone}
use Rattle.acl_listing_lint.proofs.deletions.verdict.Given as goal

-- no entry so far speaks of it
abbrev pub invariant-loop-ace : goal.invariant-loop-ace
invariant-loop-ace l = (place : ℕ) → mask_bits l.bit ≡ 2 ^ place → verdict is_everyone place (take l.ace-index l.acl) ≡ None
