use Rattle.std.proofs.Common.{◌≡◌, length}
use Rattle.acl_accounts.specs.Space as space
use Rattle.acl_accounts.proofs.space.skip_space.Given as goal

abbrev pub invariant-loop-rest : goal.invariant-loop-rest
invariant-loop-rest l = space.skip_space l.rest ≡ space.skip_space l.text

abbrev pub decreases-loop-rest : goal.decreases-loop-rest
decreases-loop-rest l = length l.rest
