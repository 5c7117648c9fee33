use Rattle.std.proofs.Common.{refl}
use Rattle.acl_bridge.proofs.ComparisonLemmas.{none_through, some_through}
use Rattle.acl_bridge.proofs.comparison.difference_from_posix.Goals as goal

pub returns-clause-none : goal.returns-clause-none
returns-clause-none c =
    none_through (c.in_ok-before.ensures c.args.owners.now.owner c.args.owners.now.group) (λ requester bit asked. refl) c.mode_bits.ensures c.difference.result c.difference.ensures.none

pub returns-clause-some : goal.returns-clause-some
returns-clause-some c =
    some_through (c.in_ok-before.ensures c.args.owners.now.owner c.args.owners.now.group) (λ requester bit asked. refl) c.mode_bits.ensures c.difference.result c.difference.ensures.some
