use Rattle.acl_bridge.proofs.ComparisonLemmas.{alike_of_mode, none_through, some_through}
use Rattle.acl_bridge.proofs.comparison.posix_difference.Goals as goal

pub returns-clause-none : goal.returns-clause-none
returns-clause-none c =
    none_through (alike_of_mode (c.in_ok-before.ensures c.args.owners.now.owner c.args.owners.now.group))
    (alike_of_mode (c.in_ok-after.ensures c.args.other_owners.now.owner c.args.other_owners.now.group))
    c.permission_bits.ensures c.difference.result c.difference.ensures.none

pub returns-clause-some : goal.returns-clause-some
returns-clause-some c =
    some_through (alike_of_mode (c.in_ok-before.ensures c.args.owners.now.owner c.args.owners.now.group))
    (alike_of_mode (c.in_ok-after.ensures c.args.other_owners.now.owner c.args.other_owners.now.group))
    c.permission_bits.ensures c.difference.result c.difference.ensures.some
