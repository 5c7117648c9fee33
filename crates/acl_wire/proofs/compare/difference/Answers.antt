use Rattle.acl_wire.proofs.CompareLemmas.{compared-values}
use Rattle.acl_wire.proofs.compare.difference.Goals as goal

pub returns : goal.returns
returns c = λ aces other_aces one two.
    compared-values c.args.first.now c.args.second.now aces other_aces one two c.args.owners.now c.args.others.now c.args.bits c.in_ok-stranger.stranger c.difference_with.result c.difference_with.ensures c.in_ok-stranger.ensures.some
