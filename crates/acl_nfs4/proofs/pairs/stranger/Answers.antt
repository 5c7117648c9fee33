use Rattle.std.proofs.Common.{arith}
use Rattle.acl_nfs4.proofs.ComparisonStrangers.{asked_few}
use Rattle.acl_nfs4.proofs.pairs.stranger.Goals as goal

-- each of so many users is one for whom an entry asks, or is known
pub returns-clause-none : goal.returns-clause-none
returns-clause-none g c = omega (
  arith,
  asked_few g.E.AboutWho.who c.args.owner c.args.other_owner
      c.loop-place.place c.args.first.now c.args.second.now c.args.known.now c.loop-place.invariant,
)
