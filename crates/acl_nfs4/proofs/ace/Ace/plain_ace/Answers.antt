use Rattle.acl_nfs4.proofs.AceLemmas.{IsAce-plain_ace, is_idle-plain_ace}
use Rattle.acl_nfs4.proofs.ace.Ace.plain_ace.Goals as goal

pub invariant_of-result : goal.invariant_of-result
invariant_of-result c = IsAce-plain_ace c.args.kind c.args.who c.args.mask.0 c.flags-flags.ensures c.requires

pub returns-clause-effective : goal.returns-clause-effective
returns-clause-effective c = is_idle-plain_ace c.args.kind c.args.who c.args.mask.0 c.flags-flags.ensures
