use Rattle.acl_accounts.proofs.FirstLemmas.{AreFirstsUpTo}
use Rattle.acl_accounts.proofs.named.first_of_each.Given as goal

abbrev pub invariant-loop-member : goal.invariant-loop-member
invariant-loop-member g l = AreFirstsUpTo g.T.Named.name_of l.members l.member-index l.firsts.items
