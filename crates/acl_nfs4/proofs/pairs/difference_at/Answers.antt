use Rattle.std.proofs.Common.{subst, MatchOption}
use Rattle.acl_names.specs.Requester.{Identity}
use Rattle.acl_nfs4.proofs.pairs.difference_at.Goals as goal

pub returns : goal.returns
returns g c =
    subst (λ (one : Identity). MatchOption c.difference.result (g.L.Compared.Alike c.args.lists.now one) (g.L.Compared.Differs c.args.lists.now))
    c.asker_for.ensures c.difference.ensures
