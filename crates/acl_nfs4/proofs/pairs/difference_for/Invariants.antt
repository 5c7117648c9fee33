use Rattle.std.proofs.Common.{take, All}
use Rattle.acl_nfs4.specs.Comparison.{asker_for}
use Rattle.acl_nfs4.proofs.pairs.difference_for.Given as goal

-- the entries so far report no difference
abbrev pub invariant-loop-entry : goal.invariant-loop-entry
invariant-loop-entry g l =
    All (λ entry. g.L.Compared.Alike l.lists (asker_for l.askers.owners l.askers.other_owners l.askers.stranger l.who (g.E.AboutWho.who entry)))
    (take l.entry-index l.second)
