use Rattle.std.proofs.Common.{take, All}
use Rattle.acl_nfs4.specs.Comparison.{OfEach, asker_for}
use Rattle.acl_nfs4.proofs.pairs.difference_of.Given as goal

-- the entries so far report no difference
abbrev pub invariant-loop-entry : goal.invariant-loop-entry
invariant-loop-entry g l =
    All (λ entry. OfEach g.E.AboutWho.who l.second (λ other. g.L.Compared.Alike l.lists
    (asker_for l.askers.owners l.askers.other_owners l.askers.stranger (g.E.AboutWho.who entry) other)))
    (take l.entry-index l.first)
