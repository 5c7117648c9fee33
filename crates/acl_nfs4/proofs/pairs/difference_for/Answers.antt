use Rattle.std.proofs.Common.{subst, All, take_all}
use Rattle.acl_names.proofs.TakeLemmas.{All-take-next}
use Rattle.acl_nfs4.specs.Comparison.{OfEach, asker_for}
use Rattle.acl_nfs4.specs.declared.who.Who.{Who}
use Rattle.acl_nfs4.specs.declared.who.Who.TheVariants.{Everyone}
use Rattle.acl_nfs4.proofs.AllowedBits.{match_then}
use Rattle.acl_nfs4.proofs.pairs.difference_for.Goals as goal

pub loop-entry-preserved : goal.loop-entry-preserved
loop-entry-preserved g c =
    let askers = c.args.askers.now in
    let Alike = λ (who : Who). g.L.Compared.Alike c.args.lists.now (asker_for askers.owners askers.other_owners askers.stranger c.args.who.now who) in
    All-take-next (λ entry. Alike (g.E.AboutWho.who entry)) c.args.second.now c.loop-entry.entry-index c.entry-item.result c.loop-entry-test.true c.entry-item.is
    c.loop-entry.invariant (subst Alike c.who.ensures c.in_default.ensures)

pub returns : goal.returns
returns g c =
    let askers = c.args.askers.now in
    let Alike = λ (who : Who). g.L.Compared.Alike c.args.lists.now (asker_for askers.owners askers.other_owners askers.stranger c.args.who.now who) in
    match_then c.difference_at-2.result (Alike Everyone) (OfEach g.E.AboutWho.who c.args.second.now Alike) (g.L.Compared.Differs c.args.lists.now) c.difference_at-2.ensures
    (λ everyone. (subst (All (λ entry. Alike (g.E.AboutWho.who entry))) (take_all c.loop-entry.entry-index c.args.second.now c.loop-entry-test.false) c.loop-entry.invariant, everyone))
