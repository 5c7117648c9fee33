use Rattle.std.proofs.Common.{◌∙◌, sym, ap, true, ℕ, arith, slice_index_or}
use Rattle.acl_nfs4.proofs.MarkLemmas.{denied-none, same_inside}
use Rattle.acl_nfs4.proofs.mode_change.marked_denied_to.Goals as goal

pub returns-else-denied-mark_of : goal.returns-else-denied-mark_of
returns-else-denied-mark_of c =
    c.empty.ensures tt
    ∙ sym (denied-none c.args.who.now c.args.aces.now
    (c.requires c.args.who.now
    (ap (λ (n : ℕ). slice_index_or c.args.denied.now n true) (sym c.mark_of.ensures.value)
    ∙ same_inside c.args.denied.now c.mark_of.result (let far = c.told-denied in let within = c.mark_of.ensures.within in omega arith) ∙ c.if-denied-mark_of.false)))
