use Rattle.std.proofs.Common.{◌∙◌, ◌+◌, sym, ap, subst, set, take, true, List, Bool, ℕ}
use Rattle.acl_nfs4.specs.Ace.{is_deny}
use Rattle.acl_nfs4.specs.Marks.{mark_of, IsMarked}
use Rattle.acl_nfs4.specs.ModeChange.{denies_by_name}
use Rattle.acl_nfs4.proofs.MarkLemmas.{marked-more, marked-on, denies-about, denies-none}
use Rattle.acl_nfs4.proofs.mode_change.marks_of_denied.Goals as goal
use Rattle.acl_nfs4.proofs.mode_change.marks_of_denied.Goals.{then-is_deny, else-is_deny}

pub loop-ace-preserved : goal.loop-ace-preserved
loop-ace-preserved c =
    let aces = c.args.aces.now in
    let i = c.loop-ace.ace-index in
    let ace = c.ace-item.result in
    let marks : List Bool = c.loop-ace.denied in
    elim c.if-is_deny.branch [
      | then-is_deny w ↦
          subst (λ (these : List Bool). IsMarked denies_by_name these (take (i + 1) aces))
          (sym (w.denied-is ∙ ap (λ (n : ℕ). set marks n true) (w.mark_of.ensures.value ∙ ap mark_of w.who.ensures)))
          (marked-more denies_by_name denies-about marks aces i ace c.loop-ace-test.true c.ace-item.is c.loop-ace.invariant)
      | else-is_deny w ↦
          subst (λ (these : List Bool). IsMarked denies_by_name these (take (i + 1) aces)) (sym w.denied-is)
          (marked-on denies_by_name marks aces i ace c.loop-ace-test.true c.ace-item.is
          (λ who. denies-none who ace (ap is_deny (sym c.kind.ensures) ∙ sym c.is_deny.ensures ∙ w.if-is_deny.false)) c.loop-ace.invariant)
    ]
