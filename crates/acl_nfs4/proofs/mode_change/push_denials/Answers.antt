use Rattle.std.proofs.Common.{subst, set, true, ◌+◌, Bool, ℕ, ◌∙◌, sym, ap, ◌++◌, List, take, append_assoc, flat_map}
use Rattle.std.specs.List.{list_any}
use Rattle.acl_nfs4.specs.Mask.{mask_bits}
use Rattle.acl_nfs4.specs.Ace.{Nfsace4}
use Rattle.acl_nfs4.specs.Marks.{mark_of, IsMarked}
use Rattle.acl_nfs4.proofs.MarkLemmas.{marked-more, names-about}
use Rattle.acl_nfs4.specs.ModeChange.{denial_of, denials, named_whos, names}
use Rattle.acl_nfs4.specs.declared.who.Who.{Who}
use Rattle.acl_nfs4.proofs.ListLemmas.{OnErr-from}
use Rattle.acl_nfs4.proofs.ModeChangeNamed.{made-new, made-again, made-none, made-ahead}
use Rattle.acl_nfs4.proofs.ModeChangeParts.{too_long-within}
use Rattle.acl_nfs4.proofs.mode_change.push_denials.Goals as goal
use Rattle.acl_nfs4.proofs.mode_change.push_denials.Goals.{then-names_someone+then-not-any_marked_names+in_ok-push_denial}
use Rattle.acl_nfs4.proofs.mode_change.push_denials.Goals.{else-names_someone}
use Rattle.acl_nfs4.proofs.mode_change.push_denials.Goals.{else-names_someone-via-then-names_someone+else-not-any_marked_names}
use Rattle.acl_nfs4.proofs.mode_change.push_denials.Goals.{else-names_someone-via-else-names_someone}

pub returns-in_err-push_denial-clause-full : goal.returns-in_err-push_denial-clause-full
returns-in_err-push_denial-clause-full g c =
    let aces = c.args.aces.now in
    let i = c.loop-place.place in
    let ace = c.index-aces-place.result in
    let f : Who → List Nfsace4 = denial_of (mask_bits c.args.bits) aces in
    let ahead = made-ahead f aces i ace c.loop-place-test.true c.index-aces-place.is (sym c.names_someone.ensures ∙ c.if-names_someone.true)
    (ap (λ who. list_any (names who) (take i aces)) (sym c.who.ensures) ∙ sym c.any_marked_names.ensures ∙ c.if-not-any_marked_names.true) in
    OnErr-from c.from_residual.result
    (too_long-within g.row.N c.loop-place.draft (f ace.who) ahead.0 (c.args.draft.now ++ denials (mask_bits c.args.bits) aces)
    (ap (λ (xs : List Nfsace4). xs ++ (f ace.who ++ ahead.0)) c.loop-place.invariant.0
    ∙ append_assoc c.args.draft.now (flat_map f (named_whos (take i aces))) (f ace.who ++ ahead.0)
    ∙ ap (λ (xs : List Nfsace4). c.args.draft.now ++ xs) ahead.1)
    (rw (← c.who-then-not-any_marked_names.ensures) c.in_err-push_denial.ensures.full))

pub loop-place-preserved : goal.loop-place-preserved
loop-place-preserved g c =
    let aces = c.args.aces.now in
    let i = c.loop-place.place in
    let ace = c.index-aces-place.result in
    let f : Who → List Nfsace4 = denial_of (mask_bits c.args.bits) aces in
    let front : List Nfsace4 = c.args.draft.now in (
      elim c.if-names_someone.branch [
        | then-names_someone+then-not-any_marked_names+in_ok-push_denial w ↦
            w.draft-is ∙ w.in_ok-push_denial.ensures.ok
            ∙ ap (λ (xs : List Nfsace4). xs ++ f w.who-then-not-any_marked_names.result) c.loop-place.invariant.0
            ∙ append_assoc front (flat_map f (named_whos (take i aces))) (f w.who-then-not-any_marked_names.result)
            ∙ ap (λ (xs : List Nfsace4). front ++ xs)
            (ap (λ who. flat_map f (named_whos (take i aces)) ++ f who) w.who-then-not-any_marked_names.ensures
            ∙ sym (made-new f aces i ace c.loop-place-test.true c.index-aces-place.is (sym c.names_someone.ensures ∙ w.if-names_someone.true)
            (ap (λ who. list_any (names who) (take i aces)) (sym w.who.ensures) ∙ sym w.any_marked_names.ensures ∙ w.if-not-any_marked_names.true)))
        | else-names_someone w ↦
            w.draft-is ∙ c.loop-place.invariant.0
            ∙ ap (λ (xs : List Nfsace4). front ++ xs)
            (elim w.else-names_someone.branch [
              | else-names_someone-via-then-names_someone+else-not-any_marked_names w' ↦
                  sym (made-again f aces i ace c.loop-place-test.true c.index-aces-place.is
                  (ap (λ who. list_any (names who) (take i aces)) (sym w'.who.ensures) ∙ sym w'.any_marked_names.ensures ∙ w'.if-not-any_marked_names.false))
              | else-names_someone-via-else-names_someone w' ↦
                  sym (made-none f aces i ace c.loop-place-test.true c.index-aces-place.is (sym c.names_someone.ensures ∙ w'.if-names_someone.false))
            ])
      ],
      subst (λ (marks : List Bool). IsMarked names marks (take (i + 1) aces))
          (sym (ap (λ (n : ℕ). set c.loop-place.named n true) (c.mark_of.ensures.value ∙ ap mark_of c.who-in-loop-place.ensures)))
          (marked-more names names-about c.loop-place.named aces i ace c.loop-place-test.true c.index-aces-place.is c.loop-place.invariant.1),
    )
