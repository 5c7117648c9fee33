use Rattle.std.proofs.Common.{◌≡◌, ◌∙◌, sym, ap, ap₂, subst, ◌++◌, ◌∷◌, [], List, append_assoc, OnOk, OnErr}
use Rattle.acl_posix.specs.Perms.{bits_of}
use Rattle.acl_nfs4.specs.Ace.{Nfsace4, unless_empty}
use Rattle.acl_nfs4.specs.Acl.{IsTooLong}
use Rattle.acl_nfs4.specs.ModeChange.{kept_of_entry}
use Rattle.acl_nfs4.proofs.ModeChangeKept.{effective_part}
use Rattle.acl_nfs4.proofs.ListLemmas.{OnErr-from}
use Rattle.acl_nfs4.proofs.ModeChangeParts.{kept_of-stays, kept_of-parts, kept_of-rest, too_long-within}
use Rattle.acl_nfs4.proofs.mode_change.push_kept_of.Given.{Over}
use Rattle.acl_nfs4.proofs.mode_change.push_kept_of.Goals as goal
use Rattle.acl_nfs4.proofs.mode_change.push_kept_of.Goals.{After-push_unless_empty, After-push_unless_empty-2}

pub returns-then-not-decides-clause-ok : goal.returns-then-not-decides-clause-ok
returns-then-not-decides-clause-ok g c =
    subst (λ (xs : List Nfsace4). OnOk c.push.result (c.push.new.self ≡ c.args.draft.now ++ xs))
    (sym (kept_of-stays (bits_of c.args.group) c.args.ace.now (sym c.decides.ensures ∙ c.if-not-decides.true)))
    c.push.ensures.ok

pub returns-then-not-decides-clause-full : goal.returns-then-not-decides-clause-full
returns-then-not-decides-clause-full g c =
    subst (λ (xs : List Nfsace4). OnErr c.push.result (IsTooLong g.row.N (c.args.draft.now ++ xs)))
    (sym (kept_of-stays (bits_of c.args.group) c.args.ace.now (sym c.decides.ensures ∙ c.if-not-decides.true)))
    c.push.ensures.full

pub returns-in_err-push-clause-full : goal.returns-in_err-push-clause-full
returns-in_err-push-clause-full g c =
    let group = bits_of c.args.group in
    let ace = c.args.ace.now in
    OnErr-from c.from_residual.result
    (too_long-within g.row.N c.args.draft.now (c.inherited_part.result ∷ []) (unless_empty (effective_part group ace)) (c.args.draft.now ++ kept_of_entry group ace)
    (ap (λ (xs : List Nfsace4). c.args.draft.now ++ xs)
    (ap (λ (part : Nfsace4). part ∷ unless_empty (effective_part group ace)) c.inherited_part.ensures.value
    ∙ sym (kept_of-parts group ace (sym c.decides.ensures ∙ c.if-not-decides.false) (sym c.is_inheritable.ensures ∙ c.if-is_inheritable.true))))
    c.in_err-push.ensures.full)

-- both parts are what the entry leaves
parts : (g : Over) (c : After-push_unless_empty g) → c.push-then-is_inheritable.new.self ++ unless_empty c.effective_part.result
    ≡ c.args.draft.now ++ kept_of_entry (bits_of c.args.group) c.args.ace.now
parts g c =
    let group = bits_of c.args.group in
    let ace = c.args.ace.now in
    ap₂ (λ (xs ys : List Nfsace4). xs ++ ys)
    (c.in_ok-push.ensures.ok ∙ ap (λ (part : Nfsace4). c.args.draft.now ++ part ∷ []) c.inherited_part.ensures.value)
    (ap unless_empty c.effective_part.ensures.value)
    ∙ append_assoc c.args.draft.now _ (unless_empty (effective_part group ace))
    ∙ ap (λ (xs : List Nfsace4). c.args.draft.now ++ xs)
    (sym (kept_of-parts group ace (sym c.decides.ensures ∙ c.if-not-decides.false) (sym c.is_inheritable.ensures ∙ c.if-is_inheritable.true)))

pub returns-then-is_inheritable-clause-ok : goal.returns-then-is_inheritable-clause-ok
returns-then-is_inheritable-clause-ok g c =
    subst (λ (xs : List Nfsace4). OnOk c.push_unless_empty.result (c.push_unless_empty.new.self ≡ xs)) (parts g c) c.push_unless_empty.ensures.ok

pub returns-then-is_inheritable-clause-full : goal.returns-then-is_inheritable-clause-full
returns-then-is_inheritable-clause-full g c =
    subst (λ (xs : List Nfsace4). OnErr c.push_unless_empty.result (IsTooLong g.row.N xs)) (parts g c) c.push_unless_empty.ensures.full

-- what its mask keeps is what the entry leaves
rest : (g : Over) (c : After-push_unless_empty-2 g) → c.args.draft.now ++ unless_empty c.with_kept_mask.result
    ≡ c.args.draft.now ++ kept_of_entry (bits_of c.args.group) c.args.ace.now
rest g c =
    ap (λ (xs : List Nfsace4). c.args.draft.now ++ xs)
    (ap unless_empty c.with_kept_mask.ensures
    ∙ sym (kept_of-rest (bits_of c.args.group) c.args.ace.now (sym c.decides.ensures ∙ c.if-not-decides.false)
    (sym c.is_inheritable.ensures ∙ c.if-is_inheritable.false)))

pub returns-clause-ok : goal.returns-clause-ok
returns-clause-ok g c =
    subst (λ (xs : List Nfsace4). OnOk c.push_unless_empty-2.result (c.push_unless_empty-2.new.self ≡ xs)) (rest g c) c.push_unless_empty-2.ensures.ok

pub returns-clause-full : goal.returns-clause-full
returns-clause-full g c =
    subst (λ (xs : List Nfsace4). OnErr c.push_unless_empty-2.result (IsTooLong g.row.N xs)) (rest g c) c.push_unless_empty-2.ensures.full
