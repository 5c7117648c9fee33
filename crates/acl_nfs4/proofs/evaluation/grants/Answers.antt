use Rattle.std.proofs.Common.{◌≡◌, ◌↔◌, ◌∙◌, ◌+◌, refl, sym, ap, subst, drop, not, ◌∷◌, List, ℕ, bit_and, ◌==◌}
use Rattle.std.proofs.lemmas.Bool.{and_parts, eqb-true, eq-eqb, true≢false, not-false}
use Rattle.std.proofs.lemmas.List.{drop_all}
use Rattle.acl_names.specs.Bits.{without}
use Rattle.acl_nfs4.specs.Ace.{Nfsace4, decides, is_allow}
use Rattle.acl_nfs4.specs.Evaluation.{Grants}
use Rattle.acl_nfs4.specs.Mask.{mask_bits}
use Rattle.acl_nfs4.specs.Who.{matches}
use Rattle.acl_nfs4.proofs.EvaluationLoop.{Grants-step, Grants-skip, Grants-allow, Grants-past, Grants-denied, Grants-end, Grants-nothing, denied-here}
use Rattle.acl_nfs4.proofs.evaluation.grants.Goals as goal
use Rattle.acl_nfs4.proofs.evaluation.grants.Goals.{then-concerns+then-is_allow, then-concerns+else-is_allow+else-intersects, else-concerns}

pub returns-then-is_empty : goal.returns-then-is_empty
returns-then-is_empty c =
    let applies = matches c.args.owner c.args.group c.args.requester.now in
    let none : mask_bits c.loop-ace.open ≡ 0 = eqb-true _ 0 (sym (c.is_empty.ensures tt) ∙ c.if-is_empty.true) in
    (λ _. c.loop-ace.invariant.1 (Grants-nothing applies (drop c.loop-ace.ace-index c.args.aces.now) (mask_bits c.loop-ace.open) none), λ _. refl)

pub returns-then-intersects : goal.returns-then-intersects
returns-then-intersects c =
    let applies = matches c.args.owner c.args.group c.args.requester.now in
    let both = and_parts (decides c.ace-item.result) (applies c.ace-item.result.who) (sym c.concerns.ensures ∙ c.if-concerns.true) in
    denied-here applies _ c.args.aces.now c.loop-ace.ace-index c.ace-item.result (mask_bits c.loop-ace.open) c.loop-ace-test.true c.ace-item.is
    (Grants-denied applies c.ace-item.result (drop (c.loop-ace.ace-index + 1) c.args.aces.now) (mask_bits c.loop-ace.open) both.0 both.1
    (ap is_allow (sym c.kind.ensures) ∙ sym c.is_allow.ensures ∙ c.if-is_allow.false)
    (λ none. true≢false (sym c.if-intersects.true ∙ c.intersects.ensures tt
    ∙ ap (λ (m : ℕ). not (bit_and (mask_bits c.loop-ace.open) m == 0)) c.mask-else-is_allow.ensures.value ∙ ap not (eq-eqb _ 0 none))))
    c.loop-ace.invariant

pub loop-ace-preserved : goal.loop-ace-preserved
loop-ace-preserved c =
    let applies = matches c.args.owner c.args.group c.args.requester.now in
    let rest : List Nfsace4 = drop (c.loop-ace.ace-index + 1) c.args.aces.now in
    let ace = c.ace-item.result in
    let open_bits : ℕ = mask_bits c.loop-ace.open in
    Grants-step applies _ c.args.aces.now c.loop-ace.ace-index ace open_bits (mask_bits c.if-concerns.open) c.loop-ace-test.true c.ace-item.is
    (elim c.if-concerns.branch [
      | then-concerns+then-is_allow w ↦
          let both = and_parts (decides ace) (applies ace.who) (sym c.concerns.ensures ∙ w.if-concerns.true) in
          subst (λ (now : ℕ). Grants applies (ace ∷ rest) open_bits ↔ Grants applies rest now)
          (sym (ap mask_bits w.open-is ∙ w.without-open.ensures tt ∙ ap (λ (m : ℕ). without open_bits m) w.mask.ensures.value))
          (Grants-allow applies ace rest open_bits both.0 both.1 (ap is_allow (sym w.kind.ensures) ∙ sym w.is_allow.ensures ∙ w.if-is_allow.true))
      | then-concerns+else-is_allow+else-intersects w ↦
          let both = and_parts (decides ace) (applies ace.who) (sym c.concerns.ensures ∙ w.if-concerns.true) in
          subst (λ (now : ℕ). Grants applies (ace ∷ rest) open_bits ↔ Grants applies rest now)
          (sym (ap mask_bits w.open-is))
          (Grants-past applies ace rest open_bits both.0 both.1
          (ap (λ (m : ℕ). bit_and open_bits m) (sym w.mask-else-is_allow.ensures.value)
          ∙ eqb-true _ 0 (not-false _ (sym (w.intersects.ensures tt) ∙ w.if-intersects.false))))
      | else-concerns w ↦
          subst (λ (now : ℕ). Grants applies (ace ∷ rest) open_bits ↔ Grants applies rest now)
          (sym (ap mask_bits w.open-is))
          (Grants-skip applies ace rest open_bits (sym c.concerns.ensures ∙ w.if-concerns.false))
    ])
    c.loop-ace.invariant

pub returns : goal.returns
returns c =
    let applies = matches c.args.owner c.args.group c.args.requester.now in
    let ended = subst (λ (xs : List Nfsace4). Grants applies c.args.aces.now (mask_bits c.args.requested) ↔ Grants applies xs (mask_bits c.loop-ace.open))
    (drop_all c.loop-ace.ace-index c.args.aces.now c.loop-ace-test.false) c.loop-ace.invariant in
    let last = Grants-end applies (mask_bits c.loop-ace.open) in
    (λ e. ended.1 (last.1 (sym (c.is_empty-2.ensures tt) ∙ e)), λ g. c.is_empty-2.ensures tt ∙ last.0 (ended.0 g))
