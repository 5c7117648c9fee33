use Rattle.std.proofs.Common.{◌≡◌, ◌∙◌, ◌+◌, sym, ap, subst, drop, List, ℕ, eqb-true}
use Rattle.acl_names.specs.Bits.{without, ◌∩◌, ◌∪◌}
use Rattle.acl_nfs4.specs.Ace.{Nfsace4, is_allow}
use Rattle.acl_nfs4.specs.Evaluation.{of_class}
use Rattle.acl_nfs4.specs.Mask.{mask_bits, mode_bits}
use Rattle.acl_nfs4.proofs.EvaluationLoop.{IsFound, IsFound-all, IsFound-skip, IsFound-allow, IsFound-deny, IsFound-none, IsFound-step}
use Rattle.acl_nfs4.proofs.mode.allowed_to.Goals as goal
use Rattle.acl_nfs4.proofs.mode.allowed_to.Goals.{then-reports_mode_of, then-is_allow, else-is_allow, else-reports_mode_of}

pub loop-ace-init : goal.loop-ace-init
loop-ace-init c =
    subst (λ (allowed : ℕ). IsFound (of_class c.args.class.now) c.args.aces.now c.args.aces.now allowed mode_bits)
    (sym (c.empty-allowed.ensures tt)) (IsFound-all (of_class c.args.class.now) c.args.aces.now)

pub returns-then-is_empty : goal.returns-then-is_empty
returns-then-is_empty c =
    IsFound-none (of_class c.args.class.now) c.args.aces.now _ (mask_bits c.loop-ace.allowed) (mask_bits c.loop-ace.open)
    (eqb-true _ 0 (sym (c.is_empty.ensures tt) ∙ c.if-is_empty.true)) c.loop-ace.invariant

pub loop-ace-preserved : goal.loop-ace-preserved
loop-ace-preserved c =
    let applies = of_class c.args.class.now in
    let whole = c.args.aces.now in
    let rest : List Nfsace4 = drop (c.loop-ace.ace-index + 1) whole in
    let ace = c.ace-item.result in
    let allowed_bits : ℕ = mask_bits c.loop-ace.allowed in
    let open_bits : ℕ = mask_bits c.loop-ace.open in
    IsFound-step applies whole c.loop-ace.ace-index ace allowed_bits open_bits (mask_bits c.if-reports_mode_of.allowed) (mask_bits c.if-reports_mode_of.open)
    c.loop-ace-test.true c.ace-item.is
    (elim c.if-reports_mode_of.branch [
      | then-reports_mode_of w ↦
          let concerned = sym c.reports_mode_of.ensures ∙ w.if-reports_mode_of.true in
          let undecided : mask_bits c.if-reports_mode_of.open ≡ without open_bits ace.mask =
          ap mask_bits w.open-is ∙ w.without-open.ensures tt ∙ ap (λ (m : ℕ). without open_bits m) w.mask-then-reports_mode_of.ensures.value in
          let kind : w.is_allow.result ≡ is_allow ace.kind = w.is_allow.ensures ∙ ap is_allow w.kind.ensures in
          elim w.if-is_allow.branch [
            | then-is_allow w' ↦ λ so_far.
                subst (λ (now : ℕ). IsFound applies whole rest now (mask_bits c.if-reports_mode_of.open))
                (sym (ap mask_bits (w.allowed-is ∙ w'.allowed-is) ∙ w'.union-allowed.ensures tt
                ∙ ap (λ (m : ℕ). allowed_bits ∪ m) (w'.intersection.ensures tt ∙ ap (λ (m : ℕ). open_bits ∩ m) w'.mask.ensures.value)))
                (subst (λ (now : ℕ). IsFound applies whole rest (allowed_bits ∪ open_bits ∩ ace.mask) now) (sym undecided)
                (IsFound-allow applies whole ace rest allowed_bits open_bits concerned (sym kind ∙ w'.if-is_allow.true) so_far))
            | else-is_allow w' ↦ λ so_far.
                subst (λ (now : ℕ). IsFound applies whole rest now (mask_bits c.if-reports_mode_of.open))
                (sym (ap mask_bits (w.allowed-is ∙ w'.allowed-is)))
                (subst (λ (now : ℕ). IsFound applies whole rest allowed_bits now) (sym undecided)
                (IsFound-deny applies whole ace rest allowed_bits open_bits concerned (sym kind ∙ w'.if-is_allow.false) so_far))
          ]
      | else-reports_mode_of w ↦ λ so_far.
          subst (λ (now : ℕ). IsFound applies whole rest now (mask_bits c.if-reports_mode_of.open)) (sym (ap mask_bits w.allowed-is))
          (subst (λ (now : ℕ). IsFound applies whole rest allowed_bits now) (sym (ap mask_bits w.open-is))
          (IsFound-skip applies whole ace rest allowed_bits open_bits (sym c.reports_mode_of.ensures ∙ w.if-reports_mode_of.false) so_far))
    ])
    c.loop-ace.invariant
