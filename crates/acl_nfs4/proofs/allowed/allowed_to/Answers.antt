use Rattle.std.proofs.Common.{◌≡◌, ◌∙◌, ◌+◌, sym, ap, subst, drop, List, ℕ, eqb-true}
use Rattle.acl_names.specs.Bits.{without, ◌∩◌, ◌∪◌}
use Rattle.acl_nfs4.specs.Ace.{Nfsace4, is_allow}
use Rattle.acl_nfs4.specs.Who.{matches}
use Rattle.acl_nfs4.specs.Mask.{mask_bits}
use Rattle.acl_nfs4.proofs.AllowedBits.{AreFound, AreFound-all, AreFound-skip, AreFound-allow, AreFound-deny, AreFound-none, AreFound-step}
use Rattle.acl_nfs4.proofs.allowed.allowed_to.Goals as goal
use Rattle.acl_nfs4.proofs.allowed.allowed_to.Goals.{then-concerns, then-is_allow, else-is_allow, else-concerns}

pub loop-ace-init : goal.loop-ace-init
loop-ace-init g c =
    let applies = matches c.args.owner c.args.group (g.S.Subject.identity c.args.subject.now) in
    let bits : ℕ = mask_bits c.args.bits in
    subst (λ (allowed : ℕ). AreFound applies c.args.aces.now bits c.args.aces.now allowed bits)
    (sym (c.empty-allowed.ensures tt)) (AreFound-all applies c.args.aces.now bits)

pub returns-then-is_empty : goal.returns-then-is_empty
returns-then-is_empty g c =
    AreFound-none (matches c.args.owner c.args.group (g.S.Subject.identity c.args.subject.now)) c.args.aces.now (mask_bits c.args.bits) _ (mask_bits c.loop-ace.allowed) (mask_bits c.loop-ace.open)
    (eqb-true _ 0 (sym (c.is_empty.ensures tt) ∙ c.if-is_empty.true)) c.loop-ace.invariant

pub loop-ace-preserved : goal.loop-ace-preserved
loop-ace-preserved g c =
    let applies = matches c.args.owner c.args.group (g.S.Subject.identity c.args.subject.now) in
    let bits : ℕ = mask_bits c.args.bits in
    let whole = c.args.aces.now in
    let rest : List Nfsace4 = drop (c.loop-ace.ace-index + 1) whole in
    let ace = c.ace-item.result in
    let allowed_bits : ℕ = mask_bits c.loop-ace.allowed in
    let open_bits : ℕ = mask_bits c.loop-ace.open in
    AreFound-step applies whole bits c.loop-ace.ace-index ace allowed_bits open_bits (mask_bits c.if-concerns.allowed) (mask_bits c.if-concerns.open)
    c.loop-ace-test.true c.ace-item.is
    (elim c.if-concerns.branch [
      | then-concerns w ↦
          let concerned = sym c.concerns.ensures ∙ w.if-concerns.true in
          let undecided : mask_bits c.if-concerns.open ≡ without open_bits ace.mask =
          ap mask_bits w.open-is ∙ w.without-open.ensures tt ∙ ap (λ (m : ℕ). without open_bits m) w.mask-then-concerns.ensures.value in
          let kind : w.is_allow.result ≡ is_allow ace.kind = w.is_allow.ensures ∙ ap is_allow w.kind.ensures in
          elim w.if-is_allow.branch [
            | then-is_allow w' ↦ λ so_far.
                subst (λ (now : ℕ). AreFound applies whole bits rest now (mask_bits c.if-concerns.open))
                (sym (ap mask_bits (w.allowed-is ∙ w'.allowed-is) ∙ w'.union-allowed.ensures tt
                ∙ ap (λ (m : ℕ). allowed_bits ∪ m) (w'.intersection.ensures tt ∙ ap (λ (m : ℕ). open_bits ∩ m) w'.mask.ensures.value)))
                (subst (λ (now : ℕ). AreFound applies whole bits rest (allowed_bits ∪ open_bits ∩ ace.mask) now) (sym undecided)
                (AreFound-allow applies whole bits ace rest allowed_bits open_bits concerned (sym kind ∙ w'.if-is_allow.true) so_far))
            | else-is_allow w' ↦ λ so_far.
                subst (λ (now : ℕ). AreFound applies whole bits rest now (mask_bits c.if-concerns.open))
                (sym (ap mask_bits (w.allowed-is ∙ w'.allowed-is)))
                (subst (λ (now : ℕ). AreFound applies whole bits rest allowed_bits now) (sym undecided)
                (AreFound-deny applies whole bits ace rest allowed_bits open_bits concerned (sym kind ∙ w'.if-is_allow.false) so_far))
          ]
      | else-concerns w ↦ λ so_far.
          subst (λ (now : ℕ). AreFound applies whole bits rest now (mask_bits c.if-concerns.open)) (sym (ap mask_bits w.allowed-is))
          (subst (λ (now : ℕ). AreFound applies whole bits rest allowed_bits now) (sym (ap mask_bits w.open-is))
          (AreFound-skip applies whole bits ace rest allowed_bits open_bits (sym c.concerns.ensures ∙ w.if-concerns.false) so_far))
    ])
    c.loop-ace.invariant
