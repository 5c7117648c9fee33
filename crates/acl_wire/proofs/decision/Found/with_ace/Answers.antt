use Rattle.std.proofs.Common.{◌∙◌, ℕ, sym, ap}
use Rattle.acl_names.specs.Bits.{◌∩◌}
use Rattle.acl_nfs4.specs.Who.{matches}
use Rattle.acl_wire.proofs.DecisionLemmas.{with_ace-closed, with_ace-idle}
use Rattle.acl_wire.proofs.decision.Found.with_ace.Goals as goal
use Rattle.acl_wire.proofs.decision.Found.with_ace.Goals.{then-reported-eq0-via-then-reported-eq0, then-reported-eq0-via-else-reported-eq0+then-not-concerns}

pub returns-then-reported-eq0 : goal.returns-then-reported-eq0
returns-then-reported-eq0 g c =
    let applies = matches c.args.owner c.args.group (g.S.Subject.identity c.args.subject.now) in
    elim c.then-reported-eq0.branch [
      | then-reported-eq0-via-then-reported-eq0 w ↦ with_ace-closed applies c.args.self c.args.ace.now
          (ap (λ (mask : ℕ). c.args.self.left ∩ mask) (sym (c.bits.ensures tt ∙ c.mask.ensures.value)) ∙ w.if-reported-eq0.true)
      | then-reported-eq0-via-else-reported-eq0+then-not-concerns w ↦ with_ace-idle applies c.args.self c.args.ace.now (sym w.concerns.ensures ∙ w.if-not-concerns.true)
    ]
