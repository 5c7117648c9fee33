use Rattle.std.proofs.Common.{◌≡◌, ◌∙◌, ◌&&◌, ℕ, ap, ap₂, sym}
use Rattle.acl_nfs4.specs.Ace.{Nfsace4, decides}
use Rattle.acl_nfs4.specs.Evaluation.{of_class}
use Rattle.acl_nfs4.specs.declared.ace.AceType.{AceType}
use Rattle.acl_nfs4.specs.declared.who.Who.{Who}
use Rattle.acl_wire.proofs.shown.reports_mode_of.Goals as goal

pub returns-then-not-decides : goal.returns-then-not-decides
returns-then-not-decides c =
    let ace : Nfsace4 = c.args.ace.now in
    let flags : c.from-flags.result ≡ ace.flags = c.from-flags.ensures ∙ c.bits.ensures tt ∙ c.flags.ensures.value in
    let d = sym (c.decides.ensures ace.who ace.mask ∙ ap₂ (λ (k : AceType) (f : ℕ). decides (record { kind = k; flags = f; who = ace.who; mask = ace.mask })) c.kind.ensures flags) ∙ c.if-not-decides.true in
    sym (ap (λ b. b && of_class c.args.class.now ace.who) d)

pub returns : goal.returns
returns c =
    let ace : Nfsace4 = c.args.ace.now in
    let flags : c.from-flags.result ≡ ace.flags = c.from-flags.ensures ∙ c.bits.ensures tt ∙ c.flags.ensures.value in
    let d = sym (c.decides.ensures ace.who ace.mask ∙ ap₂ (λ (k : AceType) (f : ℕ). decides (record { kind = k; flags = f; who = ace.who; mask = ace.mask })) c.kind.ensures flags) ∙ c.if-not-decides.false in
    c.is_of_class.ensures ∙ ap (λ (who : Who). of_class c.args.class.now who) c.who.ensures ∙ sym (ap (λ b. b && of_class c.args.class.now ace.who) d)
