use Rattle.std.proofs.Common.{◌≡◌, ◌≢◌, ◌∙◌, ℕ, ◌&&◌, ap, ap₂, sym, eq-eqb, true≢false}
use Rattle.acl_names.specs.Bits.{has, ◌∪◌}
use Rattle.acl_nfs4.specs.Mask.{mask_bits}
use Rattle.acl_nfs4.proofs.AllowedBits.{some_only}
use Rattle.acl_bridge.specs.Files.{decider_of, view_acl}
use Rattle.acl_bridge.specs.Lists.{bits_between}
use Rattle.acl_access.proofs.ChangeLemmas.{lost-bit, gained-bit}
use Rattle.acl_access.proofs.changes.change_of_bits.Goals as goal

pub returns : goal.returns
returns g c =
    let before = decider_of (view_acl c.args.before.now) in
    let after = decider_of (view_acl c.args.after.now) in
    let who = g.S.Subject.identity c.args.subject.now in
    let bits : ℕ = bits_between (view_acl c.args.before.now).list (view_acl c.args.after.now).list in
    let was : ℕ = mask_bits c.allowed-was.result in
    let is : ℕ = mask_bits c.allowed-is.result in
    let compared : mask_bits c.bits_between-bits.result ≡ bits = c.bits_between-bits.ensures in
    let are_before : (bit : ℕ) → has was bit ≡ (has bits bit && before who bit) =
    λ bit. c.allowed-was.ensures bit ∙ ap (λ (m : ℕ). has m bit && before who bit) compared in
    let are_after : (bit : ℕ) → has is bit ≡ (has bits bit && after who bit) =
    λ bit. c.allowed-is.ensures bit ∙ ap (λ (m : ℕ). has m bit && after who bit) compared in
    let apart : was ≢ is = λ same. true≢false (sym (eq-eqb was is same) ∙ sym c.eq.ensures ∙ c.if-eq.false) in
    record {
      lost = λ bit. ap (λ (m : ℕ). has m bit) (c.without.ensures tt) ∙ lost-bit before after bits who was is are_before are_after bit;
      gained = λ bit. ap (λ (m : ℕ). has m bit) (c.without-2.ensures tt) ∙ gained-bit before after bits who was is are_before are_after bit;
      some = λ none. some_only was is apart (sym (ap₂ (λ (a b : ℕ). a ∪ b) (c.without.ensures tt) (c.without-2.ensures tt)) ∙ none);
    }
