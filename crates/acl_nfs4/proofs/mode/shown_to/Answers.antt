use Rattle.std.proofs.Common.{◌∙◌, ap, ap₂, cond, ◌&&◌, refl, ℕ}
use Rattle.acl_names.specs.Bits.{has, ◌∪◌}
use Rattle.acl_nfs4.proofs.MaskBits.{contains-one}
use Rattle.acl_nfs4.proofs.mode.shown_to.Goals as goal

pub returns : goal.returns
unfolding has
returns c =
    let allowed = c.allowed_to-allowed.result.0 in
    c.bitor-2.ensures
    ∙ ap₂ (λ (a b : ℕ). a ∪ b)
    (c.bitor.ensures
    ∙ ap₂ (λ (a b : ℕ). a ∪ b)
    (c.bits_if-read.ensures tt ∙ ap (λ b. cond b 4 0) (c.contains.ensures tt ∙ contains-one allowed 0 ∙ c.allowed_to-allowed.ensures 0 refl))
    (c.bits_if-write.ensures tt
    ∙ ap (λ b. cond b 2 0) (c.allows_writing.ensures ∙ ap₂ (λ a b. a && b) (c.allowed_to-allowed.ensures 1 refl) (c.allowed_to-allowed.ensures 2 refl))))
    (c.bits_if-execute.ensures tt ∙ ap (λ b. cond b 1 0) (c.contains-2.ensures tt ∙ contains-one allowed 5 ∙ c.allowed_to-allowed.ensures 5 refl))
