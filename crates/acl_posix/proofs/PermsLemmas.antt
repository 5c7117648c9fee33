-- What the whole of a request is in.
use Rattle.std.proofs.Common.{◌≡◌, ◌∙◌, ℕ, true, ◌&&◌, ◌==◌, Option, Some, None, sym, ap, arith, inl, inr}
use Rattle.std.specs.Option.{option_map_or}
use Rattle.std.proofs.lemmas.Bool.{cases_eq, eq-eqb, ne_eqb}
use Rattle.std.proofs.lemmas.Nat.{and_assoc, and_le_r}
use Rattle.std.proofs.Math.Bool.{and-true, and-false}
use Rattle.acl_names.specs.Bits.{◌∩◌, has_all}
use Rattle.acl_posix.specs.Access.{under_mask}

-- both sets have the whole of a request if what they have in common does
pub has_all-∩ : (a b request : ℕ) → has_all (a ∩ b) request ≡ (has_all a request && has_all b request)
has_all-∩ a b request =
    let through : (a ∩ b) ∩ request ≡ a ∩ (b ∩ request) = and_assoc request a b in
    elim (cases_eq (b ∩ request) request) [
      | inl inside ↦
          let same : (a ∩ b) ∩ request ≡ a ∩ request = through ∙ ap (λ x. a ∩ x) inside in
          ap (λ x. x == request) same ∙ sym (ap (λ t. has_all a request && t) (eq-eqb (b ∩ request) request inside) ∙ and-true (has_all a request))
      | inr outside ↦
          let lacks : (a ∩ b) ∩ request ≡ request → ⊥ = λ whole.
          let small = and_le_r b request in
          let smaller = and_le_r a (b ∩ request) in
          outside (omega arith) in
          ne_eqb ((a ∩ b) ∩ request) request lacks
          ∙ sym (ap (λ t. has_all a request && t) (ne_eqb (b ∩ request) request outside) ∙ and-false (has_all a request))
    ]

-- permissions under a mask have the whole of a request if they and the mask do
pub has_all-masked : (mask : Option ℕ) (perms request : ℕ)
    → has_all (under_mask mask perms) request ≡ (has_all perms request && option_map_or (λ limit. has_all limit request) mask true)
has_all-masked None perms request = sym (and-true (has_all perms request))
has_all-masked (Some limit) perms request = has_all-∩ perms limit request
