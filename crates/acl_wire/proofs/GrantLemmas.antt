-- A request is granted if all of its bits are allowed.
use Rattle.std.proofs.Common.{◌≡◌, ℕ, Bool, true, false, ◌&&◌, ◌==◌, IsTrue, ◌↔◌, List, refl, sym, ap, ◌∙◌}
use Rattle.std.proofs.lemmas.Bool.{and_parts, eqb-true, eq-eqb}
use Rattle.acl_names.specs.Bits.{has}
use Rattle.acl_names.specs.Requester.{Identity}
use Rattle.acl_names.proofs.BitSets.{same_bits}
use Rattle.acl_nfs4.specs.Ace.{Nfsace4}
use Rattle.acl_nfs4.specs.Evaluation.{Grants, allows}
use Rattle.acl_nfs4.specs.Who.{matches}
use Rattle.acl_wire.specs.Nfs4.{IsAllowed}

pub granted-allowed : (aces : List Nfsace4) (owner group : ℕ) (requester : Identity) (request allowed : ℕ) → IsAllowed aces owner group requester request allowed
    → IsTrue (allowed == request) ↔ Grants (matches owner group requester) aces request
granted-allowed aces owner group requester request allowed is = (
  λ same bit in_request.
      let equal : allowed ≡ request = eqb-true _ _ same in
      let both = sym (is bit) ∙ ap (λ (set : ℕ). has set bit) equal ∙ in_request in
      (and_parts (has request bit) (allows (matches owner group requester) bit aces) both).1,
  λ grants. eq-eqb _ _ (same_bits allowed request (λ bit. is bit ∙ go bit (has request bit) refl grants)),
)
  where
    go : (bit : ℕ) (b : Bool) → has request bit ≡ b → Grants (matches owner group requester) aces request → (b && allows (matches owner group requester) bit aces) ≡ b
    go bit true e grants = grants bit e
    go bit false e grants = refl
