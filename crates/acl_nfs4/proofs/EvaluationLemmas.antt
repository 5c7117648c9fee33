-- What a list says of a bit, part by part.
use Rattle.std.proofs.Common.{◌≡◌, ℕ, Bool, true, false, cond, ◌&&◌, refl, sym, ap, ◌∙◌, List, [], ◌∷◌, ◌++◌, Option, Some, None, ◌==◌, find, option_map, eqb-true}
use Rattle.acl_names.specs.Bits.{has}
use Rattle.acl_nfs4.specs.Ace.{decides, is_allow, plain_ace, unless_empty, Nfsace4}
use Rattle.acl_nfs4.specs.Who.{flags_of_who}
use Rattle.acl_nfs4.specs.Evaluation.{speaks, verdict}
use Rattle.acl_nfs4.specs.declared.ace.AceType.TheVariants.{Allow, Deny}
use Rattle.acl_nfs4.specs.declared.who.Who.{Who}
use Rattle.acl_names.proofs.BitSets.{has-zero}
use Rattle.acl_nfs4.proofs.AceLemmas.{by_flags_of_who}

-- the first of two answers that there is
abbrev pub or_else : {A : Type 0} → Option A → Option A → Option A
or_else None second = second
or_else (Some answer) second = Some answer

module _ (applies : Who → Bool) (bit : ℕ) where
  pub verdict-append : (xs ys : List Nfsace4) → verdict applies bit (xs ++ ys) ≡ or_else (verdict applies bit xs) (verdict applies bit ys)
  verdict-append [] ys = refl
  verdict-append (x ∷ xs) ys =
      elim (speaks applies bit x)
      as (λ b. option_map (λ (ace : Nfsace4). is_allow ace.kind) (cond b (Some x) (find (speaks applies bit) (xs ++ ys)))
      ≡ or_else (option_map (λ (ace : Nfsace4). is_allow ace.kind) (cond b (Some x) (find (speaks applies bit) xs))) (verdict applies bit ys))
      [ true ↦ refl | false ↦ verdict-append xs ys ]

  -- an entry alone
  pub verdict-one : (ace : Nfsace4) → verdict applies bit (ace ∷ []) ≡ cond (speaks applies bit ace) (Some (is_allow ace.kind)) None
  verdict-one ace =
      elim (speaks applies bit ace)
      as (λ b. option_map (λ (ace : Nfsace4). is_allow ace.kind) (cond b (Some ace) None) ≡ cond b (Some (is_allow ace.kind)) None)
      [ true ↦ refl | false ↦ refl ]

  and_none : (a b : Bool) → (a && (b && false)) ≡ false
  and_none true true = refl
  and_none true false = refl
  and_none false b = refl

  -- an empty entry says nothing
  pub verdict-unless_empty : (ace : Nfsace4) → verdict applies bit (unless_empty ace) ≡ cond (speaks applies bit ace) (Some (is_allow ace.kind)) None
  unfolding unless_empty speaks
  verdict-unless_empty ace = go (ace.mask == 0) refl
    where
      go : (b : Bool) → (ace.mask == 0) ≡ b
          → verdict applies bit (cond b [] (ace ∷ [])) ≡ cond (speaks applies bit ace) (Some (is_allow ace.kind)) None
      go false e = verdict-one ace
      go true e =
          sym (ap (λ b. cond b (Some (is_allow ace.kind)) None)
          (ap (λ m. decides ace && (applies ace.who && has m bit)) (eqb-true ace.mask 0 e)
          ∙ ap (λ b. decides ace && (applies ace.who && b)) (has-zero bit)
          ∙ and_none (decides ace) (applies ace.who)))

  -- an entry with no flags of its own
  pub speaks-allow : (who : Who) (mask : ℕ)
      → speaks applies bit (record { kind = Allow; flags = flags_of_who who; who = who; mask = mask }) ≡ (applies who && has mask bit)
  unfolding speaks decides has
  speaks-allow who mask = by_flags_of_who (λ flags. speaks applies bit (record { kind = Allow; flags = flags; who = who; mask = mask }) ≡ (applies who && has mask bit)) refl refl who

  pub speaks-deny : (who : Who) (mask : ℕ)
      → speaks applies bit (record { kind = Deny; flags = flags_of_who who; who = who; mask = mask }) ≡ (applies who && has mask bit)
  unfolding speaks decides has
  speaks-deny who mask = by_flags_of_who (λ flags. speaks applies bit (record { kind = Deny; flags = flags; who = who; mask = mask }) ≡ (applies who && has mask bit)) refl refl who

  pub verdict-allow : (who : Who) (mask : ℕ) → verdict applies bit (plain_ace Allow who mask) ≡ cond (applies who && has mask bit) (Some true) None
  verdict-allow who mask = verdict-unless_empty _ ∙ ap (λ b. cond b (Some true) None) (speaks-allow who mask)

  pub verdict-deny : (who : Who) (mask : ℕ) → verdict applies bit (plain_ace Deny who mask) ≡ cond (applies who && has mask bit) (Some false) None
  verdict-deny who mask = verdict-unless_empty _ ∙ ap (λ b. cond b (Some false) None) (speaks-deny who mask)
