-- The permissions that a list shows, from what it allows.
use Rattle.std.proofs.Common.{◌≡◌, ℕ, zero, suc, ◌<◌, Bool, true, false, cond, ◌&&◌, refl, ap, ◌∙◌, List, arith, lit<}
use Rattle.acl_names.specs.Bits.{has, ◌∪◌}
use Rattle.acl_nfs4.specs.Mask.{mode_bits}
use Rattle.acl_nfs4.specs.Evaluation.{allows, shown_to}
use Rattle.acl_nfs4.specs.Ace.{Nfsace4}
use Rattle.acl_nfs4.specs.declared.who.Who.{Who}
use Rattle.acl_nfs4.proofs.MaskOfModes.{permission_of}

abbrev perms_from : Bool → Bool → Bool → Bool → ℕ
perms_from r w a x = cond r 4 0 ∪ cond (w && a) 2 0 ∪ cond x 1 0

-- permissions by their three bits
perms_from-has : (perms : ℕ) → perms < 8 → perms_from (has perms 2) (has perms 1) (has perms 1) (has perms 0) ≡ perms
unfolding has
perms_from-has zero small = refl
perms_from-has (suc zero) small = refl
perms_from-has (suc (suc zero)) small = refl
perms_from-has (suc (suc (suc zero))) small = refl
perms_from-has (suc (suc (suc (suc zero)))) small = refl
perms_from-has (suc (suc (suc (suc (suc zero))))) small = refl
perms_from-has (suc (suc (suc (suc (suc (suc zero)))))) small = refl
perms_from-has (suc (suc (suc (suc (suc (suc (suc zero))))))) small = refl
perms_from-has (suc (suc (suc (suc (suc (suc (suc (suc perms)))))))) small = absurd (omega arith)

-- a list that allows just the bits of these permissions shows them
pub shown_to-allows : (applies : Who → Bool) (aces : List Nfsace4) (perms : ℕ) → perms < 8
    → ((bit : ℕ) → has mode_bits bit ≡ true → allows applies bit aces ≡ has perms (permission_of bit))
    → shown_to applies aces ≡ perms
unfolding has
shown_to-allows applies aces perms small just =
    ap (λ r. perms_from r (allows applies 1 aces) (allows applies 2 aces) (allows applies 5 aces)) (just 0 refl)
    ∙ ap (λ w. perms_from (has perms 2) w (allows applies 2 aces) (allows applies 5 aces)) (just 1 refl)
    ∙ ap (λ a. perms_from (has perms 2) (has perms 1) a (allows applies 5 aces)) (just 2 refl)
    ∙ ap (λ x. perms_from (has perms 2) (has perms 1) (has perms 1) x) (just 5 refl)
    ∙ perms_from-has perms small

-- what a list shows is permissions
pub shown_to-small : (applies : Who → Bool) (aces : List Nfsace4) → shown_to applies aces < 8
shown_to-small applies aces = go (allows applies 0 aces) (allows applies 1 aces && allows applies 2 aces) (allows applies 5 aces)
  where
    go : (r w x : Bool) → cond r 4 0 ∪ cond w 2 0 ∪ cond x 1 0 < 8
    go true true true = lit< tt
    go true true false = lit< tt
    go true false true = lit< tt
    go true false false = lit< tt
    go false true true = lit< tt
    go false true false = lit< tt
    go false false true = lit< tt
    go false false false = lit< tt
