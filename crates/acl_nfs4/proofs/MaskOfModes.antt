-- The bits of a mask that a file mode speaks of.
use Rattle.std.proofs.Common.{◌≡◌, ℕ, zero, suc, ◌^◌, ◌<◌, Bool, true, false, cond, not, ◌&&◌, refl, sym, ap, ◌∙◌, arith, lit<, true≢false}
use Rattle.acl_names.specs.Bits.{has, ◌∪◌}
use Rattle.acl_names.proofs.BitSets.{has-without, has-above}
use Rattle.acl_nfs4.specs.Mask.{mode_bits, mask_of, rest_of}

-- what holds of the mode's four bits holds of each bit of the mode
pub each_mode_bit : (P : ℕ → Type 0) → P 0 → P 1 → P 2 → P 5 → (k : ℕ) → has mode_bits k ≡ true → P k
unfolding has
each_mode_bit P p0 p1 p2 p5 zero e = p0
each_mode_bit P p0 p1 p2 p5 (suc zero) e = p1
each_mode_bit P p0 p1 p2 p5 (suc (suc zero)) e = p2
each_mode_bit P p0 p1 p2 p5 (suc (suc (suc zero))) e = absurd (true≢false (sym e))
each_mode_bit P p0 p1 p2 p5 (suc (suc (suc (suc zero)))) e = absurd (true≢false (sym e))
each_mode_bit P p0 p1 p2 p5 (suc (suc (suc (suc (suc zero))))) e = p5
each_mode_bit P p0 p1 p2 p5 (suc (suc (suc (suc (suc (suc k)))))) e =
    absurd (true≢false (sym e ∙ has-above 6 mode_bits (suc (suc (suc (suc (suc (suc k)))))) (omega arith) (omega arith)))

-- the place of the permission that a bit of the mode stands for
abbrev pub permission_of : ℕ → ℕ
permission_of zero = 2
permission_of (suc zero) = 1
permission_of (suc (suc zero)) = 1
permission_of _ = 0

-- the mask of a file mode's permissions, by these
mask_from : Bool → Bool → Bool → ℕ
mask_from r w x = cond r 1 0 ∪ cond w 6 0 ∪ cond x 32 0

record HasBits (mask : ℕ) (r w x : Bool) : Type 0 where
  pub at_0 : has mask 0 ≡ r
  pub at_1 : has mask 1 ≡ w
  pub at_2 : has mask 2 ≡ w
  pub at_3 : has mask 3 ≡ false
  pub at_4 : has mask 4 ≡ false
  pub at_5 : has mask 5 ≡ x
  pub small : mask < 2 ^ 6

HasBits-mask_from : (r w x : Bool) → HasBits (mask_from r w x) r w x
unfolding has mask_from
HasBits-mask_from true true true = record { at_0 = refl; at_1 = refl; at_2 = refl; at_3 = refl; at_4 = refl; at_5 = refl; small = lit< tt }
HasBits-mask_from true true false = record { at_0 = refl; at_1 = refl; at_2 = refl; at_3 = refl; at_4 = refl; at_5 = refl; small = lit< tt }
HasBits-mask_from true false true = record { at_0 = refl; at_1 = refl; at_2 = refl; at_3 = refl; at_4 = refl; at_5 = refl; small = lit< tt }
HasBits-mask_from true false false = record { at_0 = refl; at_1 = refl; at_2 = refl; at_3 = refl; at_4 = refl; at_5 = refl; small = lit< tt }
HasBits-mask_from false true true = record { at_0 = refl; at_1 = refl; at_2 = refl; at_3 = refl; at_4 = refl; at_5 = refl; small = lit< tt }
HasBits-mask_from false true false = record { at_0 = refl; at_1 = refl; at_2 = refl; at_3 = refl; at_4 = refl; at_5 = refl; small = lit< tt }
HasBits-mask_from false false true = record { at_0 = refl; at_1 = refl; at_2 = refl; at_3 = refl; at_4 = refl; at_5 = refl; small = lit< tt }
HasBits-mask_from false false false = record { at_0 = refl; at_1 = refl; at_2 = refl; at_3 = refl; at_4 = refl; at_5 = refl; small = lit< tt }

HasBits-mask_of : (perms : ℕ) → HasBits (mask_of perms) (has perms 2) (has perms 1) (has perms 0)
unfolding mask_of mask_from
HasBits-mask_of perms = HasBits-mask_from (has perms 2) (has perms 1) (has perms 0)

-- a mask has a bit of the mode if the permissions have what it stands for
pub has-mask_of : (perms k : ℕ) → has mode_bits k ≡ true → has (mask_of perms) k ≡ has perms (permission_of k)
has-mask_of perms k =
    let bits = HasBits-mask_of perms in
    each_mode_bit (λ b. has (mask_of perms) b ≡ has perms (permission_of b)) bits.at_0 bits.at_1 bits.at_2 bits.at_5 k

-- and it has no other bit
pub mask_of-within : (perms k : ℕ) → has (mask_of perms) k ≡ true → has mode_bits k ≡ true
unfolding has
mask_of-within perms zero e = refl
mask_of-within perms (suc zero) e = refl
mask_of-within perms (suc (suc zero)) e = refl
mask_of-within perms (suc (suc (suc zero))) e = absurd (true≢false (sym e ∙ (HasBits-mask_of perms).at_3))
mask_of-within perms (suc (suc (suc (suc zero)))) e = absurd (true≢false (sym e ∙ (HasBits-mask_of perms).at_4))
mask_of-within perms (suc (suc (suc (suc (suc zero))))) e = refl
mask_of-within perms (suc (suc (suc (suc (suc (suc k)))))) e =
    absurd (true≢false (sym e ∙ has-above 6 (mask_of perms) (suc (suc (suc (suc (suc (suc k)))))) (HasBits-mask_of perms).small (omega arith)))

-- the rest of the mode's bits is what the mask lacks
pub has-rest_of : (perms k : ℕ) → has mode_bits k ≡ true → has (rest_of perms) k ≡ not (has perms (permission_of k))
has-rest_of perms k e =
    has-without mode_bits (mask_of perms) k
    ∙ ap (λ b. b && not (has (mask_of perms) k)) e
    ∙ ap not (has-mask_of perms k e)

-- the rest in terms of the mask
pub has-rest_of_mask : (perms k : ℕ) → has mode_bits k ≡ true → has (rest_of perms) k ≡ not (has (mask_of perms) k)
has-rest_of_mask perms k e = has-without mode_bits (mask_of perms) k ∙ ap (λ b. b && not (has (mask_of perms) k)) e
