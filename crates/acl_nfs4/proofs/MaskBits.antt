-- Whether a set has one bit, by the test that a program makes.
use Rattle.std.proofs.Common.{◌≡◌, ℕ, zero, suc, ◌^◌, ◌*◌, ◌<◌, false, ap, ◌∙◌, arith, ◌==◌, eq-eqb, ne_eqb, pow_pos}
use Rattle.std.specs.Int.{bit_at}
use Rattle.std.proofs.lemmas.Nat.Bits.{and_pow, bit_at-lt}
use Rattle.acl_names.specs.Bits.{has, ◌∩◌}

pub contains-one : (set k : ℕ) → (set ∩ 2 ^ k == 2 ^ k) ≡ has set k
unfolding has
contains-one set k = ap (λ n. n == 2 ^ k) (and_pow set k) ∙ go (bit_at set k) (bit_at-lt set k)
  where
    go : (digit : ℕ) → digit < 2 → (digit * 2 ^ k == 2 ^ k) ≡ (digit == 1)
    go zero small = ne_eqb (0 * 2 ^ k) (2 ^ k) (λ e. absurd (omega (arith, pow_pos k)))
    go (suc zero) small = eq-eqb (1 * 2 ^ k) (2 ^ k) (omega arith)
    go (suc (suc digit)) small = absurd (omega arith)

-- a set without the bit shares nothing with it
pub lacks-one : (set k : ℕ) → has set k ≡ false → set ∩ 2 ^ k ≡ 0
unfolding has
lacks-one set k lacks = and_pow set k ∙ go (bit_at set k) (bit_at-lt set k) lacks
  where
    go : (digit : ℕ) → digit < 2 → (digit == 1) ≡ false → digit * 2 ^ k ≡ 0
    go zero small e = omega arith
    go (suc zero) small e = absurd (cc)
    go (suc (suc digit)) small e = absurd (omega arith)
