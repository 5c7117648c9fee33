-- Sets of bits: what the operations leave of a bit, and sets with the same bits.
use Rattle.std.proofs.Common.{◌≡◌, ℕ, zero, suc, ◌+◌, ◌^◌, ◌<◌, ◌≤◌, min, max, false, not, ◌&&◌, ◌||◌, refl, sym, ap, ◌∙◌, arith, bit_and, bit_or, ◌%◌, ◌==◌, true≢false}
use Rattle.std.specs.Int.{bit_at}
use Rattle.std.proofs.lemmas.Nat.Bits.{bit_at_and, bit_at_or, bit_at_xor, bit_at-lt, bit_at-zero, same_from_bits, bit_at_above}
use Rattle.acl_names.specs.Bits.{has, without}

-- what holds of each two digits
of_digits : (P : ℕ → ℕ → Type 0) → P 0 0 → P 0 1 → P 1 0 → P 1 1 → (x y : ℕ) → x < 2 → y < 2 → P x y
of_digits P a b c d zero zero p q = a
of_digits P a b c d zero (suc zero) p q = b
of_digits P a b c d (suc zero) zero p q = c
of_digits P a b c d (suc zero) (suc zero) p q = d
of_digits P a b c d (suc (suc x)) y p q = absurd (omega arith)
of_digits P a b c d zero (suc (suc y)) p q = absurd (omega arith)
of_digits P a b c d (suc zero) (suc (suc y)) p q = absurd (omega arith)

one_of_min : (x y : ℕ) → x < 2 → y < 2 → (min x y == 1) ≡ ((x == 1) && (y == 1))
one_of_min = of_digits (λ x y. (min x y == 1) ≡ ((x == 1) && (y == 1))) refl refl refl refl

one_of_max : (x y : ℕ) → x < 2 → y < 2 → (max x y == 1) ≡ ((x == 1) || (y == 1))
one_of_max = of_digits (λ x y. (max x y == 1) ≡ ((x == 1) || (y == 1))) refl refl refl refl

one_of_difference : (x y : ℕ) → x < 2 → y < 2 → ((x + min x y) % 2 == 1) ≡ ((x == 1) && not (y == 1))
one_of_difference = of_digits (λ x y. ((x + min x y) % 2 == 1) ≡ ((x == 1) && not (y == 1))) refl refl refl refl

same_digit : (x y : ℕ) → x < 2 → y < 2 → (x == 1) ≡ (y == 1) → x ≡ y
same_digit = of_digits (λ x y. (x == 1) ≡ (y == 1) → x ≡ y) (λ e. refl) (λ e. absurd (true≢false (sym e))) (λ e. absurd (true≢false e)) (λ e. refl)

pub has-and : (a b k : ℕ) → has (bit_and a b) k ≡ (has a k && has b k)
unfolding has
has-and a b k = ap (λ x. x == 1) (bit_at_and a b k) ∙ one_of_min _ _ (bit_at-lt a k) (bit_at-lt b k)

pub has-or : (a b k : ℕ) → has (bit_or a b) k ≡ (has a k || has b k)
unfolding has
has-or a b k = ap (λ x. x == 1) (bit_at_or a b k) ∙ one_of_max _ _ (bit_at-lt a k) (bit_at-lt b k)

pub has-without : (a b k : ℕ) → has (without a b) k ≡ (has a k && not (has b k))
unfolding has without
has-without a b k =
    ap (λ x. x == 1) (bit_at_xor a (bit_and a b) k)
    ∙ ap (λ x. (bit_at a k + x) % 2 == 1) (bit_at_and a b k)
    ∙ one_of_difference _ _ (bit_at-lt a k) (bit_at-lt b k)

pub has-zero : (k : ℕ) → has 0 k ≡ false
unfolding has
has-zero k = ap (λ x. x == 1) (bit_at-zero k)

pub has-above : (n set k : ℕ) → set < 2 ^ n → n ≤ k → has set k ≡ false
unfolding has
has-above n set k small above = ap (λ x. x == 1) (bit_at_above set n k small above)

-- sets with the same bits are the same
pub same_bits : (a b : ℕ) → ((k : ℕ) → has a k ≡ has b k) → a ≡ b
unfolding has
same_bits a b same = same_from_bits a b (λ k. same_digit _ _ (bit_at-lt a k) (bit_at-lt b k) (same k))

-- a set with no bit is empty
pub no_bits : (a : ℕ) → ((k : ℕ) → has a k ≡ false) → a ≡ 0
no_bits a none = same_bits a 0 (λ k. none k ∙ sym (has-zero k))
