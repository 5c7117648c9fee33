-- Decimals, two and four digits at a time.
use Rattle.std.proofs.Common.{◌≡◌, ◌∙◌, ℕ, ◌/◌, ◌%◌, ◌^◌, ◌<◌, ◌≤◌, ◌++◌, arith, ap, decimal, append_assoc}
use Rattle.itoa.proofs.Decimal.{decimal_four}
use Rattle.acl_names.specs.Digits.{pair}

-- a number of nine or ten digits
pub decimal_long : (n : ℕ) → 100000000 ≤ n → n < 2 ^ 64
    → decimal n ≡ decimal (n / 100000000) ++ ((pair (n / 10000 % 10000 / 100) ++ pair (n / 10000 % 10000 % 100)) ++ (pair (n % 10000 / 100) ++ pair (n % 10000 % 100)))
decimal_long n low high =
    let a : n / 10000 / 10000 ≡ n / 100000000 = omega arith in
    let high_part : decimal (n / 10000) ≡ decimal (n / 100000000) ++ (pair (n / 10000 % 10000 / 100) ++ pair (n / 10000 % 10000 % 100)) =
    rw a at (decimal_four (n / 10000) (omega arith) (omega arith)) in
    decimal_four n (omega arith) high
    ∙ ap (λ front. front ++ (pair (n % 10000 / 100) ++ pair (n % 10000 % 100))) high_part
    ∙ append_assoc (decimal (n / 100000000)) (pair (n / 10000 % 10000 / 100) ++ pair (n / 10000 % 10000 % 100)) (pair (n % 10000 / 100) ++ pair (n % 10000 % 100))
