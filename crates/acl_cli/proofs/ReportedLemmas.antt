-- Whether anything was reported.
use Rattle.std.proofs.Common.{◌≡◌, ◌∙◌, ◌++◌, ◌||◌, not, ℕ, Bool, false, List, [], ◌∷◌, ap, append-nil, arith, length, length-append, refl, lt-ltb}
use Rattle.std.specs.Prelude.{nat_lt}
use Rattle.std.proofs.lemmas.Bool.Decides.{nat_tests}
use Rattle.acl_cli.specs.Reporting.{is_empty}

not_less : (n : ℕ) → nat_lt n n ≡ false
not_less n = grind (arith, nat_tests)

-- a text has grown if something was appended
grown : (kept more : List ℕ) → nat_lt (length kept) (length (kept ++ more)) ≡ not (is_empty more)
grown kept [] =
    let same : length (kept ++ []) ≡ length kept = ap length (append-nil kept) in
    ap (nat_lt (length kept)) same ∙ not_less (length kept)
grown kept (byte ∷ more) = lt-ltb (length kept) (length (kept ++ byte ∷ more)) (omega (arith, length-append kept (byte ∷ more)))

either : (reported more : List ℕ) → (not (is_empty reported) || not (is_empty more)) ≡ not (is_empty (reported ++ more))
either [] more = refl
either (byte ∷ reported) more = refl

-- something is reported if it was before, or if it is now
pub some_more : (some : Bool) (reported kept more now : List ℕ) → some ≡ not (is_empty reported) → now ≡ kept ++ more → (some || nat_lt (length kept) (length now)) ≡ not (is_empty (reported ++ more))
some_more some reported kept more now is now_is =
    ap (λ b. b || nat_lt (length kept) (length now)) is
    ∙ ap (λ now. not (is_empty reported) || nat_lt (length kept) (length now)) now_is
    ∙ ap (λ b. not (is_empty reported) || b) (grown kept more)
    ∙ either reported more
