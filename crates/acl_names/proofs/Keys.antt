-- The keys by which members are sorted: names and ids.
use Rattle.std.proofs.Common.{◌≡◌, ℕ, ◌==◌, List, sym, arith, is_eq, nat_cmp, bytes_eq}
use Rattle.std.specs.Cmp.Lexicographic.{slice_cmp}
use Rattle.std.proofs.lemmas.Bool.Decides.{nat_tests}
use Rattle.std.proofs.lemmas.Map.Text.{is_eq-slice_cmp}

pub same_name : (a b : List ℕ) → bytes_eq a b ≡ is_eq (slice_cmp nat_cmp a b)
same_name a b = sym (is_eq-slice_cmp a b)

pub same_id : (a b : ℕ) → (a == b) ≡ is_eq (nat_cmp a b)
same_id a b = grind (arith, nat_tests)
