-- What was reported of permissions is reported of them again.
use Rattle.std.proofs.Common.{◌≡◌, ◌∙◌, ◌+◌, ◌++◌, ℕ, Bool, List, [], ◌∷◌, ap, arith, length, map, refl, sym}
use Rattle.std.specs.List.{enumerate_from, flat_map}
use Rattle.acl_posix.specs.Perms.{bits_of}
use Rattle.acl_posix.specs.declared.perms.Perms.{Perms}
use Rattle.acl_listing_queries.specs.WhoSteps.{AreNumbersOf, number_there, numbers_of_each}

-- what is reported at places is the same of as many names
by_count : (f : ℕ → List ℕ) (from : ℕ) (names others : List (List ℕ)) → length others ≡ length names
    → flat_map (λ here. f here.0) (enumerate_from from names) ≡ flat_map (λ here. f here.0) (enumerate_from from others)
by_count f from [] [] same = refl
by_count f from [] (other ∷ others) same = absurd (omega (arith, same))
by_count f from (name ∷ names) [] same = absurd (omega (arith, same))
by_count f from (name ∷ names) (other ∷ others) same = ap (λ rest. f from ++ rest) (by_count f (from + 1) names others (omega (arith, same)))

pub are_numbers : (names : List (List ℕ)) (letters : List Perms) (reach : List Bool) (numbers : List ℕ) → numbers ≡ numbers_of_each names (map bits_of letters) reach
    → (count : ℕ) → count ≡ length names → AreNumbersOf count letters reach numbers
are_numbers names letters reach numbers is count many = λ others same.
    is ∙ by_count (number_there (map bits_of letters) reach) 0 names others (same ∙ many)

-- and of the same permissions of as many users, of whom the same are marked
pub still_numbers : (own letters : List Perms) → map bits_of own ≡ map bits_of letters → (own_reach reach : List Bool) → own_reach ≡ reach → (own_count count : ℕ) → own_count ≡ count
    → (numbers : List ℕ) → AreNumbersOf own_count own own_reach numbers → AreNumbersOf count letters reach numbers
still_numbers own letters same own_reach reach same_reach own_count count same_count numbers are = λ names many.
    are names (many ∙ sym same_count) ∙ ap (λ bits. numbers_of_each names bits own_reach) same ∙ ap (numbers_of_each names (map bits_of letters)) same_reach
