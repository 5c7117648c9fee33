-- Sets of bits, as the numbers that hold them.
use Rattle.std.specs.Prelude.{ℕ, Bool, List, [], ◌∷◌, ◌==◌, bit_and, bit_or, bit_xor}
use Rattle.std.specs.Int.{bit_at}

infixl 70 ◌∩◌
infixl 65 ◌∪◌
-- what both sets have
abbrev pub ◌∩◌ : ℕ → ℕ → ℕ
a ∩ b = bit_and a b

-- what either set has
abbrev pub ◌∪◌ : ℕ → ℕ → ℕ
a ∪ b = bit_or a b

-- whether a set has the whole of the request
abbrev pub has_all : ℕ → ℕ → Bool
has_all set request = set ∩ request == request

-- whether the bit, named by its place, is in the set
unfoldable pub has : ℕ → ℕ → Bool
has set bit = bit_at set bit == 1

-- the bits of the set that are not among those removed
unfoldable pub without : ℕ → ℕ → ℕ
without set removed = bit_xor set (bit_and set removed)

-- the bits that are in one of the sets
abbrev pub union : List ℕ → ℕ
union [] = 0
union (set ∷ sets) = set ∪ union sets
